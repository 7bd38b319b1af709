-- Fingerprints and passages are totally ordered: their fields tell them apart.
use Rattle.std.specs.declared.cmp.Ordering.{Ordering}
use Rattle.order.specs.Total.{TotalOrder}
use Rattle.order.specs.Orders.{numbers, order_both, order_by}
use Rattle.model.specs.Prints.{by_fields}
use Rattle.model.specs.Passages.{eight, by_eight}

pub fields_total : {V : Type 0} {cmp : V → V → Ordering} → TotalOrder cmp → TotalOrder (by_fields cmp)
fields_total o =
    order_by (order_both o (order_both numbers numbers)) (λ x. (x.value, (x.file, x.place)))
    (λ x y e i. record { value = (e i).0; file = (e i).1.0; place = (e i).1.1 })

pub eight_total : TotalOrder by_eight
eight_total =
    order_by (order_both numbers (order_both numbers (order_both numbers (order_both numbers (order_both (order_both numbers numbers) (order_both numbers numbers)))))) eight
    (λ x y e i.
    record {
      other = (e i).0;
      left = (e i).1.0;
      right = (e i).1.1.0;
      len = (e i).1.1.1.0;
      here = record { from = (e i).1.1.1.1.0.0; to = (e i).1.1.1.1.0.1 };
      there = record { from = (e i).1.1.1.1.1.0; to = (e i).1.1.1.1.1.1 };
    })
