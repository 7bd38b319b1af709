-- A leading part of an order is a key. Assumes nothing.
use Rattle.std.proofs.Common.{◌≡◌, ◌⊎◌, Ordering, Less, Equal, Greater, sym, refl, ap, ◌∙◌, inl, inr, ⊎_elim}
use Rattle.std.specs.Ordering.{ordering_then}
use Rattle.order.specs.Total.{TotalOrder}
use Rattle.order.specs.Compared.{less≢greater}
use Rattle.ordered.specs.Found.{Steady}
use Rattle.ordered.proofs.Edits.{cut_steady}

pub first_less : (a b : Ordering) → ordering_then a b ≡ Less → (a ≡ Less) ⊎ (a ≡ Equal)
first_less Less b e = inl refl
first_less Equal b e = inr refl
first_less Greater b e = absurd (less≢greater Greater e refl)

-- records ordered by `lead` first, and then in any way: a value of `lead` is a key. This answers the law `steady`
pub leading : {X K : Type 0} {f : K → K → Ordering} (o : TotalOrder f) (lead : X → K) (rest : X → X → Ordering) (k : K) (x y : X) → ordering_then (f (lead x) (lead y)) (rest x y) ≡ Less → Steady (f (lead x) k) (f (lead y) k)
leading {X} {K} {f} o lead rest k x y h =
    ⊎_elim (λ l. cut_steady o k (lead x) (lead y) l) (λ e. let same = o.equal (lead x) (lead y) e in (λ l. ap (λ z. f z k) same ∙ l, λ g. ap (λ z. f z k) (sym same) ∙ g)) (first_less (f (lead x) (lead y)) (rest x y) h)
