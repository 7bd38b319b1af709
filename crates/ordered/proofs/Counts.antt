-- For callers: the new list of an insertion of many, and its count, from any list that lists the same records. Assumes nothing.
use Rattle.std.proofs.Common.{◌≡◌, ℕ, ◌+◌, ◌≤◌, List, length, take, Ordering, sym, ap, ◌∙◌, arith}
use Rattle.std.proofs.lemmas.List.{length-take-le}
use Rattle.order.specs.Total.{TotalOrder}
use Rattle.order.specs.Listed.{In, Rising, ListsExactly}
use Rattle.order.proofs.Rises.{exactly_same}
use Rattle.ordered.specs.Gathered.{AllIn}

pub all_in_is : {X : Type 0} {cmp : X → X → Ordering} (o : TotalOrder cmp) (before after zs : List X) (n m r : ℕ) → AllIn cmp before after n m r → Rising cmp (take n before) → n + m ≤ length after → ListsExactly cmp zs (λ z. In z (take (n + m) before)) → (take r after ≡ zs) × (r ≡ length zs)
all_in_is o before after zs n m r h c le l =
    let few = h.fewer in
    let e = exactly_same o (λ z. In z (take (n + m) before)) (λ z. In z (take (n + m) before)) (λ _ k. k) (λ _ k. k) (take r after) zs (h.lists c) l in
    (e, sym (length-take-le r after (omega arith)) ∙ ap length e)
