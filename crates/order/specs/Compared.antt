-- What the answers of a total order give. Assumes nothing.
use Rattle.std.specs.Prelude.{◌≡◌, ℕ, true, ◌≢◌, refl}
use Rattle.std.specs.declared.cmp.Ordering.TheVariants.{Less, Equal, Greater}
use Rattle.std.specs.declared.cmp.Ordering.{Ordering}
use Rattle.std.proofs.Common.{ap, ◌∙◌, arith}
use Rattle.std.specs.Ordering.{ordering_reverse, is_eq}
use Rattle.std.proofs.lemmas.Bool.{false≢true}
use Rattle.order.specs.Total.{TotalOrder}

pub by_answer : {G : Type 0} (o : Ordering) → (o ≡ Less → G) → (o ≡ Equal → G) → (o ≡ Greater → G) → G
by_answer Less f g h = f refl
by_answer Equal f g h = g refl
by_answer Greater f g h = h refl

pub less≢equal : (o : Ordering) → o ≡ Less → o ≢ Equal
less≢equal o p q = let z : ◌≡◌ {A = ℕ} 0 1 = cc in omega arith

pub less≢greater : (o : Ordering) → o ≡ Less → o ≢ Greater
less≢greater o p q = let z : ◌≡◌ {A = ℕ} 0 1 = cc in omega arith

pub is_equal : (o : Ordering) → is_eq o ≡ true → o ≡ Equal
is_equal Less e = absurd (false≢true e)
is_equal Equal e = refl
is_equal Greater e = absurd (false≢true e)

module _ {V : Type 0} {cmp : V → V → Ordering} (o : TotalOrder cmp) where
  pub not_itself : (x y : V) → x ≡ y → cmp x y ≢ Less
  not_itself x y e l = less≢equal (cmp x x) (ap (cmp x) e ∙ l) (o.itself x)

  -- neither is smaller
  pub tie : (x y : V) → (cmp x y ≢ Less) → (cmp y x ≢ Less) → x ≡ y
  tie x y f g = by_answer (cmp x y) (λ l. absurd (f l)) (o.equal x y) (λ h. absurd (g (o.flip y x ∙ ap ordering_reverse h)))
