-- The order of numbers, of pairs, and by a key: with these a record has its order from nested pairs of its fields. Assumes nothing.
use Rattle.std.specs.Prelude.{◌≡◌, ◌<◌, ◌⊎◌, refl}
use Rattle.std.specs.declared.cmp.Ordering.TheVariants.{Less, Equal, Greater}
use Rattle.std.specs.declared.cmp.Ordering.{Ordering}
use Rattle.std.proofs.Common.{sym, ap, ap₂, subst, ◌∙◌, inl, inr, ⊎_elim, arith}
use Rattle.std.specs.Cmp.{ranks, nat_cmp_total, IsTotalOrder}
use Rattle.std.specs.Ordering.{ordering_reverse, ordering_then, MatchOrdering, nat_cmp}
use Rattle.order.specs.Total.{TotalOrder, by_both, by_key}
use Rattle.order.specs.Compared.{less≢greater, less≢equal, by_answer}

-- numbers, ordered as numbers
pub numbers : TotalOrder nat_cmp
numbers = record {
  equal = λ x y e. subst (λ r. MatchOrdering r (x < y) (x ≡ y) (y < x)) e (ranks x y);
  itself = λ x. by_answer (nat_cmp x x) (λ e. absurd (subst (λ r. MatchOrdering r (x < x) (x ≡ x) (x < x) → ⊥) (sym e) (λ h. omega arith) (ranks x x))) (λ e. e) (λ e. absurd (subst (λ r. MatchOrdering r (x < x) (x ≡ x) (x < x) → ⊥) (sym e) (λ h. omega arith) (ranks x x)));
  flip = nat_cmp_total.antisymm;
  trans = nat_cmp_total.trans;
}

then_less : (a b : Ordering) → ordering_then a b ≡ Less → (a ≡ Less) ⊎ ((a ≡ Equal) × (b ≡ Less))
then_less Less b e = inl refl
then_less Equal b e = inr (refl, e)
then_less Greater b e = absurd (less≢greater Greater e refl)

then_equal : (a b : Ordering) → ordering_then a b ≡ Equal → (a ≡ Equal) × (b ≡ Equal)
then_equal Less b e = absurd (less≢equal Less refl e)
then_equal Equal b e = (refl, e)
then_equal Greater b e = absurd (less≢equal Less refl (ap ordering_reverse e))

then_reversed : (a b : Ordering) → ordering_then (ordering_reverse a) (ordering_reverse b) ≡ ordering_reverse (ordering_then a b)
then_reversed Less b = refl
then_reversed Equal b = refl
then_reversed Greater b = refl

module _ {A B : Type 0} {f : A → A → Ordering} {g : B → B → Ordering} (p : TotalOrder f) (q : TotalOrder g) where
  both_trans : (x y z : A × B) → by_both f g x y ≡ Less → by_both f g y z ≡ Less → by_both f g x z ≡ Less
  both_trans x y z h k =
      ⊎_elim
      (λ a. ⊎_elim
      (λ b. ap (λ o. ordering_then o (g x.1 z.1)) (p.trans x.0 y.0 z.0 a b))
      (λ b. ap (λ o. ordering_then o (g x.1 z.1)) (ap (f x.0) (sym (p.equal y.0 z.0 b.0)) ∙ a))
      (then_less _ _ k))
      (λ a. ⊎_elim
      (λ b. ap (λ o. ordering_then o (g x.1 z.1)) (ap (λ c. f c z.0) (p.equal x.0 y.0 a.0) ∙ b))
      (λ b. ap₂ ordering_then (ap (λ c. f c z.0) (p.equal x.0 y.0 a.0) ∙ b.0) (q.trans x.1 y.1 z.1 a.1 b.1))
      (then_less _ _ k))
      (then_less _ _ h)

  pub order_both : TotalOrder (by_both f g)
  order_both = record {
    equal = λ x y e. let h = then_equal (f x.0 y.0) (g x.1 y.1) e in λ i. (p.equal x.0 y.0 h.0 i, q.equal x.1 y.1 h.1 i);
    itself = λ x. ap₂ ordering_then (p.itself x.0) (q.itself x.1);
    flip = λ x y. ap₂ ordering_then (p.flip x.0 y.0) (q.flip x.1 y.1) ∙ then_reversed (f y.0 x.0) (g y.1 x.1);
    trans = both_trans;
  }

pub order_by : {X K : Type 0} {f : K → K → Ordering} (p : TotalOrder f) (key : X → K) → ((x y : X) → key x ≡ key y → x ≡ y) → TotalOrder (by_key key f)
order_by p key one = record {
  equal = λ x y e. one x y (p.equal (key x) (key y) e);
  itself = λ x. p.itself (key x);
  flip = λ x y. p.flip (key x) (key y);
  trans = λ x y z. p.trans (key x) (key y) (key z);
}

-- the laws that std asks of an `Ord`
pub std_total : {V : Type 0} {cmp : V → V → Ordering} → TotalOrder cmp → IsTotalOrder cmp
std_total {cmp = cmp} o = record { antisymm = o.flip; trans = o.trans; congr = λ x y z e. ap (λ v. cmp v z) (o.equal x y e) }
