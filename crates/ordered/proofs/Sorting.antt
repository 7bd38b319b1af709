-- A batch sorted, and taken into a list. Assumes nothing.
use Rattle.std.proofs.Common.{◌≡◌, ℕ, ◌+◌, ◌-◌, ◌<◌, ◌≤◌, true, false, ◌⊎◌, List, [], ◌∷◌, ◌++◌, length, get_or, take, drop, set, Ordering, Less, Equal, Greater, refl, sym, ap, ◌∙◌, subst, ap₂, inl, inr, ⊎_elim, arith}
use Rattle.std.proofs.lemmas.Bool.{true≢false}
use Rattle.std.proofs.lemmas.List.{length-drop, length-take-le, length-set, get_or_default, take_more, take_more_set, take_all, drop-set-lt, take-take, take-append-le, take_at, drop_at, drop-drop, get_or-drop}
use Rattle.std.proofs.lemmas.List.Sorted.{Contains-permutation, IsPermutation-sym}
use Rattle.std.specs.List.Sorted.{IsSorted, IsPermutation}
use Rattle.std.specs.Ordering.{is_lt, is_ge}
use Rattle.order.specs.Total.{TotalOrder}
use Rattle.order.specs.Listed.{In, Rising, ListsExactly}
use Rattle.order.specs.Compared.{by_answer}
use Rattle.order.proofs.Bridges.{in_at, in_has, rising_push}
use Rattle.order.proofs.Joins.{append_in, in_left, in_right}
use Rattle.ordered.specs.Gathered.{Joined, TakenIn, AllIn}
use Rattle.ordered.proofs.Edits.{greater_less}
use Rattle.ordered.proofs.Joining.{exactly_as, sum_in, in_sum, joined_as}

same_place : {X : Type 0} (k : ℕ) (xs ys : List X) (d : X) → drop k xs ≡ drop k ys → get_or xs k d ≡ get_or ys k d
same_place k xs ys d e =
    let z : k + 0 ≡ k = omega arith in
    ap (λ n. get_or xs n d) (sym z) ∙ sym (get_or-drop k xs 0 d) ∙ ap (λ l. get_or l 0 d) e ∙ get_or-drop k ys 0 d ∙ ap (λ n. get_or ys n d) z

-- of the first k of `before`, which is sorted, the first `count` are left, and `last` is the last of them
pub record Distinct {X : Type 0} (cmp : X → X → Ordering) (before now' : List X) (k count : ℕ) (last : X) : Type 0 where
  pub some : 0 < k
  pub behind : count ≤ k
  pub within : k ≤ length before
  pub long : length now' ≡ length before
  pub rest : drop k now' ≡ drop k before
  pub rises : Rising cmp (take count now')
  pub top : (y : X) → In y (take count now') → (y ≡ last) ⊎ (cmp y last ≡ Less)
  pub held : In last (take count now')
  pub only : (y : X) → In y (take count now') → In y (take k before)
  pub every : IsSorted cmp before → (y : X) → In y (take k before) → In y (take count now')
  pub here : IsSorted cmp before → (d : X) → get_or before (k - 1) d ≡ last

not_ge : (r : Ordering) → is_ge r ≡ false → r ≡ Less
not_ge Less g = refl
not_ge Equal g = absurd (true≢false g)
not_ge Greater g = absurd (true≢false g)

pub distinct_first : {X : Type 0} (cmp : X → X → Ordering) (xs : List X) (x : X) → 0 < length xs → x ≡ get_or xs 0 x → Distinct cmp xs xs 1 1 x
distinct_first cmp [] x lt e = absurd (omega arith)
distinct_first cmp (y ∷ ys) x lt e = record {
  some = omega arith;
  behind = omega arith;
  within = omega arith;
  long = refl;
  rest = refl;
  rises = (λ z m. absurd m, tt);
  top = λ z m. ⊎_elim (λ q. inl (sym q ∙ sym e)) (λ f. absurd f) m;
  held = inl (sym e);
  only = λ z m. m;
  every = λ s z m. m;
  here = λ s d. sym e;
}

module _ {X : Type 0} {cmp : X → X → Ordering} (o : TotalOrder cmp) (xs ys : List X) (k count : ℕ) (last x : X) (h : Distinct cmp xs ys k count last) (lt : k < length xs) (e : x ≡ get_or ys k x) where
  was : get_or xs k x ≡ x
  was = sym (e ∙ same_place k ys xs x h.rest)

  more : take (k + 1) xs ≡ take k xs ++ x ∷ []
  more = take_more xs k x lt ∙ ap (λ y. take k xs ++ y ∷ []) was

  past : drop (k + 1) ys ≡ drop (k + 1) xs
  past = sym (drop-drop 1 k ys) ∙ ap (drop 1) h.rest ∙ drop-drop 1 k xs

  place : (d : X) → get_or xs (k + 1 - 1) d ≡ x
  place d = let same : k + 1 - 1 ≡ k = omega arith in ap (λ n. get_or xs n d) same ∙ get_or_default xs k d x lt ∙ was

  pub distinct_more : is_ge (cmp last x) ≡ false → Distinct cmp xs (set ys count x) (k + 1) (count + 1) x
  distinct_more g =
      let l = not_ge (cmp last x) g in
      let b = h.behind in
      let n = h.long in
      let kept : take (count + 1) (set ys count x) ≡ take count ys ++ x ∷ [] = take_more_set ys count x (omega arith) in
      let below : (y : X) → In y (take count ys) → cmp y x ≡ Less = λ y m. ⊎_elim (λ q. subst (λ w. cmp w x ≡ Less) (sym q) l) (λ q. o.trans y last x q l) (h.top y m) in
      record {
        some = omega arith;
        behind = omega arith;
        within = omega arith;
        long = length-set ys count x ∙ n;
        rest = drop-set-lt (k + 1) ys count x (omega arith) ∙ past;
        rises = subst (Rising cmp) (sym kept) (rising_push cmp (take count ys) x h.rises below);
        top = λ y m. ⊎_elim (λ a. inr (below y a)) (⊎_elim (λ q. inl (sym q)) (λ f. absurd f)) (append_in (take count ys) (x ∷ []) y (subst (In y) kept m));
        held = subst (In x) (sym kept) (in_right (take count ys) (x ∷ []) x (inl refl));
        only = λ y m. subst (In y) (sym more) (⊎_elim (λ a. in_left (take k xs) (x ∷ []) y (h.only y a)) (in_right (take k xs) (x ∷ []) y) (append_in (take count ys) (x ∷ []) y (subst (In y) kept m)));
        every = λ s y m. subst (In y) (sym kept) (⊎_elim (λ a. in_left (take count ys) (x ∷ []) y (h.every s y a)) (in_right (take count ys) (x ∷ []) y) (append_in (take k xs) (x ∷ []) y (subst (In y) more m)));
        here = λ s d. place d;
      }

  -- x stands there already
  same_as : IsSorted cmp xs → is_ge (cmp last x) ≡ true → last ≡ x
  same_as s g =
      let p = h.some in
      let next : k - 1 + 1 ≡ k = omega arith in
      let f : is_lt (cmp x last) ≡ false = sym (ap₂ (λ a b. is_lt (cmp a b)) (ap (λ n. get_or xs n x) next ∙ was) (h.here s x)) ∙ s (k - 1) x (omega arith) (omega arith) in
      by_answer (cmp last x)
      (λ l. absurd (true≢false (sym g ∙ ap is_ge l)))
      (o.equal last x)
      (λ q. absurd (true≢false (sym (ap is_lt (greater_less o x last q)) ∙ f)))

  pub distinct_same : is_ge (cmp last x) ≡ true → Distinct cmp xs ys (k + 1) count last
  distinct_same g =
      let b = h.behind in
      record {
        some = omega arith;
        behind = omega arith;
        within = omega arith;
        long = h.long;
        rest = past;
        rises = h.rises;
        top = h.top;
        held = h.held;
        only = λ y m. subst (In y) (sym more) (in_left (take k xs) (x ∷ []) y (h.only y m));
        every = λ s y m. ⊎_elim (h.every s y) (⊎_elim (λ q. subst (λ z. In z (take count ys)) (same_as s g ∙ q) h.held) (λ f. absurd f)) (append_in (take k xs) (x ∷ []) y (subst (In y) more m));
        here = λ s d. place d ∙ sym (same_as s g);
      }

pub distinct_all : {X : Type 0} {cmp : X → X → Ordering} (xs ys : List X) (k count : ℕ) (last : X) → Distinct cmp xs ys k count last → length xs ≤ k → IsSorted cmp xs → ListsExactly cmp (take count ys) (λ y. In y xs)
distinct_all xs ys k count last h le s =
    let all = take_all k xs le in
    record {
      rises = h.rises;
      only = λ y m. subst (In y) all (h.only y m);
      every = λ y m. h.every s y (subst (In y) (sym all) m);
    }

carried : {X : Type 0} (xs ys : List X) (y : X) → IsPermutation xs ys → In y xs → In y ys
carried xs ys y p m =
    let a = in_has xs y m in
    let b = Contains-permutation xs ys y p (a.0, a.1, a.2 y) in
    subst (λ z. In z ys) b.2 (in_at ys b.0 y b.1)

-- a permutation has the same records
pub permuted : {X : Type 0} {cmp : X → X → Ordering} (xs ys zs : List X) → IsPermutation xs ys → ListsExactly cmp zs (λ y. In y ys) → ListsExactly cmp zs (λ y. In y xs)
permuted xs ys zs p h = exactly_as zs (λ y. In y ys) (λ y. In y xs) (λ y. carried ys xs y (IsPermutation-sym xs ys p)) (λ y. carried xs ys y p) h

-- xs is the slice at the call, D the batch, ys that after the sort, xs₁ both, and xs₂ after the join
module _ {X : Type 0} {cmp : X → X → Ordering} (xs D ys xs₁ xs₂ tail : List X) (n m b r : ℕ)
    (within : n + m ≤ length xs) (eD : D ≡ take m (drop n xs)) (fb : b ≤ length ys) (lD : length ys ≡ length D) (h : ListsExactly cmp (take b ys) (λ y. In y D)) (e₁ : xs₁ ≡ take n xs ++ (ys ++ tail)) (h₂ : Joined cmp xs₁ xs₂ n b (n + m) r) where
  pub taken_in : TakenIn cmp xs xs₂ n m r
  taken_in =
      let fr = h₂.fewer in
      let nF : length (take n xs) ≡ n = length-take-le n xs (omega arith) in
      let nX = length-drop n xs in
      let nD : length D ≡ m = ap length eD ∙ length-take-le m (drop n xs) (omega arith) in
      let w₁ : take n xs₁ ≡ take n xs = ap (take n) e₁ ∙ take_at (take n xs) (ys ++ tail) n nF in
      let w₂ : take b (drop n xs₁) ≡ take b ys = ap (λ l. take b (drop n l)) e₁ ∙ ap (take b) (drop_at (take n xs) (ys ++ tail) n nF) ∙ take-append-le b ys tail fb in
      record {
        fewer = omega arith;
        lists = λ c. exactly_as (take r xs₂) (λ z. In z (take n xs) ⊎ In z (take b ys)) (λ z. In z (take (n + m) xs))
            (λ z u. in_sum xs n m z (⊎_elim inl (λ q. inr (subst (In z) eD (h.only z q))) u))
            (λ z u. ⊎_elim inl (λ q. inr (h.every z (subst (In z) (sym eD) q))) (sum_in xs n m z u))
            (joined_as xs₁ xs₂ n b (n + m) r (take n xs) (take b ys) h₂ w₁ w₂ c h.rises);
      }

-- the part that is lent ends at `end`
module _ {X : Type 0} {cmp : X → X → Ordering} (xs P ys : List X) (n m end r : ℕ)
    (within : end ≤ length xs) (some : n + m ≤ end) (small : end ≤ n + m + m) (eP : P ≡ take end xs) (h : TakenIn cmp P ys n m r) (ly : length ys ≡ length P) where
  all_but : AllIn cmp xs (ys ++ drop end xs) n m r
  all_but =
      let fr = h.fewer in
      let nP : length P ≡ end = ap length eP ∙ length-take-le end xs within in
      let gap : end + (n + m + m - end) ≡ n + m + m = omega arith in
      let w₁ : take n P ≡ take n xs = ap (take n) eP ∙ take-take n end xs (omega arith) in
      let w₂ : take (n + m) P ≡ take (n + m) xs = ap (take (n + m)) eP ∙ take-take (n + m) end xs some in
      let v : take r (ys ++ drop end xs) ≡ take r ys = take-append-le r ys (drop end xs) (omega arith) in
      record {
        fewer = fr;
        rest = ap (λ i. drop i (ys ++ drop end xs)) (sym gap) ∙ sym (drop-drop (n + m + m - end) end (ys ++ drop end xs)) ∙ ap (drop (n + m + m - end)) (drop_at ys (drop end xs) end (ly ∙ nP)) ∙ drop-drop (n + m + m - end) end xs ∙ ap (λ i. drop i xs) gap;
        lists = λ c. subst (λ l. ListsExactly cmp l (λ z. In z (take (n + m) xs))) (sym v)
            (exactly_as (take r ys) (λ z. In z (take (n + m) P)) (λ z. In z (take (n + m) xs)) (λ z. subst (In z) w₂) (λ z. subst (In z) (sym w₂)) (h.lists (subst (Rising cmp) (sym w₁) c)));
      }

  pub all_in : (tail : List X) → tail ≡ drop end xs → AllIn cmp xs (ys ++ tail) n m r
  all_in tail et = subst (λ l. AllIn cmp xs (ys ++ l) n m r) (sym et) all_but
