-- A rising list with one record more, or without one or those that a test names. Assumes nothing.
use Rattle.std.proofs.Common.{◌≡◌, ◌≢◌, ℕ, suc, ◌+◌, ◌-◌, ◌<◌, ◌≤◌, Bool, false, not, ◌⊎◌, List, [], ◌∷◌, ◌++◌, length, get_or, take, drop, set, Ok, Err, filter, Result, Ordering, Less, Greater, sym, refl, ap, ◌∙◌, subst, inl, inr, ⊎_elim, add-one, arith, MatchResult, IfErr}
use Rattle.std.specs.List.{insert, remove}
use Rattle.std.specs.Ordering.{is_lt, ordering_reverse}
use Rattle.std.proofs.lemmas.List.{take-append-drop, length-drop, length-take, length-take-le, length-set, get_or-take, get_or-drop, take_more, take_more_set, drop_more, drop-set-lt}
use Rattle.std.proofs.lemmas.Bool.{not-true, not_from_false}
use Rattle.order.specs.Total.{TotalOrder}
use Rattle.order.specs.Listed.{In, Rising, ListsExactly}
use Rattle.order.specs.Compared.{not_itself}
use Rattle.order.proofs.Bridges.{in_at, in_has, rising_push}
use Rattle.order.proofs.Joins.{append_in, in_left, in_right, rising_append}
use Rattle.order.proofs.Members.{in_kept, kept_passes, kept_in}
use Rattle.order.proofs.Rises.{rising_kept}
use Rattle.ordered.specs.declared.insertion.Insertion.{Insertion}
use Rattle.ordered.specs.declared.insertion.Insertion.TheVariants.{At, Present, Full}
use Rattle.ordered.specs.Answers.{AfterInsert, more}
use Rattle.ordered.specs.Found.{Cut, Seat, Stands}
use Rattle.ordered.proofs.Places.{cut_lower, cut_upper, cut_not_less}
use Rattle.ordered.proofs.Moves.{put_front, put_rest, out_front, out_rest}
use Rattle.ordered.specs.Edited.{PutIn, Already, Missed, TakenOut, Fewer, Thinned}
use Rattle.std.specs.Fn.{Called, AlwaysReturns, Mut}
use Rattle.std.proofs.lemmas.List.Filters.{FiltersInPlace}

module _ {X : Type 0} where
  -- the two parts of a rising list
  pub rising_split : (cmp : X → X → Ordering) (a b : List X) → Rising cmp (a ++ b) → Rising cmp a × Rising cmp b × ((x y : X) → In x a → In y b → cmp x y ≡ Less)
  rising_split cmp [] b c = (tt, c, λ x y m. absurd m)
  rising_split cmp (z ∷ a) b c =
      let h = rising_split cmp a b c.1 in
      ((λ y m. c.0 y (in_left a b y m), h.0), h.1, λ x y m n. ⊎_elim (λ e. subst (λ w. cmp w y ≡ Less) e (c.0 y (in_right a b y n))) (λ i. h.2 x y i n) m)

  -- what is in one of two parts is in the whole, and the other way round
  pub in_parts : (n : ℕ) (xs : List X) (y : X) → In y xs → In y (take n xs) ⊎ In y (drop n xs)
  in_parts n xs y m = append_in (take n xs) (drop n xs) y (subst (In y) (sym (take-append-drop n xs)) m)

  pub in_take : (n : ℕ) (xs : List X) (y : X) → In y (take n xs) → In y xs
  in_take n xs y m = subst (In y) (take-append-drop n xs) (in_left (take n xs) (drop n xs) y m)

  pub in_drop : (n : ℕ) (xs : List X) (y : X) → In y (drop n xs) → In y xs
  in_drop n xs y m = subst (In y) (take-append-drop n xs) (in_right (take n xs) (drop n xs) y m)

  pub rising_take : (cmp : X → X → Ordering) (n : ℕ) (xs : List X) → Rising cmp xs → Rising cmp (take n xs)
  rising_take cmp n xs c = (rising_split cmp (take n xs) (drop n xs) (subst (Rising cmp) (sym (take-append-drop n xs)) c)).0

  pub rising_drop : (cmp : X → X → Ordering) (n : ℕ) (xs : List X) → Rising cmp xs → Rising cmp (drop n xs)
  rising_drop cmp n xs c = (rising_split cmp (take n xs) (drop n xs) (subst (Rising cmp) (sym (take-append-drop n xs)) c)).1

  -- what a place of a part says of the part's members
  pub each_take : (P : X → Type 0) (n : ℕ) (xs : List X) → ((k : ℕ) (d : X) → k < n → k < length xs → P (get_or xs k d)) → (y : X) → In y (take n xs) → P y
  each_take P n xs f y m =
      let h = in_has (take n xs) y m in
      let lt = h.1 in
      let l = length-take n xs in
      let lt1 : h.0 < n = omega arith in
      subst P (sym (get_or-take n xs h.0 y lt1) ∙ h.2 y) (f h.0 y lt1 (omega arith))

  pub each_drop : (P : X → Type 0) (n : ℕ) (xs : List X) → ((k : ℕ) (d : X) → n ≤ k → k < length xs → P (get_or xs k d)) → (y : X) → In y (drop n xs) → P y
  each_drop P n xs f y m =
      let h = in_has (drop n xs) y m in
      let lt = h.1 in
      let l = length-drop n xs in
      subst P (sym (get_or-drop n xs h.0 y) ∙ h.2 y) (f (n + h.0) y (omega arith) (omega arith))

module _ {X : Type 0} {cmp : X → X → Ordering} (o : TotalOrder cmp) where
  pub greater_less : (x y : X) → cmp y x ≡ Greater → cmp x y ≡ Less
  greater_less x y g = o.flip x y ∙ ap ordering_reverse g

  pub cut_steady : (x a b : X) → cmp a b ≡ Less → (cmp b x ≡ Less → cmp a x ≡ Less) × (cmp a x ≡ Greater → cmp b x ≡ Greater)
  cut_steady x a b l = (λ h. o.trans a b x l h, λ h. o.flip b x ∙ ap ordering_reverse (o.trans x a b (greater_less x a h) l))

  module _ (xs : List X) (i : ℕ) (x : X) (c : Rising cmp xs) (f : Cut (λ y. is_lt (cmp y x)) xs i) where
    -- a search for x itself: what stands before its place is less
    pub below_cut : (y : X) → In y (take i xs) → cmp y x ≡ Less
    below_cut = each_take (λ y. cmp y x ≡ Less) i xs (λ k d h l. cut_lower (λ y. cmp y x) (cut_steady x) xs c i f k d h)

    pub not_below_cut : (y : X) → In y (drop i xs) → cmp y x ≡ Less → ⊥
    not_below_cut = each_drop (λ y. cmp y x ≡ Less → ⊥) i xs (λ k d h l. cut_not_less (λ y. cmp y x) (cut_steady x) xs c i f k d h l)

    -- and what stands from its place on is greater, unless x stands there
    pub above_cut : (i < length xs → (d : X) → get_or xs i d ≡ x → ⊥) → (y : X) → In y (drop i xs) → cmp x y ≡ Less
    above_cut gone = each_drop (λ y. cmp x y ≡ Less) i xs (λ k d h l. greater_less x (get_or xs k d) (cut_upper (λ y. cmp y x) (cut_steady x) xs c i f k d (λ lt e. gone lt d (o.equal (get_or xs i d) x e)) h l))

  -- the place of a search for x, where x does not stand, is where it would be put in
  pub seat : (xs : List X) (i : ℕ) (x : X) → Cut (λ y. is_lt (cmp y x)) xs i → (i < length xs → (d : X) → get_or xs i d ≡ x → ⊥) → Seat cmp xs i x
  seat xs i x f gone = record { within = f.within; below = λ c. below_cut xs i x c f; above = λ c. above_cut xs i x c f gone }

  module _ (xs : List X) (i : ℕ) (x : X) (s : Seat cmp xs i x) (c : Rising cmp xs) where
    pub not_there : In x xs → ⊥
    not_there m = ⊎_elim (λ a. not_itself o x x refl (s.below c x a)) (λ b. not_itself o x x refl (s.above c x b)) (in_parts i xs x m)

    pub put_lists : ListsExactly cmp (insert xs i x) (λ y. In y (x ∷ xs))
    put_lists = record {
      rises = rising_append cmp (take i xs) (x ∷ drop i xs) (rising_take cmp i xs c) (s.above c, rising_drop cmp i xs c)
          (λ a b m n. ⊎_elim (λ e. subst (λ z. cmp a z ≡ Less) e (s.below c a m))
          (λ k. (rising_split cmp (take i xs) (drop i xs) (subst (Rising cmp) (sym (take-append-drop i xs)) c)).2 a b m k) n);
      only = λ y m. ⊎_elim (λ a. inr (in_take i xs y a)) (⊎_elim inl (λ b. inr (in_drop i xs y b))) (append_in (take i xs) (x ∷ drop i xs) y m);
      every = λ y. ⊎_elim (λ e. in_right (take i xs) (x ∷ drop i xs) y (inl e)) (λ m. ⊎_elim (in_left (take i xs) (x ∷ drop i xs) y) (λ b. in_right (take i xs) (x ∷ drop i xs) y (inr b)) (in_parts i xs y m));
    }

  without_lists : (a b : List X) (x : X) → Rising cmp (a ++ x ∷ b) → ListsExactly cmp (a ++ b) (λ y. In y (a ++ x ∷ b) × (x ≡ y → ⊥))
  without_lists a b x c =
      let h = rising_split cmp a (x ∷ b) c in
      record {
        rises = rising_append cmp a b h.0 h.1.1 (λ p q m n. h.2 p q m (inr n));
        only = λ y m. ⊎_elim
            (λ n. (in_left a (x ∷ b) y n, λ e. not_itself o y x (sym e) (h.2 y x n (inl refl))))
            (λ n. (in_right a (x ∷ b) y (inr n), λ e. not_itself o x y e (h.1.0 y n)))
            (append_in a b y m);
        every = λ y m. ⊎_elim (in_left a b y) (⊎_elim (λ e. absurd (m.1 e)) (in_right a b y)) (append_in a (x ∷ b) y m.0);
      }

  pub out_lists : (xs : List X) (i : ℕ) (x : X) → Rising cmp xs → i < length xs → ((d : X) → get_or xs i d ≡ x) → ListsExactly cmp (remove xs i) (λ y. In y xs × (x ≡ y → ⊥))
  out_lists xs i x c lt at =
      let e : take i xs ++ (x ∷ drop (suc i) xs) ≡ xs = ap (λ l. take i xs ++ l) (sym (drop_more xs i x lt ∙ simp (at x, add-one))) ∙ take-append-drop i xs in
      subst (λ l. ListsExactly cmp (remove xs i) (λ y. In y l × (x ≡ y → ⊥))) e (without_lists (take i xs) (drop (suc i) xs) x (subst (Rising cmp) (sym e) c))

pub kept_lists : {X : Type 0} (cmp : X → X → Ordering) (test : X → Bool) (xs : List X) → Rising cmp xs → ListsExactly cmp (filter (λ y. not (test y)) xs) (λ y. In y xs × (test y ≡ false))
kept_lists cmp test xs c = record {
  rises = rising_kept cmp (λ y. not (test y)) xs c;
  only = λ y m. (kept_in (λ z. not (test z)) xs y m, not-true (test y) (kept_passes (λ z. not (test z)) xs y m));
  every = λ y m. in_kept (λ z. not (test z)) xs y m.0 (not_from_false (test y) m.1);
}

pub stands_within : {X : Type 0} (n : ℕ) (xs : List X) (i : ℕ) (x : X) → Stands (take n xs) i x → (i < n) × ((d : X) → get_or xs i d ≡ x)
stands_within n xs i x h =
    let l = length-take n xs in
    let lt = h.0 in
    let w : i < n = omega arith in
    (w, λ d. sym (get_or-take n xs i d w) ∙ h.1 d)

module _ {X : Type 0} {cmp : X → X → Ordering} (o : TotalOrder cmp) (xs : List X) (n i : ℕ) (x : X) where
  pub put_in : (ys : List X) → n < length xs → Seat cmp (take n xs) i x → ys ≡ insert (take n xs) i x ++ drop (n + 1) xs → PutIn cmp xs ys n i x
  put_in ys lt s e =
      let l = length-take n xs in
      let w = s.within in
      let le : i ≤ n = omega arith in
      let m : n ≤ length xs = omega arith in
      let list = ap (take (n + 1)) e ∙ put_front xs n i x (drop (n + 1) xs) le m in
      record {
        place = le;
        room = lt;
        list = list;
        rest = ap (drop (n + 1)) e ∙ put_rest xs n i x (drop (n + 1) xs) le m;
        lists = λ c. subst (λ l. ListsExactly cmp l (λ y. In y (x ∷ take n xs))) (sym list) (put_lists o (take n xs) i x s c);
      }

  pub missed : Seat cmp (take n xs) i x → Missed cmp xs xs n x
  missed s = record { same = refl; none = λ c. not_there o (take n xs) i x s c }

  pub already : Stands (take n xs) i x → Already xs xs n i x
  already h = let w = stands_within n xs i x h in record { same = refl; place = w.0; is = w.1 }

  pub taken_out : (ys : List X) → n ≤ length xs → Already xs xs n i x → ys ≡ remove (take n xs) i ++ drop (n - 1) xs → TakenOut cmp xs ys n i x
  taken_out ys le s e =
      let lt = s.place in
      let l = length-take-le n xs le in
      let list = ap (take (n - 1)) e ∙ out_front xs n i (drop (n - 1) xs) lt le in
      record {
        place = lt;
        was = s.is;
        list = list;
        rest = ap (drop n) e ∙ out_rest xs n i lt le;
        lists = λ c. subst (λ l. ListsExactly cmp l (λ y. In y (take n xs) × (x ≡ y → ⊥))) (sym list) (out_lists o (take n xs) i x c (omega arith) (λ d. get_or-take n xs i d lt ∙ s.is d));
      }

pub seated : {X : Type 0} {cmp : X → X → Ordering} (o : TotalOrder cmp) (xs : List X) (n : ℕ) (x : X) (r : Result ℕ ℕ) → MatchResult r (λ i. Stands (take n xs) i x) (λ i. Seat cmp (take n xs) i x) → MatchResult r (λ i. Already xs xs n i x) (λ i. Seat cmp (take n xs) i x × Missed cmp xs xs n x)
seated o xs n x (Ok i) h = already o xs n i x h
seated o xs n x (Err i) h = (h, missed o xs n i x h)

pub thinned : {X : Type 0} (cmp : X → X → Ordering) (test : X → Bool) (xs ys : List X) (n left i : ℕ) → FiltersInPlace (λ y. not (test y)) xs ys left i → i ≡ n → Thinned cmp test xs ys n left
thinned cmp test xs ys n left i k e =
    let list : take left ys ≡ filter (λ y. not (test y)) (take n xs) = k.front ∙ ap (λ m. filter (λ y. not (test y)) (take m xs)) e in
    let b = k.behind in
    record {
      fewer = omega arith;
      list = list;
      rest = ap (λ m. drop m ys) (sym e) ∙ k.rest ∙ ap (λ m. drop m xs) e;
      lists = λ c. subst (λ l. ListsExactly cmp l (λ y. In y (take n xs) × (test y ≡ false))) (sym list) (kept_lists cmp test (take n xs) c);
    }

-- some of the first i of `before` stand in the first k places of `after`, in their order, and from i on nothing is changed
pub record Keeping {X : Type 0} (cmp : X → X → Ordering) (before after : List X) (k i : ℕ) : Type 0 where
  pub behind : k ≤ i
  pub within : i ≤ length before
  pub long : length after ≡ length before
  pub rest : drop i after ≡ drop i before
  pub only : (y : X) → In y (take k after) → In y (take i before)
  pub rises : Rising cmp (take i before) → Rising cmp (take k after)

pub keeping_none : {X : Type 0} (cmp : X → X → Ordering) (xs : List X) → Keeping cmp xs xs 0 0
keeping_none cmp xs = record { behind = omega arith; within = omega arith; long = refl; rest = refl; only = λ y m. m; rises = λ c. c }

module _ {X : Type 0} {cmp : X → X → Ordering} {xs ys : List X} {k i : ℕ} {x : X} (h : Keeping cmp xs ys k i) (lt : i < length ys) (e : x ≡ get_or ys i x) where
  both : x ∷ drop (i + 1) ys ≡ get_or xs i x ∷ drop (i + 1) xs
  both = ap (λ y. y ∷ drop (i + 1) ys) e ∙ sym (drop_more ys i x lt) ∙ h.rest ∙ drop_more xs i x (omega (arith, h.long))

  read : get_or xs i x ≡ x
  read = sym (ap (λ l. get_or l 0 x) both)

  one_more : take (i + 1) xs ≡ take i xs ++ x ∷ []
  one_more = take_more xs i x (omega (arith, h.long)) ∙ ap (λ y. take i xs ++ y ∷ []) read

  split : Rising cmp (take (i + 1) xs) → Rising cmp (take i xs) × ((y : X) → In y (take i xs) → cmp y x ≡ Less)
  split c = let s = rising_split cmp (take i xs) (x ∷ []) (subst (Rising cmp) one_more c) in (s.0, λ y m. s.2 y x m (inl refl))

  -- x is taken out
  pub keeping_out : Keeping cmp xs ys k (i + 1)
  keeping_out = record {
    behind = omega (arith, h.behind);
    within = omega (arith, h.long);
    long = h.long;
    rest = ap (drop 1) both;
    only = λ y m. subst (In y) (sym one_more) (in_left (take i xs) (x ∷ []) y (h.only y m));
    rises = λ c. h.rises (split c).0;
  }

  -- x is kept
  pub keeping_in : Keeping cmp xs (set ys k x) (k + 1) (i + 1)
  keeping_in =
      let kept : take (k + 1) (set ys k x) ≡ take k ys ++ x ∷ [] = take_more_set ys k x (omega (arith, h.behind)) in
      record {
        behind = omega (arith, h.behind);
        within = omega (arith, h.long);
        long = length-set ys k x ∙ h.long;
        rest = drop-set-lt (i + 1) ys k x (omega (arith, h.behind)) ∙ ap (drop 1) both;
        only = λ y m. subst (In y) (sym one_more) (⊎_elim (λ a. in_left (take i xs) (x ∷ []) y (h.only y a)) (in_right (take i xs) (x ∷ []) y) (append_in (take k ys) (x ∷ []) y (subst (In y) kept m)));
        rises = λ c. subst (Rising cmp) (sym kept) (rising_push cmp (take k ys) x (h.rises (split c).0) (λ y m. (split c).1 y (h.only y m)));
      }

pub kept_fewer : {X : Type 0} {cmp : X → X → Ordering} {xs ys : List X} {n left i : ℕ} → i ≡ n → Keeping cmp xs ys left i → Fewer cmp xs ys n left
kept_fewer {X} {cmp} {xs} {ys} {n} {left} e h = subst (λ m. Fewer cmp xs ys m left) e record { fewer = h.behind; rest = h.rest; only = h.only; rises = h.rises }

-- a call answers by the function, and so do those after it
pub answers_next : {F X R : Type 0} (g : Mut F X R) {P : X → R → Type 0} (f : F) (a : X) (r : R) (f' : F) → Called g f a r f' → AlwaysReturns g P f → P a r × AlwaysReturns g P f'
answers_next g f a r f' c h = ((h.at (a ∷ []) r f' c).0, record { at = λ xs. (h.at (a ∷ xs) r f' c).1 })

-- what is to be put in stands nowhere
pub absent : {X : Type 0} {cmp : X → X → Ordering} (o : TotalOrder cmp) {xs ys : List X} (x : X) → xs ≡ ys → Rising cmp xs → (r : Result ℕ ℕ) → MatchResult r (λ i. Stands xs i x) (λ i. Seat cmp xs i x) → IfErr r (λ _. In x ys → ⊥)
absent o x e c (Ok i) h = tt
absent o {xs} x e c (Err i) h = λ m. not_there o xs i x h c (subst (In x) (sym e) m)

-- a record that stands in the list already is one of its records
pub already_lists : {X : Type 0} {cmp : X → X → Ordering} (xs ys : List X) (n i : ℕ) (x : X) → n ≤ length xs → Rising cmp (take n xs) → Already xs ys n i x → ListsExactly cmp (take n ys) (λ y. In y (x ∷ take n xs))
already_lists {X} {cmp} xs ys n i x le c h =
    let w = h.place in
    let t = length-take-le n xs le in
    let here : In x (take n xs) = subst (λ z. In z (take n xs)) (get_or-take n xs i x w ∙ h.is x) (in_at (take n xs) i x (omega arith)) in
    subst (λ l. ListsExactly cmp (take n l) (λ y. In y (x ∷ take n xs))) (sym h.same)
    record { rises = c; only = λ y m. inr m; every = λ y. ⊎_elim (λ e. subst (λ z. In z (take n xs)) e here) (λ m. m) }

-- no record was put in at a place
pub none_put : {X : Type 0} {cmp : X → X → Ordering} (xs ys : List X) (n : ℕ) (x : X) (r : Insertion) → ((i : ℕ) → r ≡ At i → ⊥) → n ≤ length xs → Rising cmp (take n xs) → AfterInsert cmp xs ys n x r → (n ≡ n + more r) × (r ≢ Full → ListsExactly cmp (take n ys) (λ y. In y (x ∷ take n xs)))
none_put xs ys n x (At i) f le c h = absurd (f i refl)
none_put xs ys n x (Present i) f le c h = (omega arith, λ _. already_lists xs ys n i x le c h)
none_put xs ys n x Full f le c h = (omega arith, λ k. absurd (k refl))
