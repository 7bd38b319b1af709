-- Lists that stand side by side become one. Assumes nothing.
use Rattle.std.proofs.Common.{◌≡◌, ℕ, ◌+◌, ◌-◌, ◌/◌, ◌<◌, ◌≤◌, ◌⊎◌, List, [], ◌∷◌, ◌++◌, length, get_or, take, drop, Ordering, Less, sym, refl, ap, ◌∙◌, subst, ap₂, inl, inr, ⊎_elim, arith}
use Rattle.std.proofs.lemmas.List.{append_assoc, append-nil, length-drop, length-take-le, length-append, take_more, take-take, take-append-le, take_at, drop_at, drop-drop, drop-take, drop_more, drop_all, get_or-drop, get_or-take, take-append-drop}
use Rattle.order.specs.Total.{TotalOrder}
use Rattle.order.specs.Listed.{In, Rising, ListsExactly}
use Rattle.order.specs.Compared.{by_answer}
use Rattle.order.proofs.Joins.{append_in, in_left, in_right, rising_append}
use Rattle.std.specs.Ordering.{is_lt}
use Rattle.ordered.specs.Found.{Cut}
use Rattle.ordered.specs.Edited.{PutIn, Already}
use Rattle.ordered.specs.Gathered.{moved, turned, InEither, Merged, Parting, Joined, Grown}
use Rattle.ordered.proofs.Edits.{already_lists, rising_split, greater_less, below_cut, not_below_cut}
use Rattle.ordered.proofs.Moves.{moved_front, moved_past}

-- the fact may be said in another way
pub exactly_as : {X : Type 0} {cmp : X → X → Ordering} (xs : List X) (P Q : X → Type 0) → ((x : X) → P x → Q x) → ((x : X) → Q x → P x) → ListsExactly cmp xs P → ListsExactly cmp xs Q
exactly_as xs P Q f g e = record { rises = e.rises; only = λ x m. f x (e.only x m); every = λ x q. e.every x (g x q) }

-- the parts of a list by their lengths
pub take_sum : {X : Type 0} (m n : ℕ) (xs : List X) → take (m + n) xs ≡ take m xs ++ take n (drop m xs)
take_sum m n xs = sym (take-append-drop m (take (m + n) xs)) ∙ ap₂ ◌++◌ (take-take m (m + n) xs (omega arith)) (drop-take m n xs)

pub part_same : {X : Type 0} (n k m : ℕ) (xs ys : List X) → n + k ≤ m → take m xs ≡ take m ys → take k (drop n xs) ≡ take k (drop n ys)
part_same n k m xs ys h e =
    let f : take (n + k) xs ≡ take (n + k) ys = sym (take-take (n + k) m xs h) ∙ ap (take (n + k)) e ∙ take-take (n + k) m ys h in
    sym (drop-take n k xs) ∙ ap (drop n) f ∙ drop-take n k ys

-- one record more
module _ {X : Type 0} (xs ys : List X) (n i : ℕ) (x : X) (lt : n < length xs) (e : x ≡ get_or xs n x) where
  one_more : take (n + 1) xs ≡ take n xs ++ x ∷ []
  one_more = take_more xs n x lt ∙ ap (λ y. take n xs ++ y ∷ []) (sym e)

  in_more : (z : X) → In z (x ∷ take n xs) → In z (take (n + 1) xs)
  in_more z m = subst (In z) (sym one_more) (⊎_elim (λ q. in_right (take n xs) (x ∷ []) z (inl q)) (in_left (take n xs) (x ∷ []) z) m)

  more_in : (z : X) → In z (take (n + 1) xs) → In z (x ∷ take n xs)
  more_in z m = ⊎_elim inr (⊎_elim inl (λ k. absurd k)) (append_in (take n xs) (x ∷ []) z (subst (In z) one_more m))

  pub grown_put : {cmp : X → X → Ordering} → PutIn cmp xs ys n i x → Grown cmp xs ys n (n + 1)
  grown_put {cmp} p = record {
    fewer = omega arith;
    rest = p.rest;
    lists = λ c. exactly_as (take (n + 1) ys) (λ z. In z (x ∷ take n xs)) (λ z. In z (take (n + 1) xs)) in_more more_in (p.lists c);
  }

  pub grown_same : (cmp : X → X → Ordering) → Already xs ys n i x → Grown cmp xs ys n n
  grown_same cmp p = record {
    fewer = omega arith;
    rest = ap (drop (n + 1)) p.same;
    lists = λ c. exactly_as (take n ys) (λ z. In z (x ∷ take n xs)) (λ z. In z (take (n + 1) xs)) in_more more_in (already_lists xs ys n i x (omega arith) c p);
  }

module _ {X : Type 0} {cmp : X → X → Ordering} (o : TotalOrder cmp) where
  over_not_less : (z v y : X) → cmp z v ≡ Less → (cmp y v ≡ Less → ⊥) → cmp z y ≡ Less
  over_not_less z v y l f =
      by_answer (cmp y v) (λ e. absurd (f e)) (λ e. subst (λ w. cmp z w ≡ Less) (sym (o.equal y v e)) l) (λ e. o.trans z v y l (greater_less o v y e))

  -- one list is parted at v, which stands at k in the other
  module _ (U V : List X) (c k : ℕ) (v : X) (ru : Rising cmp U) (rv : Rising cmp V) (f : Cut (λ y. is_lt (cmp y v)) U c) (lt : k < length V) (e : get_or V k v ≡ v) where
    from_v : drop k V ≡ v ∷ drop (k + 1) V
    from_v = drop_more V k v lt ∙ ap (λ w. w ∷ drop (k + 1) V) e

    parts : Rising cmp (take k V) × Rising cmp (v ∷ drop (k + 1) V) × ((x y : X) → In x (take k V) → In y (v ∷ drop (k + 1) V) → cmp x y ≡ Less)
    parts = rising_split cmp (take k V) (v ∷ drop (k + 1) V) (subst (λ l. Rising cmp (take k V ++ l)) from_v (subst (Rising cmp) (sym (take-append-drop k V)) rv))

    pub low_cut : (x y : X) → In x (take c U) → In y (drop k V) → cmp x y ≡ Less
    low_cut x y m n =
        let l = below_cut o U c v ru f x m in
        ⊎_elim (λ q. subst (λ w. cmp x w ≡ Less) q l) (λ i. o.trans x v y l (parts.1.0 y i)) (subst (In y) from_v n)

    pub low_held : (x y : X) → In x (take k V) → In y (drop c U) → cmp x y ≡ Less
    low_held x y m n = over_not_less x v y (parts.2 x v m (inl refl)) (not_below_cut o U c v ru f y n)

  -- two pairs of lists, each of the first less than each of the second
  pub joined_lists : (A₁ A₂ B₁ B₂ M₁ M₂ : List X) → Rising cmp (A₁ ++ A₂) → Rising cmp (B₁ ++ B₂) → ((x y : X) → In x A₁ → In y B₂ → cmp x y ≡ Less) → ((x y : X) → In x B₁ → In y A₂ → cmp x y ≡ Less) → ListsExactly cmp M₁ (λ z. In z A₁ ⊎ In z B₁) → ListsExactly cmp M₂ (λ z. In z A₂ ⊎ In z B₂) → ListsExactly cmp (M₁ ++ M₂) (λ z. In z (A₁ ++ A₂) ⊎ In z (B₁ ++ B₂))
  joined_lists A₁ A₂ B₁ B₂ M₁ M₂ ra rb f g e h =
      let sa = rising_split cmp A₁ A₂ ra in
      let sb = rising_split cmp B₁ B₂ rb in
      record {
        rises = rising_append cmp M₁ M₂ e.rises h.rises (λ x y m n.
            ⊎_elim
            (λ p. ⊎_elim (λ q. sa.2 x y p q) (λ q. f x y p q) (h.only y n))
            (λ p. ⊎_elim (λ q. g x y p q) (λ q. sb.2 x y p q) (h.only y n))
            (e.only x m));
        only = λ z m. ⊎_elim
            (λ k. ⊎_elim (λ p. inl (in_left A₁ A₂ z p)) (λ p. inr (in_left B₁ B₂ z p)) (e.only z k))
            (λ k. ⊎_elim (λ p. inl (in_right A₁ A₂ z p)) (λ p. inr (in_right B₁ B₂ z p)) (h.only z k))
            (append_in M₁ M₂ z m);
        every = λ z. ⊎_elim
            (λ p. ⊎_elim (λ k. in_left M₁ M₂ z (e.every z (inl k))) (λ k. in_right M₁ M₂ z (h.every z (inl k))) (append_in A₁ A₂ z p))
            (λ p. ⊎_elim (λ k. in_left M₁ M₂ z (e.every z (inr k))) (λ k. in_right M₁ M₂ z (h.every z (inr k))) (append_in B₁ B₂ z p));
      }

-- what is among the first a + b is among the first a or the b behind them
module _ {X : Type 0} (xs : List X) (a b : ℕ) where
  pub sum_in : (z : X) → In z (take (a + b) xs) → In z (take a xs) ⊎ In z (take b (drop a xs))
  sum_in z m = append_in (take a xs) (take b (drop a xs)) z (subst (In z) (take_sum a b xs) m)

  pub in_sum : (z : X) → In z (take a xs) ⊎ In z (take b (drop a xs)) → In z (take (a + b) xs)
  in_sum z m = subst (In z) (sym (take_sum a b xs)) (⊎_elim (in_left (take a xs) (take b (drop a xs)) z) (in_right (take a xs) (take b (drop a xs)) z) m)

pub joined_grown : {X : Type 0} {cmp : X → X → Ordering} (xs ys : List X) (a b at r : ℕ) → b ≡ 1 → a + b ≤ at → Grown cmp xs ys a r → Joined cmp xs ys a b at r
joined_grown {X} {cmp} xs ys a b at r e h p =
    let q : Joined cmp xs ys a 1 at r = record {
      fewer = p.fewer;
      rest = ap (take (at - (a + 1))) p.rest;
      lists = λ c _. p.lists c;
    } in
    subst (λ k. Joined cmp xs ys a k at r) (sym e) q

-- the b records are moved to the free room, and merged from there
pub joined_merged : {X : Type 0} {cmp : X → X → Ordering} (xs ys zs : List X) (a b at r : ℕ) → a + b ≤ at → at + b ≤ length xs → ys ≡ moved xs a b at → Merged cmp ys zs a b at r → Joined cmp xs zs a b at r
joined_merged {X} {cmp} xs ys zs a b at r h w e p =
    let front : take at ys ≡ take at xs = ap (take at) e ∙ take_at (take at xs) (take b (drop a xs) ++ drop (at + b) xs) at (length-take-le at xs (omega arith)) in
    let old : take a ys ≡ take a xs = sym (take-take a at ys (omega arith)) ∙ ap (take a) front ∙ take-take a at xs (omega arith) in
    let m = moved_front xs a b at (omega arith) (omega arith) in
    let batch : take b (drop at ys) ≡ take b (drop a xs) =
    sym (drop-take at b ys) ∙ ap (λ l. drop at (take (at + b) l)) e ∙ ap (drop at) m ∙ drop_at (take at xs) (take b (drop a xs)) at (length-take-le at xs (omega arith)) in
    record {
      fewer = p.fewer;
      rest = ap (take (at - (a + b))) p.rest ∙ part_same (a + b) (at - (a + b)) at ys xs (omega arith) front;
      lists = λ c d. exactly_as (take r zs) (InEither ys a b at) (λ z. In z (take (a + b) xs))
          (λ z m'. in_sum xs a b z (⊎_elim (λ k. inl (subst (In z) old k)) (λ k. inr (subst (In z) batch k)) m'))
          (λ z m'. ⊎_elim (λ k. inl (subst (In z) (sym old) k)) (λ k. inr (subst (In z) (sym batch) k)) (sum_in xs a b z m'))
          (p.lists (subst (Rising cmp) (sym old) c) (subst (Rising cmp) (sym batch) d));
    }

module _ {X : Type 0} {cmp : X → X → Ordering} (o : TotalOrder cmp) (xs : List X) (a b : ℕ) (v : X) (la : 0 < a) (lb : 1 < b) (w : a + b ≤ length xs) where
  second_long : length (take b (drop a xs)) ≡ b
  second_long = let d = length-drop a xs in length-take-le b (drop a xs) (omega arith)

  all_of_it : take (a + b - a) (drop a xs) ≡ take b (drop a xs)
  all_of_it = let e : a + b - a ≡ b = omega arith in ap (λ k. take k (drop a xs)) e

  -- the first list is the longer: v stands in its middle
  pub parting_left : (j : ℕ) → b ≤ a → v ≡ get_or xs (a / 2) v → Cut (λ y. is_lt (cmp y v)) (take (a + b - a) (drop a xs)) j → Parting cmp xs a b (a / 2) j
  parting_left j le e f =
      let i = a / 2 in
      let A = take a xs in
      let B = take b (drop a xs) in
      let c : Cut (λ y. is_lt (cmp y v)) B j = subst (λ l. Cut (λ y. is_lt (cmp y v)) l j) all_of_it f in
      let long = second_long in
      let jb : j ≤ b = let q = c.within in omega arith in
      let la' = length-take-le a xs (omega arith) in
      let at : get_or A i v ≡ v = get_or-take a xs i v (omega arith) ∙ sym e in
      record {
        left = omega arith;
        right = jb;
        some = omega arith;
        not_all = omega arith;
        low_left = λ ra rb x y m n. low_held o B A j i v rb ra c (omega arith) at x y (subst (In x) (sym (take-take i a xs (omega arith))) m) n;
        low_right = λ ra rb x y m n. low_cut o B A j i v rb ra c (omega arith) at x y (subst (In x) (sym (take-take j b (drop a xs) jb)) m) n;
      }

  -- the second list is the longer
  pub parting_right : (i : ℕ) → a < b → v ≡ get_or xs (a + b / 2) v → Cut (λ y. is_lt (cmp y v)) (take a xs) i → Parting cmp xs a b i (b / 2)
  parting_right i le e f =
      let j = b / 2 in
      let A = take a xs in
      let B = take b (drop a xs) in
      let long = second_long in
      let la' = length-take-le a xs (omega arith) in
      let ia : i ≤ a = let q = f.within in omega arith in
      let at : get_or B j v ≡ v = get_or-take b (drop a xs) j v (omega arith) ∙ get_or-drop a xs j v ∙ sym e in
      record {
        left = ia;
        right = omega arith;
        some = omega arith;
        not_all = omega arith;
        low_left = λ ra rb x y m n. low_cut o A B i j v ra rb f (omega arith) at x y (subst (In x) (sym (take-take i a xs ia)) m) n;
        low_right = λ ra rb x y m n. low_held o A B i j v ra rb f (omega arith) at x y (subst (In x) (sym (take-take j b (drop a xs) (omega arith))) m) n;
      }

-- what a join says, with names for its two lists
pub joined_as : {X : Type 0} {cmp : X → X → Ordering} (xs ys : List X) (a b at r : ℕ) (A B : List X) → Joined cmp xs ys a b at r → take a xs ≡ A → take b (drop a xs) ≡ B → Rising cmp A → Rising cmp B → ListsExactly cmp (take r ys) (λ z. In z A ⊎ In z B)
joined_as {X} {cmp} xs ys a b at r A B h e f ra rb =
    exactly_as (take r ys) (λ z. In z (take (a + b) xs)) (λ z. In z A ⊎ In z B)
    (λ z m. ⊎_elim (λ k. inl (subst (In z) e k)) (λ k. inr (subst (In z) f k)) (sum_in xs a b z m))
    (λ z m. in_sum xs a b z (⊎_elim (λ k. inl (subst (In z) (sym e) k)) (λ k. inr (subst (In z) (sym f) k)) m))
    (h.lists (subst (Rising cmp) (sym e) ra) (subst (Rising cmp) (sym f) rb))

-- both lists are parted, the parts turned, and each pair of parts joined: xs is the slice at the call, xs₁ after the turn, xs₂ after the
-- join of the low parts, D what of it stands from the high parts on, ys that after their join, xs₃ both, and xs₄ with the gap closed
module _ {X : Type 0} {cmp : X → X → Ordering} (o : TotalOrder cmp) (xs xs₁ xs₂ D ys xs₃ xs₄ : List X) (a b at i j low high : ℕ)
    (fits : a + b ≤ at) (within : at ≤ length xs) (p : Parting cmp xs a b i j) (e₁ : xs₁ ≡ turned xs i (a - i) j) (h₁ : Joined cmp xs₁ xs₂ i j at low)
    (l₂ : length xs₂ ≡ length xs) (eD : D ≡ drop (i + j) xs₂) (h₂ : Joined cmp D ys (a - i) (b - j) (at - (i + j)) high) (lD : length ys ≡ length D)
    (e₃ : xs₃ ≡ take (i + j) xs₂ ++ ys) (e₄ : xs₄ ≡ moved xs₃ (i + j) high low) where
  pub joined_parts : Joined cmp xs xs₄ a b at (low + high)
  joined_parts =
      let ia = p.left in
      let jb = p.right in
      let lo = h₁.fewer in
      let hi = h₂.fewer in
      let A₁ = take i xs in
      let A₂ = take (a - i) (drop i xs) in
      let B₁ = take j (drop a xs) in
      let R = drop (a + j) xs in
      let B₂ = take (b - j) R in
      let same : i + (a - i) ≡ a = omega arith in
      let di = length-drop i xs in
      let da = length-drop a xs in
      let nA₁ : length A₁ ≡ i = length-take-le i xs (omega arith) in
      let nA₂ : length A₂ ≡ a - i = length-take-le (a - i) (drop i xs) (omega arith) in
      let nB₁ : length B₁ ≡ j = length-take-le j (drop a xs) (omega arith) in
      let t₁ : xs₁ ≡ A₁ ++ ((B₁ ++ A₂) ++ R) = e₁ ∙ ap (λ n. A₁ ++ ((take j (drop n xs) ++ A₂) ++ drop (n + j) xs)) same in
      let f₁ : take i xs₁ ≡ A₁ = ap (take i) t₁ ∙ take_at A₁ ((B₁ ++ A₂) ++ R) i nA₁ in
      let d₁ : drop i xs₁ ≡ B₁ ++ (A₂ ++ R) = ap (drop i) t₁ ∙ drop_at A₁ ((B₁ ++ A₂) ++ R) i nA₁ ∙ append_assoc B₁ A₂ R in
      let f₂ : take j (drop i xs₁) ≡ B₁ = ap (take j) d₁ ∙ take_at B₁ (A₂ ++ R) j nB₁ in
      let d₂ : drop (i + j) xs₁ ≡ A₂ ++ R = sym (drop-drop j i xs₁) ∙ ap (drop j) d₁ ∙ drop_at B₁ (A₂ ++ R) j nB₁ in
      let k = at - (i + j) in
      let g : take k D ≡ take k (A₂ ++ R) = ap (take k) eD ∙ h₁.rest ∙ ap (take k) d₂ in
      let q₁ : take (a - i) D ≡ A₂ = sym (take-take (a - i) k D (omega arith)) ∙ ap (take (a - i)) g ∙ take-take (a - i) k (A₂ ++ R) (omega arith) ∙ take_at A₂ R (a - i) nA₂ in
      let q₂ : take (b - j) (drop (a - i) D) ≡ B₂ = part_same (a - i) (b - j) k D (A₂ ++ R) (omega arith) g ∙ ap (take (b - j)) (drop_at A₂ R (a - i) nA₂) in
      let sA : take a xs ≡ A₁ ++ A₂ = ap (λ n. take n xs) (sym same) ∙ take_sum i (a - i) xs in
      let sameB : j + (b - j) ≡ b = omega arith in
      let sB : take b (drop a xs) ≡ B₁ ++ B₂ = ap (λ n. take n (drop a xs)) (sym sameB) ∙ take_sum j (b - j) (drop a xs) ∙ ap (λ l. B₁ ++ take (b - j) l) (drop-drop j a xs) in
      let uA : drop i (take a xs) ≡ A₂ = ap (drop i) sA ∙ drop_at A₁ A₂ i nA₁ in
      let uB : drop j (take b (drop a xs)) ≡ B₂ = ap (drop j) sB ∙ drop_at B₁ B₂ j nB₁ in
      let lD₂ : length D ≡ length xs₂ - (i + j) = ap length eD ∙ length-drop (i + j) xs₂ in
      let n₂ : length (take (i + j) xs₂) ≡ i + j = length-take-le (i + j) xs₂ (omega arith) in
      let n₃ : length xs₃ ≡ i + j + length ys = ap length e₃ ∙ length-append (take (i + j) xs₂) ys ∙ ap (λ n. n + length ys) n₂ in
      let v₁ : take low xs₃ ≡ take low xs₂ = ap (take low) e₃ ∙ take-append-le low (take (i + j) xs₂) ys (omega arith) ∙ take-take low (i + j) xs₂ lo in
      let v₂ : drop (i + j) xs₃ ≡ ys = ap (drop (i + j)) e₃ ∙ drop_at (take (i + j) xs₂) ys (i + j) n₂ in
      let all : take (low + high) xs₄ ≡ take low xs₂ ++ take high ys = ap (take (low + high)) e₄ ∙ moved_front xs₃ (i + j) high low (omega arith) (omega arith) ∙ ap₂ (λ l m. l ++ take high m) v₁ v₂ in
      let s = a - i + (b - j) in
      let end : i + j + s ≡ a + b = omega arith in
      let past : drop (a + b) xs₄ ≡ drop s ys = ap (drop (a + b)) e₄ ∙ moved_past xs₃ (i + j) high low (a + b) (omega arith) (omega arith) (omega arith) ∙ ap (λ n. drop n xs₃) (sym end) ∙ sym (drop-drop s (i + j) xs₃) ∙ ap (drop s) v₂ in
      let m = at - (a + b) in
      let sameM : k - s ≡ m = omega arith in
      let kept : take m (drop s ys) ≡ take m (drop s D) = ap (λ n. take n (drop s ys)) (sym sameM) ∙ h₂.rest ∙ ap (λ n. take n (drop s D)) sameM in
      let endB : a + j + (b - j) ≡ a + b = omega arith in
      let far : drop s (A₂ ++ R) ≡ drop (a + b) xs = sym (drop-drop (b - j) (a - i) (A₂ ++ R)) ∙ ap (drop (b - j)) (drop_at A₂ R (a - i) nA₂) ∙ drop-drop (b - j) (a + j) xs ∙ ap (λ n. drop n xs) endB in
      record {
        fewer = omega arith;
        rest = ap (take m) past ∙ kept ∙ part_same s m k D (A₂ ++ R) (omega arith) g ∙ ap (take m) far;
        lists = λ c d.
            let ra = subst (Rising cmp) sA c in
            let rb = subst (Rising cmp) sB d in
            let pa = rising_split cmp A₁ A₂ ra in
            let pb = rising_split cmp B₁ B₂ rb in
            let E₁ = joined_as xs₁ xs₂ i j at low A₁ B₁ h₁ f₁ f₂ pa.0 pb.0 in
            let E₂ = joined_as D ys (a - i) (b - j) k high A₂ B₂ h₂ q₁ q₂ pa.1 pb.1 in
            let E = joined_lists o A₁ A₂ B₁ B₂ (take low xs₂) (take high ys) ra rb
            (λ x y u n. p.low_left c d x y u (subst (In y) (sym uB) n))
            (λ x y u n. p.low_right c d x y u (subst (In y) (sym uA) n)) E₁ E₂ in
            subst (λ l. ListsExactly cmp l (λ z. In z (take (a + b) xs))) (sym all)
            (exactly_as (take low xs₂ ++ take high ys) (λ z. In z (A₁ ++ A₂) ⊎ In z (B₁ ++ B₂)) (λ z. In z (take (a + b) xs))
            (λ z u. in_sum xs a b z (⊎_elim (λ n. inl (subst (In z) (sym sA) n)) (λ n. inr (subst (In z) (sym sB) n)) u))
            (λ z u. ⊎_elim (λ n. inl (subst (In z) sA n)) (λ n. inr (subst (In z) sB n)) (sum_in xs a b z u)) E);
      }

-- a part from a place on, as it is lent, and the whole when it comes back
pub lent_rest : {X : Type 0} (xs ys : List X) (n : ℕ) → take n xs ++ (ys ++ drop (length xs - n) (drop n xs)) ≡ take n xs ++ ys
lent_rest xs ys n =
    let d = length-drop n xs in
    let e = drop_all (length xs - n) (drop n xs) (omega arith) in
    ap (λ l. take n xs ++ (ys ++ l)) e ∙ ap (λ l. take n xs ++ l) (append-nil ys)
