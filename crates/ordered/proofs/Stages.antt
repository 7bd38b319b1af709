-- The turns of a merge in one slice: what is left of the two lists at its front and at `at`, what is written from w on, up to `end`. Assumes nothing.
use Rattle.std.proofs.Common.{◌≡◌, ℕ, suc, ◌+◌, ◌-◌, ◌<◌, ◌≤◌, ◌⊎◌, List, [], ◌∷◌, ◌++◌, length, get_or, take, drop, set, Ordering, Less, Equal, Greater, sym, refl, ap, ◌∙◌, subst, ap₂, ⊎_elim, arith}
use Rattle.std.proofs.lemmas.List.{append_assoc, append-nil, length-drop, take_more, take-set-le, drop-set-lt, drop-set, get_or-drop, length-set, length-append}
use Rattle.order.specs.Total.{TotalOrder}
use Rattle.order.specs.Listed.{Rising, ListsExactly}
use Rattle.ordered.specs.Gathered.{moved, InEither, Merged}
use Rattle.ordered.proofs.Moves.{moved_front, moved_past, moved_length}
use Rattle.ordered.proofs.Merging.{Merging, merging_less, merging_greater, merging_equal, merging_left_done, merging_swap}

abbrev pub Stage : {X : Type 0} (cmp : X → X → Ordering) (P : X → Type 0) (xs : List X) (end at i j w : ℕ) → Type 0
Stage cmp P xs end at i j w = Merging cmp P (take i xs) (take j (drop at xs)) (take (end - w) (drop w xs))

-- one more at the end of a part
last_more : {X : Type 0} (xs : List X) (i : ℕ) (x : X) → 0 < i → i ≤ length xs → x ≡ get_or xs (i - 1) x → take i xs ≡ take (i - 1) xs ++ x ∷ []
last_more xs i x lo hi e =
    let same : i - 1 + 1 ≡ i = omega arith in
    ap (λ k. take k xs) (sym same) ∙ take_more xs (i - 1) x (omega arith) ∙ ap (λ v. take (i - 1) xs ++ v ∷ []) (sym e)

module _ {X : Type 0} {cmp : X → X → Ordering} (o : TotalOrder cmp) (P : X → Type 0) (xs : List X) (end at i j w : ℕ) (x y : X) (li : 0 < i) (lj : 0 < j) (room : i + j ≤ w) (we : w ≤ end) (ea : end ≤ at) (within : at + j ≤ length xs) (xe : x ≡ get_or xs (i - 1) x) (ye : y ≡ get_or xs (at + j - 1) y) where
  left_more : take i xs ≡ take (i - 1) xs ++ x ∷ []
  left_more = last_more xs i x li (omega arith) xe

  right_more : take j (drop at xs) ≡ take (j - 1) (drop at xs) ++ y ∷ []
  right_more =
      let d = length-drop at xs in
      let same : at + j - 1 ≡ at + (j - 1) = omega arith in
      last_more (drop at xs) j y lj (omega arith) (ye ∙ ap (λ k. get_or xs k y) same ∙ sym (get_or-drop at xs (j - 1) y))

  -- a write just below w
  module _ (v : X) where
    after : List X
    after = set xs (w - 1) v

    stays_left : (k : ℕ) → k ≤ w - 1 → take k (set xs (w - 1) v) ≡ take k xs
    stays_left k h = take-set-le k xs (w - 1) v h

    stays_right : (k n : ℕ) → w ≤ n → take k (drop n (set xs (w - 1) v)) ≡ take k (drop n xs)
    stays_right k n h = ap (take k) (drop-set-lt n xs (w - 1) v (omega arith))

    written : take (end - (w - 1)) (drop (w - 1) (set xs (w - 1) v)) ≡ v ∷ take (end - w) (drop w xs)
    written =
        let same : w - 1 + 1 ≡ w = omega arith in
        let more : end - (w - 1) ≡ suc (end - w) = omega arith in
        ap₂ take more (drop-set xs (w - 1) v (omega arith) ∙ ap (λ k. v ∷ drop k xs) same)

    place : {L B : List X} (k n : ℕ) → k ≤ w - 1 → L ≡ take k xs → B ≡ take n (drop at xs) → Merging cmp P L B (v ∷ take (end - w) (drop w xs)) → Stage cmp P (set xs (w - 1) v) end at k n (w - 1)
    place {L} {B} k n h l b m =
        let e1 = l ∙ sym (stays_left k h) in
        let e2 = b ∙ sym (stays_right n at (omega arith)) in
        subst (λ q. Merging cmp P q (take n (drop at (set xs (w - 1) v))) (take (end - (w - 1)) (drop (w - 1) (set xs (w - 1) v)))) e1
        (subst (λ q. Merging cmp P L q (take (end - (w - 1)) (drop (w - 1) (set xs (w - 1) v)))) e2
        (subst (λ q. Merging cmp P L B q) (sym written) m))

  split : Stage cmp P xs end at i j w → Merging cmp P (take (i - 1) xs ++ x ∷ []) (take (j - 1) (drop at xs) ++ y ∷ []) (take (end - w) (drop w xs))
  split s =
      subst (λ q. Merging cmp P q (take (j - 1) (drop at xs) ++ y ∷ []) (take (end - w) (drop w xs))) left_more
      (subst (λ q. Merging cmp P (take i xs) q (take (end - w) (drop w xs))) right_more s)

  pub stage_less : Stage cmp P xs end at i j w → cmp x y ≡ Less → Stage cmp P (set xs (w - 1) y) end at i (j - 1) (w - 1)
  stage_less s e = place y i (j - 1) (omega arith) (sym left_more) refl (merging_less P o (take (i - 1) xs) (take (j - 1) (drop at xs)) (take (end - w) (drop w xs)) x y (split s) e)

  pub stage_equal : Stage cmp P xs end at i j w → cmp x y ≡ Equal → Stage cmp P (set xs (w - 1) x) end at (i - 1) (j - 1) (w - 1)
  stage_equal s e = place x (i - 1) (j - 1) (omega arith) refl refl (merging_equal P o (take (i - 1) xs) (take (j - 1) (drop at xs)) (take (end - w) (drop w xs)) x y (split s) e)

  pub stage_greater : Stage cmp P xs end at i j w → cmp x y ≡ Greater → Stage cmp P (set xs (w - 1) x) end at (i - 1) j (w - 1)
  stage_greater s e = place x (i - 1) j (omega arith) refl (sym right_more) (merging_greater P o (take (i - 1) xs) (take (j - 1) (drop at xs)) (take (end - w) (drop w xs)) x y (split s) e)

-- what is left of the two lists is brought to the front, and what is written right behind it
module _ {X : Type 0} (xs : List X) (end at i j w : ℕ) (room : i + j ≤ w) (we : w ≤ end) (ea : end ≤ at) (within : at + j ≤ length xs) where
  once : List X
  once = moved xs at j i

  pub length_moved : length (moved xs at j i) ≡ length xs
  length_moved =
      let l = moved_length xs at j i (omega arith) within in
      let d = length-drop (i + j) xs in
      ap length (sym (append_assoc (take i xs) (take j (drop at xs)) (drop (i + j) xs)))
      ∙ length-append (take i xs ++ take j (drop at xs)) (drop (i + j) xs)
      ∙ ap₂ ◌+◌ l d
      ∙ omega arith

  pub closed : take (i + j + (end - w)) (moved (moved xs at j i) w (end - w) (i + j)) ≡ (take i xs ++ take j (drop at xs)) ++ take (end - w) (drop w xs)
  closed =
      let n = length_moved in
      moved_front (moved xs at j i) w (end - w) (i + j) (omega arith) (omega arith)
      ∙ ap₂ (λ p q. p ++ take (end - w) q) (moved_front xs at j i (omega arith) within) (moved_past xs at j i w (omega arith) within room)

  pub closed_rest : drop end (moved (moved xs at j i) w (end - w) (i + j)) ≡ drop end xs
  closed_rest =
      let n = length_moved in
      moved_past (moved xs at j i) w (end - w) (i + j) end (omega arith) (omega arith) (omega arith)
      ∙ moved_past xs at j i end (omega arith) within (omega arith)

  pub closed_lists : {cmp : X → X → Ordering} (P : X → Type 0) → (i ≡ 0) ⊎ (j ≡ 0) → Stage cmp P xs end at i j w → ListsExactly cmp (take (i + j + (end - w)) (moved (moved xs at j i) w (end - w) (i + j))) P
  closed_lists {cmp} P ends s =
      let S = take (end - w) (drop w xs) in
      let L = take i xs in
      let B = take j (drop at xs) in
      subst (λ l. ListsExactly cmp l P) (sym closed)
      (⊎_elim
      (λ z. let e : L ≡ [] = ap (λ k. take k xs) z in
      subst (λ l. ListsExactly cmp ((l ++ B) ++ S) P) (sym e) (merging_left_done P B S (subst (λ l. Merging cmp P l B S) e s)))
      (λ z. let e : B ≡ [] = ap (λ k. take k (drop at xs)) z in
      subst (λ l. ListsExactly cmp ((L ++ l) ++ S) P) (sym e) (subst (λ l. ListsExactly cmp (l ++ S) P) (sym (append-nil L)) (merging_left_done P L S (subst (λ l. Merging cmp P l L S) e (merging_swap P L B S s)))))
      ends)

-- a merge on its way: `before` is the slice at the call, `now'` at a turn
pub record Halfway {X : Type 0} (cmp : X → X → Ordering) (before now' : List X) (a b at i j w : ℕ) : Type 0 where
  pub fits : (a + b ≤ at) × (at + b ≤ length now')
  pub fewer_left : i ≤ a
  pub fewer_right : j ≤ b
  pub room : i + j ≤ w
  pub below : w ≤ a + b
  pub rest : drop (a + b) now' ≡ drop (a + b) before
  pub stage : Rising cmp (take a before) → Rising cmp (take b (drop at before)) → Stage cmp (InEither before a b at) now' (a + b) at i j w

module _ {X : Type 0} {cmp : X → X → Ordering} (o : TotalOrder cmp) (before xs : List X) (a b at i j w : ℕ) (x y : X) (li : 0 < i) (lj : 0 < j) (xe : x ≡ get_or xs (i - 1) x) (ye : y ≡ get_or xs (at + j - 1) y) (h : Halfway cmp before xs a b at i j w) where
  keeps_rest : (v : X) → drop (a + b) (set xs (w - 1) v) ≡ drop (a + b) before
  keeps_rest v = let q = h.below in let r = h.room in drop-set-lt (a + b) xs (w - 1) v (omega arith) ∙ h.rest

  keeps_length : (v : X) → (a + b ≤ at) × (at + b ≤ length (set xs (w - 1) v))
  keeps_length v = let q = h.fits.0 in let r = h.fits.1 in (q, simp length-set r)

  pub halfway_less : cmp x y ≡ Less → Halfway cmp before (set xs (w - 1) y) a b at i (j - 1) (w - 1)
  halfway_less e =
      let f = h.fits.1 in
      let g = h.fits.0 in
      let q = h.below in
      let r = h.room in
      let s = h.fewer_left in
      let t = h.fewer_right in
      record {
        fits = keeps_length y;
        fewer_left = s;
        fewer_right = omega arith;
        room = omega arith;
        below = omega arith;
        rest = keeps_rest y;
        stage = λ l m. stage_less o (InEither before a b at) xs (a + b) at i j w x y li lj r q g (omega arith) xe ye (h.stage l m) e;
      }

  pub halfway_equal : cmp x y ≡ Equal → Halfway cmp before (set xs (w - 1) x) a b at (i - 1) (j - 1) (w - 1)
  halfway_equal e =
      let f = h.fits.1 in
      let g = h.fits.0 in
      let q = h.below in
      let r = h.room in
      let s = h.fewer_left in
      let t = h.fewer_right in
      record {
        fits = keeps_length x;
        fewer_left = omega arith;
        fewer_right = omega arith;
        room = omega arith;
        below = omega arith;
        rest = keeps_rest x;
        stage = λ l m. stage_equal o (InEither before a b at) xs (a + b) at i j w x y li lj r q g (omega arith) xe ye (h.stage l m) e;
      }

  pub halfway_greater : cmp x y ≡ Greater → Halfway cmp before (set xs (w - 1) x) a b at (i - 1) j (w - 1)
  halfway_greater e =
      let f = h.fits.1 in
      let g = h.fits.0 in
      let q = h.below in
      let r = h.room in
      let s = h.fewer_left in
      let t = h.fewer_right in
      record {
        fits = keeps_length x;
        fewer_left = omega arith;
        fewer_right = t;
        room = omega arith;
        below = omega arith;
        rest = keeps_rest x;
        stage = λ l m. stage_greater o (InEither before a b at) xs (a + b) at i j w x y li lj r q g (omega arith) xe ye (h.stage l m) e;
      }

pub halfway_as : {X : Type 0} {cmp : X → X → Ordering} {before ys zs : List X} {a b at i j w : ℕ} → ys ≡ zs → Halfway cmp before zs a b at i j w → Halfway cmp before ys a b at i j w
halfway_as {X} {cmp} {before} {ys} {zs} {a} {b} {at} {i} {j} {w} e h = subst (λ l. Halfway cmp before l a b at i j w) (sym e) h

pub halfway_all : {X : Type 0} {cmp : X → X → Ordering} (before xs once twice : List X) (a b at i j w : ℕ) → Halfway cmp before xs a b at i j w → (i ≡ 0) ⊎ (j ≡ 0) → once ≡ moved xs at j i → twice ≡ moved once w (a + b - w) (i + j) → Merged cmp before twice a b at (i + j + (a + b - w))
halfway_all {X} {cmp} before xs once twice a b at i j w h ends e1 e2 =
    let f = h.fits.1 in
    let g = h.fits.0 in
    let q = h.below in
    let r = h.room in
    let t = h.fewer_right in
    let within : at + j ≤ length xs = omega arith in
    let e : twice ≡ moved (moved xs at j i) w (a + b - w) (i + j) = e2 ∙ ap (λ l. moved l w (a + b - w) (i + j)) e1 in
    record {
      fewer = omega arith;
      rest = ap (drop (a + b)) e ∙ closed_rest xs (a + b) at i j w r q g within ∙ h.rest;
      lists = λ l m. subst (λ k. ListsExactly cmp (take (i + j + (a + b - w)) k) (InEither before a b at)) (sym e) (closed_lists xs (a + b) at i j w r q g within (InEither before a b at) ends (h.stage l m));
    }
