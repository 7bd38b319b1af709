-- What moves of a part of a list leave. Assumes nothing.
use Rattle.std.proofs.Common.{◌≡◌, ℕ, suc, ◌+◌, ◌-◌, ◌<◌, ◌≤◌, List, ◌∷◌, ◌++◌, length, get_or, take, drop, set, sym, ap, ◌∙◌, ap₂, add-one, arith}
use lib.Seq.{paste}
use Rattle.std.specs.List.{insert, remove}
use Rattle.ordered.specs.Gathered.{moved, turned}
use Rattle.std.proofs.lemmas.List.{append_assoc, length-take-le, length-drop, length-append, take_more, set_at, take-take, take_at, drop_at, drop-drop, drop-take, take-append-drop}
use Rattle.std.proofs.lemmas.Slice.{between_is}
use Rattle.std.proofs.lemmas.List.Edits.{length-insert, length-remove}

module _ {X : Type 0} (xs : List X) (n i : ℕ) where
  -- the records from i to before n moved up by one, and x written at i
  pub moved_up : (x : X) → i ≤ n → n < length xs → set (paste xs (i + 1) (drop i xs) (n - i)) i x ≡ insert (take n xs) i x ++ drop (n + 1) xs
  moved_up x le lt =
      let within : i < length xs = omega arith in
      let M = take (n - i) (drop i xs) in
      let D = drop (i + 1 + (n - i)) xs in
      let e1 : paste xs (i + 1) (drop i xs) (n - i) ≡ take i xs ++ (get_or xs i x ∷ (M ++ D)) = ap (λ l. l ++ M ++ D) (take_more xs i x within) ∙ simp append_assoc in
      let e2 = set_at (take i xs) (get_or xs i x) (M ++ D) x i (length-take-le i xs (omega arith)) in
      let same : i + 1 + (n - i) ≡ n + 1 = omega arith in
      let e3 : take i xs ++ (x ∷ (M ++ D)) ≡ insert (take n xs) i x ++ drop (n + 1) xs =
      ap₂ (λ l m. l ++ (x ∷ (m ++ D))) (sym (take-take i n xs le)) (between_is xs i n) ∙ ap (λ k. take i (take n xs) ++ (x ∷ (drop i (take n xs) ++ drop k xs))) same ∙ sym (append_assoc (take i (take n xs)) (x ∷ drop i (take n xs)) (drop (n + 1) xs)) in
      ap (λ l. set l i x) e1 ∙ e2 ∙ e3

  -- the records after i and before n moved down by one
  pub moved_down : i < n → n ≤ length xs → paste xs i (drop (i + 1) xs) (n - (i + 1)) ≡ remove (take n xs) i ++ drop (n - 1) xs
  moved_down lt le =
      let same : i + (n - (i + 1)) ≡ n - 1 = omega arith in
      let step : i + 1 ≡ suc i = add-one i in
      ap₂ (λ l m. l ++ m ++ drop (i + (n - (i + 1))) xs) (sym (take-take i n xs (omega arith))) (between_is xs (i + 1) n)
      ∙ ap₂ (λ k j. take i (take n xs) ++ drop k (take n xs) ++ drop j xs) step same

  pub put_front : (x : X) (ys : List X) → i ≤ n → n ≤ length xs → take (n + 1) (insert (take n xs) i x ++ ys) ≡ insert (take n xs) i x
  put_front x ys le lt = let h = length-take-le n xs lt in take_at (insert (take n xs) i x) ys (n + 1) (length-insert (take n xs) i x (omega arith) ∙ ap (λ k. k + 1) h)

  pub put_rest : (x : X) (ys : List X) → i ≤ n → n ≤ length xs → drop (n + 1) (insert (take n xs) i x ++ ys) ≡ ys
  put_rest x ys le lt = let h = length-take-le n xs lt in drop_at (insert (take n xs) i x) ys (n + 1) (length-insert (take n xs) i x (omega arith) ∙ ap (λ k. k + 1) h)

  out_length : i < n → n ≤ length xs → length (remove (take n xs) i) ≡ n - 1
  out_length lt le = let h = length-take-le n xs le in let k = length-remove (take n xs) i (omega arith) in omega arith

  pub out_front : (ys : List X) → i < n → n ≤ length xs → take (n - 1) (remove (take n xs) i ++ ys) ≡ remove (take n xs) i
  out_front ys lt le = take_at (remove (take n xs) i) ys (n - 1) (out_length lt le)

  pub out_rest : i < n → n ≤ length xs → drop n (remove (take n xs) i ++ drop (n - 1) xs) ≡ drop n xs
  out_rest lt le =
      let R = remove (take n xs) i in
      let same : n - 1 + 1 ≡ n = omega arith in
      ap (λ k. drop k (R ++ drop (n - 1) xs)) (sym same)
      ∙ sym (drop-drop 1 (n - 1) (R ++ drop (n - 1) xs))
      ∙ ap (drop 1) (drop_at R (drop (n - 1) xs) (n - 1) (out_length lt le))
      ∙ drop-drop 1 (n - 1) xs
      ∙ ap (λ k. drop k xs) same

module _ {X : Type 0} (xs : List X) (from count to : ℕ) where
  pub moved_none : from ≡ to → xs ≡ moved xs from count to
  moved_none e =
      sym (take-append-drop to xs)
      ∙ ap (λ l. take to xs ++ l) (sym (take-append-drop count (drop to xs)) ∙ ap₂ (λ a b. take count a ++ b) (ap (λ k. drop k xs) (sym e)) (drop-drop count to xs))

  pub moved_length : to ≤ length xs → from + count ≤ length xs → length (take to xs ++ take count (drop from xs)) ≡ to + count
  moved_length le lf =
      let a = length-take-le to xs le in
      let d = length-drop from xs in
      let b = length-take-le count (drop from xs) (omega arith) in
      length-append (take to xs) (take count (drop from xs)) ∙ ap₂ ◌+◌ a b

  -- past what was written nothing changes
  pub moved_past : (n : ℕ) → to ≤ length xs → from + count ≤ length xs → to + count ≤ n → drop n (moved xs from count to) ≡ drop n xs
  moved_past n le lf lo =
      let F = take to xs ++ take count (drop from xs) in
      let same : to + count + (n - (to + count)) ≡ n = omega arith in
      ap (drop n) (sym (append_assoc (take to xs) (take count (drop from xs)) (drop (to + count) xs)))
      ∙ ap (λ k. drop k (F ++ drop (to + count) xs)) (sym same)
      ∙ sym (drop-drop (n - (to + count)) (to + count) (F ++ drop (to + count) xs))
      ∙ ap (drop (n - (to + count))) (drop_at F (drop (to + count) xs) (to + count) (moved_length le lf))
      ∙ drop-drop (n - (to + count)) (to + count) xs
      ∙ ap (λ k. drop k xs) same

  pub moved_front : to ≤ length xs → from + count ≤ length xs → take (to + count) (moved xs from count to) ≡ take to xs ++ take count (drop from xs)
  moved_front le lf =
      ap (take (to + count)) (sym (append_assoc (take to xs) (take count (drop from xs)) (drop (to + count) xs)))
      ∙ take_at (take to xs ++ take count (drop from xs)) (drop (to + count) xs) (to + count) (moved_length le lf)

pub turned_is : {X : Type 0} (xs ys : List X) (from first second k : ℕ) → k ≡ first + second → ys ≡ drop first (take k (drop from xs)) ++ take first (take k (drop from xs)) → take from xs ++ (ys ++ drop k (drop from xs)) ≡ turned xs from first second
turned_is xs ys from first second k e h =
    let D = drop from xs in
    let p : drop first (take k D) ≡ take second (drop (from + first) xs) = ap (λ n. drop first (take n D)) e ∙ drop-take first second D ∙ ap (take second) (drop-drop first from xs) in
    let q : take first (take k D) ≡ take first D = take-take first k D (omega arith) in
    let r : drop k D ≡ drop (from + first + second) xs = drop-drop k from xs ∙ ap (λ n. drop n xs) (omega arith) in
    let s = ap₂ ◌++◌ p q in
    cc
