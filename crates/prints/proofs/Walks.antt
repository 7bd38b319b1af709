-- Grams that move on, and what a walk has yet to hand out. Assumes nothing.
use Rattle.std.proofs.Common.{◌≡◌, ℕ, suc, ◌+◌, ◌-◌, ◌<◌, ◌≤◌, leb, List, [], ◌∷◌, ◌++◌, length, get_or, take, drop, filter, Option, Some, None, MatchOption, Ordering, sym, refl, ap, ◌∙◌, subst, ap₂, inl, inr, ⊎_elim, arith}
use Rattle.std.proofs.ByRecursion.{All-get_or, All-take, All-drop}
use Rattle.std.proofs.lemmas.List.{ext_get_or, get_or-take, get_or-drop, length-take, length-drop, drop_more, take_more}
use Rattle.std.proofs.lemmas.Bool.{cases_eq, cases_lt, le-leb, lt-leb, cond-true, cond-false}
use Rattle.order.specs.Total.{TotalOrder}
use Rattle.order.specs.Listed.{In, Rising}
use Rattle.order.proofs.Members.{kept_all, kept_none}
use Rattle.order.proofs.Rises.{rank_lt}
use Rattle.prints.specs.Choice.{Rightmost, chosen}
use Rattle.prints.proofs.Picks.{chosen_rises, in_chosen, chosen_in, rightmost_rises}
use Rattle.prints.specs.Grams.{Code, Coded, Gram, Rolls}
use Rattle.prints.specs.Walk.{gram, grams, value_at}
use Rattle.std.specs.Ordering.{nat_cmp}

-- ---- grams

pub same_front : (xs ys : List ℕ) (k : ℕ) → k ≤ length xs → k ≤ length ys → ((j : ℕ) → j < k → get_or xs j 0 ≡ get_or ys j 0) → take k xs ≡ take k ys
same_front xs ys k f g h =
    let a : length (take k xs) ≡ k = simp length-take (omega arith) in
    let b : length (take k ys) ≡ k = simp length-take (omega arith) in
    ext_get_or 0 (take k xs) (take k ys) (a ∙ sym b) (λ i lt. let in' : i < k = omega arith in get_or-take k xs i 0 in' ∙ h i in' ∙ sym (get_or-take k ys i 0 in'))

module _ (cs : List ℕ) (k i : ℕ) (low : 1 ≤ k) where
  pub length_gram : i + k ≤ length cs → length (gram k cs i) ≡ k
  length_gram fits = simp (length-take, length-drop) (omega arith)

  pub is_gram : k ≤ 64 → Coded cs → i + k ≤ length cs → Gram (gram k cs i)
  is_gram high coded fits =
      let n = length_gram fits in
      record { some = omega arith; few = omega arith; coded = All-take Code k (drop i cs) (All-drop Code i cs coded) }

  -- its first code, and the others
  pub gram_front : i + k ≤ length cs → gram k cs i ≡ get_or cs i 0 ∷ take (k - 1) (drop (i + 1) cs)
  gram_front fits =
      let one : k ≡ suc (k - 1) = omega arith in
      ap₂ take one (drop_more cs i 0 (omega arith))

  -- the next gram has those others, and the code behind
  pub gram_next : i + k < length cs → gram k cs (i + 1) ≡ take (k - 1) (drop (i + 1) cs) ++ get_or cs (i + k) 0 ∷ []
  gram_next fits =
      let one : k ≡ k - 1 + 1 = omega arith in
      let there : i + 1 + (k - 1) ≡ i + k = omega arith in
      let long : k - 1 < length (drop (i + 1) cs) = simp length-drop (omega arith) in
      ap (λ m. take m (drop (i + 1) cs)) one ∙ take_more (drop (i + 1) cs) (k - 1) 0 long ∙ ap (λ c. take (k - 1) (drop (i + 1) cs) ++ c ∷ []) (get_or-drop (i + 1) cs (k - 1) 0 ∙ ap (λ m. get_or cs m 0) there)

  -- by the law of its roll a hash comes to the value of the next gram
  pub rolls_on : {V : Type 0} (hash : List ℕ → V) (before after : V) → k ≤ 64 → Coded cs → i + k < length cs → before ≡ value_at hash k cs i → Rolls hash before k (get_or cs i 0) (get_or cs (i + k) 0) after → after ≡ value_at hash k cs (i + 1)
  rolls_on hash before after high coded fits is law =
      let mid = take (k - 1) (drop (i + 1) cs) in
      let front : gram k cs i ≡ get_or cs i 0 ∷ mid = gram_front (omega arith) in
      let size : k ≡ length (get_or cs i 0 ∷ mid) = sym (length_gram (omega arith)) ∙ ap length front in
      law mid (subst Gram front (is_gram high coded (omega arith))) (All-get_or Code cs (i + k) 0 fits coded) size (is ∙ ap hash front) ∙ sym (ap hash (gram_next fits))

  -- so it goes on while there is a gram
  pub held_on : {V : Type 0} (hash : List ℕ → V) (before : V) (r : Option V) → k ≤ 64 → Coded cs → i < grams k cs → before ≡ value_at hash k cs i
      → MatchOption r (length cs ≤ i + k) (λ v. (i + k < length cs) × Rolls hash before k (get_or cs i 0) (get_or cs (i + k) 0) v)
      → MatchOption r (grams k cs ≤ i + 1) (λ v. (i + 1 < grams k cs) × (v ≡ value_at hash k cs (i + 1)))
  held_on hash before None high coded fits is none = omega arith
  held_on hash before (Some v) high coded fits is some =
      let more = some.0 in
      (omega arith, rolls_on hash before v high coded more is some.1)

-- ---- the part of a rising list from a number on

pub kept_whole : (from : ℕ) (xs : List ℕ) → ((y : ℕ) → In y xs → from ≤ y) → filter (leb from) xs ≡ xs
kept_whole from xs h = kept_all (leb from) xs (λ y m. le-leb from y (h y m))

in_rest : (p x : ℕ) (xs : List ℕ) → (x ≡ p → ⊥) → In p (x ∷ xs) → In p xs
in_rest p x xs ne (inl e) = absurd (ne e)
in_rest p x xs ne (inr m) = m

-- the least member from `from` on, and what is above it
pub kept_from : (from p : ℕ) (xs : List ℕ) → Rising nat_cmp xs → In p xs → from ≤ p → ((q : ℕ) → In q xs → from ≤ q → p ≤ q) → filter (leb from) xs ≡ p ∷ filter (leb (p + 1)) xs
kept_from from p [] rise m le least = absurd m
kept_from from p (x ∷ xs) rise m le least =
    let all = filter (leb from) xs in
    let high = filter (leb (p + 1)) xs in
    ⊎_elim
    (λ lt.
    let ne : x ≡ p → ⊥ = λ e. omega arith in
    cond-false (leb from x) (x ∷ all) all (lt-leb from x lt)
    ∙ kept_from from p xs rise.1 (in_rest p x xs ne m) le (λ q i. least q (inr i))
    ∙ ap (λ l. p ∷ l) (sym (cond-false (leb (p + 1) x) (x ∷ high) high (lt-leb (p + 1) x (omega arith)))))
    (λ ge.
    let low = least x (inl refl) ge in
    ⊎_elim
    (λ e.
    let above : (y : ℕ) → In y xs → p < y = λ y i. let h = rank_lt x y (rise.0 y i) in omega arith in
    cond-true (leb from x) (x ∷ all) all (le-leb from x ge)
    ∙ ap₂ ◌∷◌ (sym e) (kept_whole from xs (λ y i. let h = above y i in omega arith) ∙ sym (kept_whole (p + 1) xs (λ y i. let h = above y i in omega arith)))
    ∙ ap (λ l. p ∷ l) (sym (cond-false (leb (p + 1) x) (x ∷ high) high (lt-leb (p + 1) x (omega arith)))))
    (λ ne.
    let i = in_rest p x xs (λ e. ne (sym e)) m in
    let h = rank_lt x p (rise.0 p i) in
    absurd (omega arith))
    (cases_eq p x))
    (cases_lt x from)

-- ---- what is chosen from a place on

module _ {V : Type 0} {cmp : V → V → Ordering} (o : TotalOrder cmp) (at : ℕ → V) (w n from : ℕ) (pos : 0 < w) where
  -- the windows before s chose below `from`; the window at s chooses p, so p is the next
  pub next_chosen : (s p : ℕ) → s + w ≤ n → ((t q : ℕ) → t < s → Rightmost cmp at t w q → q < from) → Rightmost cmp at s w p → from ≤ p → filter (leb from) (chosen cmp w at n) ≡ p ∷ filter (leb (p + 1)) (chosen cmp w at n)
  next_chosen s p fits gone r le =
      kept_from from p (chosen cmp w at n) (chosen_rises cmp w at n) (in_chosen o at w n p pos (s, fits, r)) le
      (λ q i h.
      let c = chosen_in o at w n q pos i in
      ⊎_elim (λ lt. let low = gone c.0 q lt c.2 in absurd (omega arith)) (λ ge. rightmost_rises o at s c.0 w p q ge r c.2) (cases_lt c.0 s))

  -- all windows chose below `from`
  pub none_chosen : ((t q : ℕ) → t + w ≤ n → Rightmost cmp at t w q → q < from) → filter (leb from) (chosen cmp w at n) ≡ []
  none_chosen gone = kept_none (leb from) (chosen cmp w at n) (λ q i. let c = chosen_in o at w n q pos i in lt-leb from q (gone c.0 q c.1 c.2))
