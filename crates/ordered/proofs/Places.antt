-- What a rising list gives at each place, and the records of a key. Assumes nothing.
use Rattle.std.proofs.Common.{◌≡◌, ℕ, zero, suc, ◌+◌, ◌-◌, ◌<◌, ◌≤◌, Bool, true, false, List, [], ◌∷◌, length, get_or, Ordering, Less, Equal, Greater, sym, refl, ap, ◌∙◌, ⊎_elim, arith}
use Rattle.std.proofs.lemmas.List.{get_or_read}
use Rattle.std.proofs.lemmas.Bool.{cases_eq, cases_lt, true≢false}
use Rattle.order.specs.Listed.{Rising}
use Rattle.order.proofs.Bridges.{in_at}
use Rattle.order.specs.Compared.{by_answer, less≢greater}
use Rattle.std.specs.Ordering.{is_lt, is_le}
use Rattle.ordered.specs.Found.{Steady, Cut, Together}

pub rising_at : {X : Type 0} (cmp : X → X → Ordering) (xs : List X) → Rising cmp xs → (i j : ℕ) (d : X) → i < j → j < length xs → cmp (get_or xs i d) (get_or xs j d) ≡ Less
rising_at cmp [] c i j d h k = absurd (omega arith)
rising_at cmp (x ∷ xs) c i zero d h k = absurd (omega arith)
rising_at cmp (x ∷ xs) c zero (suc j) d h k = c.0 (get_or xs j d) (in_at xs j d (omega arith))
rising_at cmp (x ∷ xs) c (suc i) (suc j) d h k = rising_at cmp xs c.1 i j d (omega arith) (omega arith)

-- what the tests of the two cuts say
before_first : (o : Ordering) → is_lt o ≡ true → o ≡ Less
before_first Less h = refl
before_first Equal h = absurd (true≢false (sym h))
before_first Greater h = absurd (true≢false (sym h))

not_before_first : (o : Ordering) → is_lt o ≡ false → o ≡ Less → ⊥
not_before_first o h e = true≢false (ap is_lt (sym e) ∙ h)

before_last : (o : Ordering) → is_le o ≡ true → o ≡ Greater → ⊥
before_last o h e = true≢false (sym h ∙ ap is_le e)

not_before_last : (o : Ordering) → is_le o ≡ false → o ≡ Greater
not_before_last Less h = absurd (true≢false h)
not_before_last Equal h = absurd (true≢false h)
not_before_last Greater h = refl

-- a binary search on its way: the record before `low`, if any, passes the test, and the record at `high`, if any, does not
pub record Around {X : Type 0} (test : X → Bool) (xs : List X) (low high : ℕ) : Type 0 where
  pub last : 0 < low → (d : X) → test (get_or xs (low - 1) d) ≡ true
  pub next : high < length xs → (d : X) → test (get_or xs high d) ≡ false

module _ {X : Type 0} (test : X → Bool) (xs : List X) (low mid high : ℕ) (x : X) (h : Around test xs low high) (lt : mid < length xs) (e : x ≡ get_or xs mid x) where
  pub around_low : test x ≡ true → Around test xs (mid + 1) high
  around_low t = record { last = λ _ d. let same : mid + 1 - 1 ≡ mid = omega arith in let r = get_or_read xs mid x lt e d in cc; next = h.next }

  pub around_high : test x ≡ false → Around test xs low mid
  around_high t = record { last = h.last; next = λ _ d. let r = get_or_read xs mid x lt e d in cc }

some : {X P : Type 0} (ys : List X) → (ys ≡ [] → P) → (X → P) → P
some [] f g = f refl
some (y ∷ ys) f g = g y

module _ {X : Type 0} {cmp : X → X → Ordering} (place : X → Ordering) (steady : (x y : X) → cmp x y ≡ Less → Steady (place x) (place y)) (xs : List X) (c : Rising cmp xs) where
  pub steady_at : (i j : ℕ) (d : X) → i ≤ j → j < length xs → Steady (place (get_or xs i d)) (place (get_or xs j d))
  steady_at i j d h k =
      ⊎_elim (λ e. (λ l. ap (λ n. place (get_or xs n d)) e ∙ l, λ l. ap (λ n. place (get_or xs n d)) (sym e) ∙ l))
      (λ ne. steady (get_or xs i d) (get_or xs j d) (rising_at cmp xs c i j d (omega arith) k)) (cases_eq i j)

  -- a search for the first record of a key: what stands before it is less, and where the record at it is not equal, all others are greater
  pub cut_lower : (i : ℕ) → Cut (λ x. is_lt (place x)) xs i → (k : ℕ) (d : X) → k < i → place (get_or xs k d) ≡ Less
  cut_lower i f k d h = let w = f.within in (steady_at k (i - 1) d (omega arith) (omega arith)).0 (before_first _ (f.last (omega arith) d))

  pub cut_not_less : (i : ℕ) → Cut (λ x. is_lt (place x)) xs i → (k : ℕ) (d : X) → i ≤ k → k < length xs → place (get_or xs k d) ≡ Less → ⊥
  cut_not_less i f k d h l e = not_before_first _ (f.next (omega arith) d) ((steady_at i k d h l).0 e)

  pub cut_upper : (i : ℕ) → Cut (λ x. is_lt (place x)) xs i → (k : ℕ) (d : X) → (i < length xs → place (get_or xs i d) ≡ Equal → ⊥) → i ≤ k → k < length xs → place (get_or xs k d) ≡ Greater
  cut_upper i f k d gone h l =
      let lt : i < length xs = omega arith in
      (steady_at i k d h l).1 (by_answer (place (get_or xs i d)) (λ e. absurd (not_before_first _ (f.next lt d) e)) (λ e. absurd (gone lt e)) (λ e. e))

  module _ (from to : ℕ) (f : Cut (λ x. is_lt (place x)) xs from) (t : Cut (λ x. is_le (place x)) xs to) where
    upper : (k : ℕ) (d : X) → to ≤ k → k < length xs → place (get_or xs k d) ≡ Greater
    upper k d h m = (steady_at to k d h m).1 (not_before_last _ (t.next (omega arith) d))

    middle : (k : ℕ) (d : X) → from ≤ k → k < to → place (get_or xs k d) ≡ Equal
    middle k d h m =
        let w = t.within in
        by_answer (place (get_or xs k d))
        (λ l. absurd (not_before_first _ (f.next (omega arith) d) ((steady_at from k d h (omega arith)).0 l)))
        (λ e. e)
        (λ g. absurd (before_last _ (t.last (omega arith) d) ((steady_at k (to - 1) d (omega arith) (omega arith)).1 g)))

    forward : (d : X) → from ≤ to
    forward d =
        let w = f.within in
        ⊎_elim (λ l. absurd (less≢greater _ (cut_lower from f to d l) (upper to d (omega arith) (omega arith)))) (λ h. h) (cases_lt to from)

  pub together : (from to : ℕ) → Cut (λ x. is_lt (place x)) xs from → Cut (λ x. is_le (place x)) xs to → Together place xs from to
  together from to f t = record {
    forward = some xs (λ e. let w = f.within in let z : length xs ≡ 0 = ap length e in omega arith) (forward from to f t);
    within = t.within;
    before = cut_lower from f;
    equal = middle from to f t;
    after = upper from to f t;
  }
