-- A gram that is the same in both lists, grown to both sides, is the one longest run around it. Assumes nothing.
use Rattle.std.proofs.Common.{◌≡◌, ℕ, ◌+◌, ◌-◌, ◌<◌, ◌≤◌, Bool, true, List, sym, ◌∙◌, ap₂, ⊎_elim, arith}
use Rattle.std.proofs.lemmas.Bool.{both_ways, cases_lt, cases_order}
use Rattle.tokens.specs.declared.token.Token.{Token}
use Rattle.runs.specs.declared.longest.Run.{Run}
use Rattle.runs.specs.Shares.{same_at, SameGrams, Around, TheRun, SameBefore, SameFrom}

module _ (xs ys : List Token) where
  -- the same two places, written otherwise
  at : (a b c d : ℕ) → a ≡ c → b ≡ d → (v : Bool) → same_at xs ys a b ≡ v → same_at xs ys c d ≡ v
  at a b c d e f v h = ap₂ (same_at xs ys) (sym e) (sym f) ∙ h

  -- of two runs around one gram: the first cannot begin after the second, nor end before it
  module _ (k i j : ℕ) (some : 1 ≤ k) where
    no_later_start : (r s : Run) → Around k xs ys i j r → Around k xs ys i j s → s.left < r.left → ⊥
    no_later_start r s f g lt =
        let a = f.starts in
        let b = f.ends in
        let c = f.level in
        let a' = g.starts in
        let b' = g.ends in
        let c' = g.level in
        let h = f.longest.shared in
        let h' = g.longest.shared in
        let x = h.left_in in
        let y = h.right_in in
        let n = h.some in
        f.longest.no_earlier (omega arith) (omega arith) (record {
          some = omega arith;
          left_in = omega arith;
          right_in = omega arith;
          each = λ d l.
              ⊎_elim
              (λ z. at (s.left + (r.left - 1 - s.left)) (s.right + (r.left - 1 - s.left)) (r.left - 1 + d) (r.right - 1 + d) (omega arith) (omega arith) true (h'.each (r.left - 1 - s.left) (omega arith)))
              (λ z. at (r.left + (d - 1)) (r.right + (d - 1)) (r.left - 1 + d) (r.right - 1 + d) (omega arith) (omega arith) true (h.each (d - 1) (omega arith)))
              (cases_lt d 1);
        })

    no_sooner_end : (r s : Run) → Around k xs ys i j r → Around k xs ys i j s → r.left ≡ s.left → r.len < s.len → ⊥
    no_sooner_end r s f g e lt =
        let c = f.level in
        let c' = g.level in
        let h' = g.longest.shared in
        let x = h'.left_in in
        let y = h'.right_in in
        f.longest.no_later (record {
          some = omega arith;
          left_in = omega arith;
          right_in = omega arith;
          each = λ d l. at (s.left + d) (s.right + d) (r.left + d) (r.right + d) (omega arith) (omega arith) true (h'.each d (omega arith));
        })

    pub one_run : (r s : Run) → Around k xs ys i j r → Around k xs ys i j s → s ≡ r
    one_run r s f g =
        let c = f.level in
        let c' = g.level in
        let left : s.left ≡ r.left = ⊎_elim (λ e. e) (⊎_elim (λ lt. absurd (no_later_start r s f g lt)) (λ gt. absurd (no_later_start s r g f gt))) (cases_order s.left r.left) in
        let right : s.right ≡ r.right = omega arith in
        let len : s.len ≡ r.len = ⊎_elim (λ e. e) (⊎_elim (λ lt. absurd (no_sooner_end s r g f left lt)) (λ gt. absurd (no_sooner_end r s f g (sym left) gt))) (cases_order s.len r.len) in
        λ z. record { left = left z; right = right z; len = len z }

    -- the gram, with the same tokens before it and after it
    module _ (b f : ℕ) (grams : SameGrams k xs ys i j) (before : SameBefore xs ys i j b) (after : SameFrom xs ys (i + k) (j + k) f) where
      abbrev grown : Run
      grown = record { left = i - b; right = j - b; len = b + k + f }

      each_grown : (d : ℕ) → d < b + k + f → same_at xs ys (i - b + d) (j - b + d) ≡ true
      each_grown d l =
          let p = before.left_in in
          let q = before.right_in in
          ⊎_elim
          (λ lt. at (i - (b - 1 - d + 1)) (j - (b - 1 - d + 1)) (i - b + d) (j - b + d) (omega arith) (omega arith) true (before.each (b - 1 - d) (omega arith)))
          (λ ge.
          ⊎_elim
          (λ lt. at (i + (d - b)) (j + (d - b)) (i - b + d) (j - b + d) (omega arith) (omega arith) true (grams.each (d - b) (omega arith)))
          (λ ge'. at (i + k + (d - b - k)) (j + k + (d - b - k)) (i - b + d) (j - b + d) (omega arith) (omega arith) true (after.each (d - b - k) (omega arith)))
          (cases_lt d (b + k)))
          (cases_lt d b)

      pub grown_around : Around k xs ys i j grown
      grown_around =
          let p = before.left_in in
          let q = before.right_in in
          let x = after.left_in in
          let y = after.right_in in
          let u = grams.left_in in
          let v = grams.right_in in
          record {
            longest = record {
              shared = record { some = omega arith; left_in = omega arith; right_in = omega arith; each = each_grown };
              no_earlier = λ hi hj h.
                  both_ways (same_at xs ys (i - (b + 1)) (j - (b + 1))) (before.stops (omega arith) (omega arith))
                  (at (i - b - 1 + 0) (j - b - 1 + 0) (i - (b + 1)) (j - (b + 1)) (omega arith) (omega arith) true (h.each 0 (omega arith)));
              no_later = λ h.
                  let m = h.left_in in
                  let n = h.right_in in
                  both_ways (same_at xs ys (i + k + f) (j + k + f)) (after.stops (omega arith) (omega arith))
                  (at (i - b + (b + k + f)) (j - b + (b + k + f)) (i + k + f) (j + k + f) (omega arith) (omega arith) true (h.each (b + k + f) (omega arith)));
            };
            starts = omega arith;
            ends = omega arith;
            level = omega arith;
          }

      pub the_run : TheRun k xs ys i j grown
      the_run = record { around = grown_around; only = λ s h. one_run grown s grown_around h }
