-- What is grown from two equal grams is the longest run around them.
use Rattle.std.proofs.Common.{◌≡◌, ℕ, zero, suc, ◌+◌, ◌-◌, ◌<◌, ◌≤◌, Bool, true, false, List, [], ◌∷◌, reverse, length, get_or, take, drop, sym, ap, ◌∙◌, ap₂, ⊎_elim, arith}
use Rattle.std.specs.List.{common_prefix_len}
use Rattle.std.proofs.lemmas.List.{get_or-take, get_or-drop, get_or-reverse, length-take-le, length-drop, length-reverse}
use Rattle.std.proofs.lemmas.Bool.{cases_Bool}
use Rattle.std.proofs.lemmas.List.Sums.{common_prefix_len-le}
use Rattle.tokens.specs.declared.token.Token.{Token}
use Rattle.tokens.specs.Tokens.{same}
use Rattle.runs.specs.Shares.{unused, SameGrams, Around, SameBefore, SameFrom}
use Rattle.runs.proofs.Grown as runs
use Rattle.model.specs.Passages.{same_back, same_on, grown}

module _ {X : Type 0} (e : X → X → Bool) (c : X) where
  pub common_each : (as' bs : List X) (d : ℕ) → d < common_prefix_len e as' bs → e (get_or as' d c) (get_or bs d c) ≡ true
  common_each [] bs d l = absurd (omega arith)
  common_each (a ∷ as') [] d l = absurd (omega arith)
  common_each (a ∷ as') (b ∷ bs) zero l =
      ⊎_elim (λ (t : e a b ≡ true). t) (λ (t : e a b ≡ false). absurd (let k : 0 < 0 = rw t at l in omega arith)) (cases_Bool (e a b))
  common_each (a ∷ as') (b ∷ bs) (suc d) l =
      ⊎_elim
      (λ (t : e a b ≡ true). let k : suc d < 1 + common_prefix_len e as' bs = rw t at l in common_each as' bs d (omega arith))
      (λ (t : e a b ≡ false). absurd (let k : suc d < 0 = rw t at l in omega arith))
      (cases_Bool (e a b))

  pub common_stops : (as' bs : List X) → common_prefix_len e as' bs < length as' → common_prefix_len e as' bs < length bs → e (get_or as' (common_prefix_len e as' bs) c) (get_or bs (common_prefix_len e as' bs) c) ≡ false
  common_stops [] bs l m = absurd (omega arith)
  common_stops (a ∷ as') [] l m = absurd (omega arith)
  common_stops (a ∷ as') (b ∷ bs) l m =
      ⊎_elim
      (λ (t : e a b ≡ true).
      let k : 1 + common_prefix_len e as' bs < length (a ∷ as') = rw t at l in
      let n : 1 + common_prefix_len e as' bs < length (b ∷ bs) = rw t at m in
      let one : 1 + common_prefix_len e as' bs ≡ suc (common_prefix_len e as' bs) = omega arith in
      rw (t, one) (common_stops as' bs (omega arith) (omega arith)))
      (λ (t : e a b ≡ false). rw t t)
      (cases_Bool (e a b))

module _ (xs ys : List Token) (i j : ℕ) where
  same_on_is : SameFrom xs ys i j (same_on xs ys i j)
  same_on_is =
      let le = common_prefix_len-le same (drop i xs) (drop j ys) in
      let lx : length (drop i xs) ≡ length xs - i = length-drop i xs in
      let ly : length (drop j ys) ≡ length ys - j = length-drop j ys in
      record {
        left_in = omega (arith, le.0, lx);
        right_in = omega (arith, le.1, ly);
        each = λ d l. ap₂ same (sym (get_or-drop i xs d unused)) (sym (get_or-drop j ys d unused)) ∙ common_each same unused (drop i xs) (drop j ys) d l;
        stops = λ l m.
            ap₂ same (sym (get_or-drop i xs (same_on xs ys i j) unused)) (sym (get_or-drop j ys (same_on xs ys i j) unused))
            ∙ common_stops same unused (drop i xs) (drop j ys) (omega (arith, lx)) (omega (arith, ly));
      }

  module _ (li : i ≤ length xs) (lj : j ≤ length ys) where
    -- the token d places before i
    back : (zs : List Token) (n d : ℕ) → n ≤ length zs → d < n → get_or (reverse (take n zs)) d unused ≡ get_or zs (n - (d + 1)) unused
    back zs n d l h =
        let ln : length (take n zs) ≡ n = length-take-le n zs l in
        let k : length (take n zs) - 1 - d ≡ n - (d + 1) = omega arith in
        get_or-reverse (take n zs) d unused (omega arith) ∙ ap (λ (x : ℕ). get_or (take n zs) x unused) k ∙ get_or-take n zs (n - (d + 1)) unused (omega arith)

    same_back_is : SameBefore xs ys i j (same_back xs ys i j)
    same_back_is =
        let le = common_prefix_len-le same (reverse (take i xs)) (reverse (take j ys)) in
        let lx : length (reverse (take i xs)) ≡ i = length-reverse (take i xs) ∙ length-take-le i xs li in
        let ly : length (reverse (take j ys)) ≡ j = length-reverse (take j ys) ∙ length-take-le j ys lj in
        let ni : same_back xs ys i j ≤ i = omega (arith, le.0, lx) in
        let nj : same_back xs ys i j ≤ j = omega (arith, le.1, ly) in
        record {
          left_in = ni;
          right_in = nj;
          each = λ d l. ap₂ same (sym (back xs i d li (omega (arith, ni)))) (sym (back ys j d lj (omega (arith, nj)))) ∙ common_each same unused (reverse (take i xs)) (reverse (take j ys)) d l;
          stops = λ l m.
              ap₂ same (sym (back xs i (same_back xs ys i j) li l)) (sym (back ys j (same_back xs ys i j) lj m))
              ∙ common_stops same unused (reverse (take i xs)) (reverse (take j ys)) (omega (arith, lx)) (omega (arith, ly));
        }

module _ (k : ℕ) (xs ys : List Token) (i j : ℕ) (some : 1 ≤ k) (grams : SameGrams k xs ys i j) where
  pub grown_around : Around k xs ys i j (grown k xs ys i j)
  grown_around =
      let li : i ≤ length xs = let h = grams.left_in in omega arith in
      let lj : j ≤ length ys = let h = grams.right_in in omega arith in
      runs.grown_around xs ys k i j some (same_back xs ys i j) (same_on xs ys (i + k) (j + k)) grams (same_back_is xs ys i j li lj) (same_on_is xs ys (i + k) (j + k))
