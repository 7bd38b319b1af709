-- A shared run has the same values at the same distances, and its first window a pair. Assumes nothing.
use Rattle.std.proofs.Common.{◌≡◌, ℕ, ◌+◌, ◌-◌, ◌<◌, ◌≤◌, true, List, length, get_or, drop, Ordering, sym, ap, ◌∙◌, arith}
use Rattle.std.proofs.lemmas.List.{length-map, length-take, length-drop, get_or-map, get_or-take, get_or-drop, ext_get_or}
use Rattle.std.proofs.lemmas.Bool.{eqb-true}
use Rattle.order.specs.Total.{TotalOrder}
use Rattle.tokens.specs.declared.token.Token.{Token}
use Rattle.tokens.specs.Tokens.{same}
use Rattle.prints.specs.Choice.{Rightmost, pick}
use Rattle.prints.specs.Walk.{gram}
use Rattle.prints.proofs.Picks.{picked_rightmost, rightmost_moved}
use Rattle.prints.proofs.Winnowed.{winnowed_exact}
use Rattle.runs.specs.Shares.{unused, Shared, Longest}
use Rattle.runs.specs.Passages.{Scheme, codes, width, row, Print, Passage, scheme, Guarantee, PrintsListed}

-- the one fact of `same` that is used
pub same_code : (a b : Token) → same a b ≡ true → a.code ≡ b.code
unfolding same
same_code a b e = eqb-true a.code b.code e

-- the codes of the k tokens from i on
gram_length : (k i : ℕ) (ts : List Token) → i + k ≤ length ts → length (gram k (codes ts) i) ≡ k
gram_length k i ts h = simp (length-take, length-drop, length-map) (omega arith)

gram_at : (k i d : ℕ) (ts : List Token) → i + k ≤ length ts → d < k → get_or (gram k (codes ts) i) d 0 ≡ (get_or ts (i + d) unused).code
gram_at k i d ts h l =
    get_or-take k (drop i (codes ts)) d 0 l ∙ get_or-drop i (codes ts) d 0 ∙ get_or-map (λ a. a.code) ts (i + d) unused 0 (omega arith)

-- two grams within a shared run, equally far from its starts, have the same codes
pub grams_same : (k i j n d : ℕ) (xs ys : List Token) → Shared xs ys i j n → d + k ≤ n → gram k (codes xs) (i + d) ≡ gram k (codes ys) (j + d)
grams_same k i j n d xs ys h l =
    let a = h.left_in in
    let b = h.right_in in
    let a' : i + d + k ≤ length xs = omega arith in
    let b' : j + d + k ≤ length ys = omega arith in
    let long = gram_length k (i + d) xs a' in
    ext_get_or 0 _ _ (long ∙ sym (gram_length k (j + d) ys b'))
    (λ e lt.
    let lt' : e < k = omega arith in
    let left : i + d + e ≡ i + (d + e) = omega arith in
    let right : j + (d + e) ≡ j + d + e = omega arith in
    gram_at k (i + d) e xs a' lt'
    ∙ ap (λ x. (get_or xs x unused).code) left
    ∙ same_code _ _ (h.each (d + e) (omega arith))
    ∙ ap (λ x. (get_or ys x unused).code) right
    ∙ sym (gram_at k (j + d) e ys b' lt'))

module _ {V : Type 0} (S : Scheme V) where
  -- and so one value
  pub alike_within : (xs ys : List Token) (i j n d : ℕ) → Shared xs ys i j n → d + S.k ≤ n → row S xs (i + d) ≡ row S ys (j + d)
  alike_within xs ys i j n d h l = ap S.hash (grams_same S.k i j n d xs ys h l)

  -- a window within the list
  pub print_from : S.k ≤ S.t → (ts : List Token) (s p : ℕ) → s + S.t ≤ length ts → Rightmost S.cmp (row S ts) s (width S) p → Print S ts p
  print_from fits ts s p inside r = (s, simp length-map (omega arith), r)

  -- the first window of a longest run of t or more tokens holds a pair
  pub guaranteed : TotalOrder S.cmp → S.k ≤ S.t → (xs ys : List Token) (i j n : ℕ) → Longest xs ys i j n → S.t ≤ n → Passage S xs ys i j n
  guaranteed order fits xs ys i j n run long =
      let p = pick S.cmp (row S xs) i (width S - 1) in
      let q = j + (p - i) in
      let here : Rightmost S.cmp (row S xs) i (width S) p = picked_rightmost order (row S xs) i (width S) (omega arith) in
      let lo = here.from in
      let hi = here.below in
      let a = run.shared.left_in in
      let b = run.shared.right_in in
      let alike : (d : ℕ) → d < width S → row S xs (i + d) ≡ row S ys (j + d) = λ d l. alike_within xs ys i j n d run.shared (omega arith) in
      let there : Rightmost S.cmp (row S ys) j (width S) q = rightmost_moved (row S xs) (row S ys) i j (width S) alike p q (omega arith) here in
      let back : p ≡ i + (p - i) = omega arith in
      record {
        longest = run;
        p = p;
        q = q;
        pair = record {
          here = print_from fits xs i p (omega arith) here;
          there = print_from fits ys j q (omega arith) there;
          alike = ap (row S xs) back ∙ alike (p - i) (omega arith);
        };
        starts = lo;
        ends = omega arith;
        level = omega arith;
      }

module _ {V : Type 0} (hash : List ℕ → V) (cmp : V → V → Ordering) (order : TotalOrder cmp) where
  pub guarantee : Guarantee hash cmp
  guarantee k t some fits = guaranteed (scheme hash cmp k t) order fits

  pub prints_listed : PrintsListed hash cmp
  prints_listed k t ts = winnowed_exact hash order k (t - k + 1) (omega arith) (codes ts)
