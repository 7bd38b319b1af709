-- Two lists of tokens, token beside token: how many pairs from the first on are the same, and whether all are. Assumes nothing.
use Rattle.std.proofs.Common.{◌≡◌, ℕ, zero, suc, ◌+◌, ◌-◌, ◌<◌, ◌≤◌, min, Bool, true, false, List, [], ◌∷◌, ◌++◌, length, get_or, take, drop, reverse, Decides, refl, sym, ap, ap₂, ◌∙◌, arith}
use Rattle.std.specs.List.{zip, prefix_len, list_all}
use Rattle.std.proofs.lemmas.List.{length-take, length-drop, length-reverse, get_or-take, get_or-drop, get_or-reverse, reverse-append, take-append-drop, take-take, take_at, drop-take}
use Rattle.std.proofs.lemmas.List.Elements.{All-get_or, All-from_get_or}
use Rattle.std.proofs.lemmas.List.Sums.{prefix_len-le-length, prefix_len_passes, prefix_len_stops, AllPass-from_list_all, list_all-from_AllPass}
use Rattle.std.proofs.lemmas.Slice.Zip.{length-zip, get_or-zip}
use Rattle.tokens.specs.declared.token.Token.{Token}
use Rattle.tokens.specs.Tokens.{same}
use Rattle.runs.specs.Shares.{unused, same_at, SameGrams, SameBefore, SameFrom}

abbrev pub partners : Token × Token → Bool
partners p = same p.0 p.1

-- how many tokens of the lists, from the first on, are the same
abbrev pub alike : List Token → List Token → ℕ
alike xs ys = prefix_len partners (zip xs ys)

-- the partners at d
at : (xs ys : List Token) (d : ℕ) → d < length xs → d < length ys → partners (get_or (zip xs ys) d (unused, unused)) ≡ same_at xs ys d d
at xs ys d l m = ap partners (get_or-zip xs ys d (unused, unused) l m)

-- what lies past the end of the shorter list has no partner
pub zip_cut : (n : ℕ) (xs ys : List Token) → min (length xs) (length ys) ≤ n → zip (take n xs) (take n ys) ≡ zip xs ys
zip_cut zero [] ys l = refl
zip_cut (suc n) [] ys l = refl
zip_cut zero (x ∷ xs) [] l = refl
zip_cut (suc n) (x ∷ xs) [] l = refl
zip_cut zero (x ∷ xs) (y ∷ ys) l = absurd (omega arith)
zip_cut (suc n) (x ∷ xs) (y ∷ ys) l = ap (λ ps. (x, y) ∷ ps) (zip_cut n xs ys (omega arith))

-- i tokens are those before the last n, and these
whole : (n i : ℕ) (xs : List Token) → n ≤ i → take i xs ≡ take (i - n) xs ++ take n (drop (i - n) xs)
whole n i xs l =
    let e : i ≡ (i - n) + n = omega arith in
    let d : drop (i - n) (take i xs) ≡ take n (drop (i - n) xs) = ap (λ m. drop (i - n) (take m xs)) e ∙ drop-take (i - n) n xs in
    let t : take (i - n) (take i xs) ≡ take (i - n) xs = take-take (i - n) i xs (omega arith) in
    sym (take-append-drop (i - n) (take i xs)) ∙ ap₂ (λ a b. a ++ b) t d

-- the last n of i tokens, the last first, are the first n of all i, the last first
pub last_first : (n i : ℕ) (xs : List Token) → n ≤ i → i ≤ length xs → reverse (take n (drop (i - n) xs)) ≡ take n (reverse (take i xs))
last_first n i xs l li =
    let front = take (i - n) xs in
    let back = take n (drop (i - n) xs) in
    let e : take i xs ≡ front ++ back = whole n i xs l in
    let m : length (reverse back) ≡ n = simp (length-reverse, length-take, length-drop) (omega arith) in
    sym (take_at (reverse back) (reverse front) n m) ∙ ap (take n) (sym (ap reverse e ∙ reverse-append front back))

module _ (xs ys : List Token) where
  within : (alike xs ys ≤ length xs) × (alike xs ys ≤ length ys)
  within = let e = length-zip xs ys in let l = prefix_len-le-length partners (zip xs ys) in (omega arith, omega arith)

  each : (d : ℕ) → d < alike xs ys → same_at xs ys d d ≡ true
  each d l = let w = within in sym (at xs ys d (omega arith) (omega arith)) ∙ prefix_len_passes partners (zip xs ys) d (unused, unused) l

  stops : alike xs ys < length xs → alike xs ys < length ys → same_at xs ys (alike xs ys) (alike xs ys) ≡ false
  stops l m = let e = length-zip xs ys in sym (at xs ys (alike xs ys) l m) ∙ prefix_len_stops partners (zip xs ys) (unused, unused) (omega arith)

-- the token at d of those before i, the last first
before : (xs : List Token) (i d : ℕ) → i ≤ length xs → d < i → get_or (reverse (take i xs)) d unused ≡ get_or xs (i - (d + 1)) unused
before xs i d li l =
    let n : length (take i xs) ≡ i = simp length-take (omega arith) in
    let e : length (take i xs) - 1 - d ≡ i - (d + 1) = omega arith in
    get_or-reverse (take i xs) d unused (omega arith) ∙ ap (λ m. get_or (take i xs) m unused) e ∙ get_or-take i xs (i - (d + 1)) unused (omega arith)

module _ (xs ys : List Token) (i j : ℕ) where
  -- from i and j on
  on : (d : ℕ) → same_at (drop i xs) (drop j ys) d d ≡ same_at xs ys (i + d) (j + d)
  on d = ap₂ same (get_or-drop i xs d unused) (get_or-drop j ys d unused)

  pub same_from_is : SameFrom xs ys i j (alike (drop i xs) (drop j ys))
  same_from_is =
      let x = length-drop i xs in
      let y = length-drop j ys in
      let w = within (drop i xs) (drop j ys) in
      record {
        left_in = omega arith;
        right_in = omega arith;
        each = λ d l. sym (on d) ∙ each (drop i xs) (drop j ys) d l;
        stops = λ l m. sym (on (alike (drop i xs) (drop j ys))) ∙ stops (drop i xs) (drop j ys) (omega arith) (omega arith);
      }

  -- before i and j, the last token first
  module _ (li : i ≤ length xs) (lj : j ≤ length ys) where
    abbrev left : List Token
    left = reverse (take i xs)

    abbrev right : List Token
    right = reverse (take j ys)

    back : (d : ℕ) → d < i → d < j → same_at left right d d ≡ same_at xs ys (i - (d + 1)) (j - (d + 1))
    back d l m = ap₂ same (before xs i d li l) (before ys j d lj m)

    pub same_before_is : SameBefore xs ys i j (alike left right)
    same_before_is =
        let x : length left ≡ i = simp (length-reverse, length-take) (omega arith) in
        let y : length right ≡ j = simp (length-reverse, length-take) (omega arith) in
        let w = within left right in
        record {
          left_in = omega arith;
          right_in = omega arith;
          each = λ d l. sym (back d (omega arith) (omega arith)) ∙ each left right d l;
          stops = λ l m. sym (back (alike left right) l m) ∙ stops left right (omega arith) (omega arith);
        }

  -- the grams of k tokens, where they are there
  module _ (k : ℕ) (li : i + k ≤ length xs) (lj : j + k ≤ length ys) where
    abbrev grams : List (Token × Token)
    grams = zip (take k (drop i xs)) (take k (drop j ys))

    met : (d : ℕ) → d < k → partners (get_or grams d (unused, unused)) ≡ same_at xs ys (i + d) (j + d)
    met d l =
        at (take k (drop i xs)) (take k (drop j ys)) d (simp (length-take, length-drop) (omega arith)) (simp (length-take, length-drop) (omega arith))
        ∙ ap₂ same (get_or-take k (drop i xs) d unused l) (get_or-take k (drop j ys) d unused l)
        ∙ on d

    pub decides_all : Decides (list_all partners grams) (SameGrams k xs ys i j)
    decides_all =
        let P : Token × Token → Type 0 = λ p. partners p ≡ true in
        let n : length grams ≡ k = simp (length-zip, length-take, length-drop) (omega arith) in (
          λ e. record {
            left_in = li;
            right_in = lj;
            each = λ d l. sym (met d l) ∙ All-get_or P grams d (unused, unused) (omega arith) (AllPass-from_list_all partners grams e);
          },
          λ h. list_all-from_AllPass partners grams (All-from_get_or P grams (unused, unused) (λ d l. met d (omega arith) ∙ h.each d (omega arith))),
        )

-- what is counted in lists cut to one length is what is counted in all of them
pub same_from_cut : (xs ys us vs : List Token) (i j n r : ℕ) → us ≡ drop i xs → vs ≡ drop j ys → n ≡ min (length us) (length vs) → r ≡ alike (take n us) (take n vs) → SameFrom xs ys i j r
same_from_cut xs ys us vs i j n r u v m e =
    let c : alike (take n us) (take n vs) ≡ alike us vs = ap (prefix_len partners) (zip_cut n us vs (omega arith)) in
    let all : r ≡ alike (drop i xs) (drop j ys) = e ∙ c ∙ ap₂ alike u v in
    rw all (same_from_is xs ys i j)

pub same_before_cut : (xs ys : List Token) (i j n r : ℕ) → i ≤ length xs → j ≤ length ys → n ≡ min i j → r ≡ alike (reverse (take (i - (i - n)) (drop (i - n) xs))) (reverse (take (j - (j - n)) (drop (j - n) ys))) → SameBefore xs ys i j r
same_before_cut xs ys i j n r li lj m e =
    let a : i - (i - n) ≡ n = omega arith in
    let b : j - (j - n) ≡ n = omega arith in
    let x : reverse (take (i - (i - n)) (drop (i - n) xs)) ≡ take n (reverse (take i xs)) = ap (λ k. reverse (take k (drop (i - n) xs))) a ∙ last_first n i xs (omega arith) li in
    let y : reverse (take (j - (j - n)) (drop (j - n) ys)) ≡ take n (reverse (take j ys)) = ap (λ k. reverse (take k (drop (j - n) ys))) b ∙ last_first n j ys (omega arith) lj in
    let p : length (reverse (take i xs)) ≡ i = simp (length-reverse, length-take) (omega arith) in
    let q : length (reverse (take j ys)) ≡ j = simp (length-reverse, length-take) (omega arith) in
    let c : alike (take n (reverse (take i xs))) (take n (reverse (take j ys))) ≡ alike (reverse (take i xs)) (reverse (take j ys)) =
    ap (prefix_len partners) (zip_cut n (reverse (take i xs)) (reverse (take j ys)) (omega arith)) in
    rw (e ∙ ap₂ alike x y ∙ c) (same_before_is xs ys i j li lj)
