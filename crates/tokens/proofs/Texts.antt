-- How far a file is read, a byte at a time.
use Rattle.std.proofs.Common.{◌≡◌, ℕ, zero, suc, ◌+◌, ◌<◌, ◌≤◌, Bool, true, cond, not, eqb, ltb, List, [], ◌∷◌, length, get_or, drop, Some, None, sym, ap, ◌∙◌, ⊎_elim, add-zero, arith}
use Rattle.std.specs.List.{prefix_len}
use Rattle.std.proofs.lemmas.List.{length-drop, get_or-drop}
use Rattle.std.proofs.lemmas.List.Sums.{prefix_len-drop_yes, prefix_len-drop_no, prefix_len-drop_all, prefix_len-le-length}
use Rattle.std.proofs.lemmas.Bool.{cond-true, cond-false, lt-ltb, le-ltb, ltb-false, eq-eqb, ne_eqb, eqb-false, not-true, cases_Bool}
use Rattle.tokens.specs.declared.token.Cause.TheVariants.{TooLong, ZeroByte}
use Rattle.tokens.specs.Tokens.{limit}
use Rattle.tokens.specs.Texts.{nonzero, too_long, readable, file_fault, text_ending}

-- ---- a file over the limit

pub long_none : (file : List ℕ) (i : ℕ) → limit < length file → readable file i ≡ 0
long_none file i h = cond-true (too_long file) _ _ (lt-ltb limit (length file) h)

pub long_ends : (file : List ℕ) (i : ℕ) → limit < length file → text_ending file i ≡ Some (file_fault TooLong 0)
long_ends file i h = cond-true (too_long file) _ _ (lt-ltb limit (length file) h)

-- ---- a file within the limit

module _ (file : List ℕ) (i : ℕ) (short : length file ≤ limit) where
  reads : readable file i ≡ prefix_len nonzero (drop i file)
  reads = cond-false (too_long file) _ _ (le-ltb limit (length file) short)

  ends : text_ending file i ≡ cond (ltb (i + readable file i) (length file)) (Some (file_fault ZeroByte (i + readable file i))) None
  ends = cond-false (too_long file) _ _ (le-ltb limit (length file) short)

  pub past_none : length file ≤ i → readable file i ≡ 0
  past_none h = reads ∙ prefix_len-drop_all nonzero file i h

  pub past_ends : length file ≤ i → text_ending file i ≡ None
  past_ends h = ends ∙ cond-false _ _ _ (le-ltb (i + readable file i) (length file) (omega arith))

  pub zero_none : i < length file → get_or file i 0 ≡ 0 → readable file i ≡ 0
  zero_none h z = reads ∙ prefix_len-drop_no nonzero file i 0 h (ap not (eq-eqb _ 0 z))

  pub zero_ends : i < length file → get_or file i 0 ≡ 0 → text_ending file i ≡ Some (file_fault ZeroByte i)
  zero_ends h z =
      let here : i + readable file i ≡ i = omega (arith, zero_none h z) in
      ends ∙ cond-true _ _ _ (lt-ltb (i + readable file i) (length file) (omega (arith, here))) ∙ ap (λ p. Some (file_fault ZeroByte p)) here

-- one byte is read
module _ (file : List ℕ) (i : ℕ) (short : length file ≤ limit) (h : i < length file) (some : get_or file i 0 ≡ 0 → ⊥) where
  pub reads_more : readable file i ≡ suc (readable file (i + 1))
  reads_more =
      let more = prefix_len-drop_yes nonzero file i 0 h (ap not (ne_eqb (get_or file i 0) 0 some)) in
      omega (arith, reads file i short, reads file (i + 1) short, more)

  pub ends_more : text_ending file (i + 1) ≡ text_ending file i
  ends_more =
      let same : (i + 1) + readable file (i + 1) ≡ i + readable file i = omega (arith, reads_more) in
      ends file (i + 1) short ∙ ap (λ e. cond (ltb e (length file)) (Some (file_fault ZeroByte e)) None) same ∙ sym (ends file i short)

-- ---- what is read lies in the file, within the limit, and has no zero byte

pub reads_within : (file : List ℕ) (i : ℕ) → 0 < readable file i → (i + readable file i ≤ length file) × (length file ≤ limit)
reads_within file i some =
    ⊎_elim
    (λ long. absurd (omega (arith, some, cond-true (too_long file) 0 (prefix_len nonzero (drop i file)) long)))
    (λ short.
    let all = cond-false (too_long file) 0 (prefix_len nonzero (drop i file)) short in
    let most = prefix_len-le-length nonzero (drop i file) in
    let rest = length-drop i file in
    (omega (arith, some, all, most, rest), ltb-false limit (length file) short))
    (cases_Bool (too_long file))

leading_passes : (test : ℕ → Bool) (xs : List ℕ) (d : ℕ) → d < prefix_len test xs → test (get_or xs d 0) ≡ true
leading_passes test [] d h = absurd (omega arith)
leading_passes test (x ∷ xs) zero h =
    ⊎_elim (λ yes'. yes') (λ no'. absurd (omega (arith, h, cond-false (test x) (1 + prefix_len test xs) 0 no'))) (cases_Bool (test x))
leading_passes test (x ∷ xs) (suc d) h =
    ⊎_elim
    (λ yes'. leading_passes test xs d (omega (arith, h, cond-true (test x) (1 + prefix_len test xs) 0 yes')))
    (λ no'. absurd (omega (arith, h, cond-false (test x) (1 + prefix_len test xs) 0 no')))
    (cases_Bool (test x))

pub reads_some : (file : List ℕ) (i d : ℕ) → d < readable file i → get_or file (i + d) 0 ≡ 0 → ⊥
reads_some file i d h z =
    let short = (reads_within file i (omega arith)).1 in
    let passes = leading_passes nonzero (drop i file) d (omega (arith, h, reads file i short)) in
    eqb-false (get_or file (i + d) 0) 0 (not-true (eqb (get_or file (i + d) 0) 0) (ap nonzero (sym (get_or-drop i file d 0)) ∙ passes)) z

-- ---- some bytes are read

pub reads_on : (file : List ℕ) (i d : ℕ) → d ≤ readable file i → readable file (i + d) + d ≡ readable file i
reads_on file i zero h = omega (arith, ap (readable file) (add-zero i))
reads_on file i (suc d) h =
    let before = reads_on file i d (omega arith) in
    let some : 0 < readable file (i + d) = omega (arith, before) in
    let within = reads_within file (i + d) some in
    let here : i + d + 0 ≡ i + d = omega arith in
    let full : get_or file (i + d) 0 ≡ 0 → ⊥ = λ z. reads_some file (i + d) 0 some (ap (λ k. get_or file k 0) here ∙ z) in
    let one = reads_more file (i + d) within.1 (omega (arith, within.0)) full in
    let there : i + d + 1 ≡ i + suc d = omega arith in
    omega (arith, before, one, ap (readable file) there)

pub ends_on : (file : List ℕ) (i d : ℕ) → d ≤ readable file i → text_ending file (i + d) ≡ text_ending file i
ends_on file i d h =
    let same : i + d + readable file (i + d) ≡ i + readable file i = omega (arith, reads_on file i d h) in
    ap (λ end. cond (too_long file) (Some (file_fault TooLong 0)) (cond (ltb end (length file)) (Some (file_fault ZeroByte end)) None)) same
