-- The order in which files are held changes neither whether they fit nor a report. Assumes nothing.
use Rattle.std.proofs.Common.{◌≡◌, ℕ, ◌≤◌, Bool, true, false, cond, not, eqb, List, length, sum_by, filter, sym, ap, ◌∙◌, subst, ap₂, ⊎_elim}
use Rattle.std.specs.List.Sorted.{IsPermutation}
use Rattle.std.specs.List.{flat_map}
use Rattle.std.proofs.lemmas.List.Sorted.{IsPermutation-sym, length_permutation, sum_by-IsPermutation}
use Rattle.std.proofs.ByRecursion.{has_shuffled}
use Rattle.std.proofs.lemmas.List.Sums.{length-filter}
use Rattle.std.proofs.lemmas.Bool.{cases_Bool, cond-false}
use Rattle.order.specs.Total.{TotalOrder}
use Rattle.order.specs.Listed.{In}
use Rattle.order.proofs.Bridges.{has_in, in_has}
use Rattle.order.proofs.Rises.{exactly_same}
use Rattle.tokens.specs.declared.token.Token.{Token}
use Rattle.runs.specs.Shares.{gram_same}
use Rattle.runs.specs.Passages.{Scheme}
use Rattle.model.specs.declared.fingerprint.Fingerprint.{Fingerprint}
use Rattle.model.specs.declared.passage.Passage.{Passage}
use Rattle.model.specs.Calls.{report, Setting, most_files, report_outcome, answer}
use Rattle.model.specs.Files.{File, Files, known, tokens_of, without, Distinct}
use Rattle.model.specs.Passages.{alike, differing, pairs, pairs_of, passages_of}
use Rattle.model.specs.Prints.{file_prints}
use Rattle.model.specs.Totals.{eight_total}
use Rattle.model.proofs.Held.{in_known, known_in, unknown_in, none_known, unknown_tokens, in_tokens}
use Rattle.model.proofs.Sums.{sum_length, sum_kept, sum_joined, length_joined}
use Rattle.promises.specs.Holding.{Fits}
use Rattle.promises.specs.Reports.{Listed}
use Rattle.promises.proofs.Counting.{distinct_count, count_distinct}
use Rattle.promises.proofs.Reporting.{passages_exact}

-- ---- files in another order

module _ (fs gs : Files) (s : IsPermutation fs gs) where
  pub in_shuffled : (f : File) → In f fs → In f gs
  in_shuffled f m = has_in gs f (has_shuffled fs gs f s (in_has fs f m))

  pub in_unshuffled : (f : File) → In f gs → In f fs
  in_unshuffled f m = has_in fs f (has_shuffled gs fs f (IsPermutation-sym fs gs s) (in_has gs f m))

  pub known_shuffled : (n : ℕ) → known n gs ≡ known n fs
  known_shuffled n =
      ⊎_elim
      (λ (e : known n fs ≡ true). in_known gs n (tokens_of n fs) (in_shuffled (n, tokens_of n fs) (known_in fs n e)) ∙ sym e)
      (λ (e : known n fs ≡ false). none_known gs n (λ ts m. unknown_in fs n ts e (in_unshuffled (n, ts) m)) ∙ sym e)
      (cases_Bool (known n fs))

  pub distinct_shuffled : Distinct fs → Distinct gs
  distinct_shuffled d =
      count_distinct gs (λ n. subst (λ c. c ≤ 1) (sym (sum_by-IsPermutation (λ (f : File). cond (eqb f.0 n) 1 0) fs gs s)) (distinct_count fs d n))

  pub tokens_shuffled : Distinct fs → (n : ℕ) → tokens_of n gs ≡ tokens_of n fs
  tokens_shuffled d n =
      ⊎_elim
      (λ (e : known n fs ≡ true). in_tokens gs n (tokens_of n fs) (distinct_shuffled d) (in_shuffled (n, tokens_of n fs) (known_in fs n e)))
      (λ (e : known n fs ≡ false). unknown_tokens gs n (known_shuffled n ∙ e) ∙ sym (unknown_tokens fs n e))
      (cases_Bool (known n fs))

  joined_shuffled : {X : Type 0} (f : File → List X) → length (flat_map f gs) ≡ length (flat_map f fs)
  joined_shuffled f = length_joined f gs ∙ sum_by-IsPermutation (λ g. length (f g)) fs gs s ∙ sym (length_joined f fs)

  pub fits_shuffled : {V : Type 0} (st : Setting V) → Fits st fs → Fits st gs
  fits_shuffled st h = record {
    distinct = distinct_shuffled h.distinct;
    no_zero = known_shuffled 0 ∙ h.no_zero;
    files = subst (λ c. c ≤ most_files) (sym (length_permutation fs gs s)) h.files;
    tokens = subst (λ c. c ≤ st.tokens) (sym (joined_shuffled (λ (f : File). f.1))) h.tokens;
    prints = subst (λ c. c ≤ st.index) (sym (joined_shuffled (file_prints st.scheme))) h.prints;
  }

  -- ---- their reports

  module _ {V : Type 0} (S : Scheme V) (d : Distinct fs) (n : ℕ) where
    sum_pairs : (weight : Fingerprint V × Fingerprint V → ℕ) → sum_by weight (pairs_of S gs n) ≡ sum_by weight (pairs_of S fs n)
    sum_pairs weight =
        let other : File → Bool = λ g. not (eqb g.0 n) in
        let of : List Token → File → ℕ = λ ts g. sum_by weight (pairs S (n, ts) g) in
        let sum : (hs : Files) → sum_by weight (pairs_of S hs n) ≡ sum_by (λ g. cond (other g) (of (tokens_of n hs) g) 0) hs =
        λ hs. sum_joined weight (pairs S (n, tokens_of n hs)) (without n hs) ∙ sum_kept (of (tokens_of n hs)) other hs in
        sum gs
        ∙ ap (λ ts. sum_by (λ g. cond (other g) (of ts g) 0) gs) (tokens_shuffled d n)
        ∙ sum_by-IsPermutation (λ g. cond (other g) (of (tokens_of n fs) g) 0) fs gs s
        ∙ sym (sum fs)

    length_pairs : length (pairs_of S gs n) ≡ length (pairs_of S fs n)
    length_pairs = sym (sum_length (pairs_of S gs n)) ∙ sum_pairs (λ _. 1) ∙ sum_length (pairs_of S fs n)

    differing_same : differing S.k gs (pairs_of S gs n) ≡ differing S.k fs (pairs_of S fs n)
    differing_same =
        let test : Files → Fingerprint V × Fingerprint V → Bool = λ hs p. not (alike S.k hs p) in
        let one : (p : Fingerprint V × Fingerprint V) → test gs p ≡ test fs p =
        λ p. ap₂ (λ xs ys. not (gram_same S.k xs ys p.0.place p.1.place)) (tokens_shuffled d p.0.file) (tokens_shuffled d p.1.file) in
        ap (λ (t : Fingerprint V × Fingerprint V → Bool). length (filter t (pairs_of S gs n))) (λ i p. one p i)
        ∙ length-filter (test fs) (pairs_of S gs n)
        ∙ sum_pairs (λ p. cond (test fs p) 1 0)
        ∙ sym (length-filter (test fs) (pairs_of S fs n))

listed_among : {V : Type 0} (S : Scheme V) (fs gs : Files) (n : ℕ) → ((f : File) → In f fs → In f gs) → (x : Passage) → Listed S fs n x → Listed S gs n x
listed_among S fs gs n within x h = record {
  xs = h.xs;
  ys = h.ys;
  file = within (n, h.xs) h.file;
  other = within (x.other, h.ys) h.other;
  apart = h.apart;
  marked = h.marked;
  here = h.here;
  there = h.there;
}

module _ {V : Type 0} (st : Setting V) (o : TotalOrder st.scheme.cmp) (low : 1 ≤ st.scheme.k) (fs gs : Files) (s : IsPermutation fs gs) (d : Distinct fs) where
  abbrev S : Scheme V
  S = st.scheme

  passages_shuffled : (n : ℕ) → known n fs ≡ true → passages_of S gs n ≡ passages_of S fs n
  passages_shuffled n here =
      exactly_same eight_total (Listed S gs n) (Listed S fs n) (listed_among S gs fs n (in_unshuffled fs gs s)) (listed_among S fs gs n (in_shuffled fs gs s))
      (passages_of S gs n) (passages_of S fs n)
      (passages_exact S o low gs n (distinct_shuffled fs gs s d) (known_shuffled fs gs s n ∙ here))
      (passages_exact S o low fs n d here)

  pub report_shuffled : (n room : ℕ) → answer st gs (report n room) ≡ answer st fs (report n room)
  report_shuffled n room =
      let is_held = known_shuffled fs gs s n in
      ⊎_elim
      (λ (here : known n fs ≡ true).
      let ps = passages_shuffled n here in
      let all = length_pairs fs gs s S d n in
      let differ = differing_same fs gs s S d n in
      λ i. report_outcome (is_held i) (ps i) (all i) (differ i) room)
      (λ (gone : known n fs ≡ false). cond-false (known n gs) _ _ (is_held ∙ gone) ∙ sym (cond-false (known n fs) _ _ gone))
      (cases_Bool (known n fs))
