-- A report lists exactly the passages, misses no long run and raises no false alarm. Assumes nothing.
use Rattle.std.proofs.Common.{◌≡◌, ℕ, ◌+◌, ◌-◌, ◌≤◌, true, leb, List, length, take, drop, replicate, filter, sym, refl, ap, ◌∙◌, subst, ap₂, inl, inr, arith}
use Rattle.std.proofs.lemmas.List.{length-append, length-replicate, take_at, drop_at}
use Rattle.std.proofs.lemmas.Bool.{cond_both, leb-true, leb-false}
use Rattle.order.specs.Total.{TotalOrder}
use Rattle.order.specs.Listed.{In}
use Rattle.order.proofs.Members.{in_kept, kept_in, kept_passes, in_map, map_in}
use Rattle.tokens.specs.declared.token.Token.{Token}
use Rattle.runs.specs.declared.longest.Run.{Run}
use Rattle.runs.specs.Shares.{same_at, SameGrams, Shared}
use Rattle.runs.specs.Passages.{Scheme, Pair}
use Rattle.runs.proofs.Grown.{one_run}
use Rattle.runs.proofs.Tested.{decides_grams}
use Rattle.runs.proofs.Windows.{guaranteed}
use Rattle.model.specs.declared.fingerprint.Fingerprint.{Fingerprint}
use Rattle.model.specs.declared.passage.Passage.{Passage}
use Rattle.model.specs.Calls.{report, Setting, padded, answer}
use Rattle.model.specs.Files.{Files, known, tokens_of, Distinct}
use Rattle.model.specs.Passages.{no_passage, passage, grown, alike, around, marked, differing, pairs_of, passages_of}
use Rattle.model.specs.Totals.{eight_total}
use Rattle.model.proofs.Gathers.{gathered_exactly}
use Rattle.model.proofs.Grows.{grown_around}
use Rattle.model.proofs.Held.{in_tokens, known_in}
use Rattle.promises.specs.Reports.{Listed, Exact, NoMiss, NoFalseAlarm, ReportGranted, ReportTold}
use Rattle.promises.proofs.Pairing.{print_at}
use Rattle.promises.proofs.Others.{PairOfOther, pairs_of_in, in_pairs_of, alike_is, alike_of, pairs_count, differing_count}

-- the grams of a pair inside a run are equal
grams_inside : (k : ℕ) (xs ys : List Token) (i j n p q : ℕ) → Shared xs ys i j n → i ≤ p → p + k ≤ i + n → p + j ≡ q + i → SameGrams k xs ys p q
grams_inside k xs ys i j n p q h starts ends level =
    let a = h.left_in in
    let b = h.right_in in
    record {
      left_in = omega arith;
      right_in = omega arith;
      each = λ d l.
          let x : p + d ≡ i + (p - i + d) = omega arith in
          let y : q + d ≡ j + (p - i + d) = omega arith in
          ap₂ (same_at xs ys) x y ∙ h.each (p - i + d) (omega arith);
    }

module _ {V : Type 0} (S : Scheme V) (o : TotalOrder S.cmp) (low : 1 ≤ S.k) (fs : Files) (n : ℕ) (apart : Distinct fs) where
  -- a passage of two files from a pair of them with equal grams
  grown_listed : (xs ys : List Token) (m p q : ℕ) → In (n, xs) fs → In (m, ys) fs → (m ≡ n → ⊥) → Pair S xs ys p q → SameGrams S.k xs ys p q → Listed S fs n (passage m xs ys (grown S.k xs ys p q))
  grown_listed xs ys m p q here there ne pair grams =
      let a = grown_around S.k xs ys p q low grams in
      record {
        xs = xs;
        ys = ys;
        file = here;
        other = there;
        apart = ne;
        marked = record { longest = a.longest; p = p; q = q; pair = pair; starts = a.starts; ends = a.ends; level = a.level };
        here = refl;
        there = refl;
      }

  pair_listed : known n fs ≡ true → (p : Fingerprint V × Fingerprint V) → PairOfOther S fs n p → alike S.k fs p ≡ true → Listed S fs n (around S.k fs p)
  pair_listed here p h same =
      let xs = tokens_of n fs in
      let m = h.g.0 in
      let ys = h.g.1 in
      let i = p.0.place in
      let j = p.1.place in
      let grams = (decides_grams S.k xs ys i j).0 (sym (alike_is S fs n apart p h) ∙ same) in
      let left : xs ≡ tokens_of p.0.file fs = ap (λ v. tokens_of v fs) (sym h.pair.left) in
      let right : ys ≡ tokens_of p.1.file fs = sym (in_tokens fs m ys apart h.held) ∙ ap (λ v. tokens_of v fs) (sym h.pair.right) in
      let is : passage m xs ys (grown S.k xs ys i j) ≡ around S.k fs p =
      λ z. passage (sym h.pair.right z) (left z) (right z) (grown S.k (left z) (right z) i j) in
      subst (Listed S fs n) is (grown_listed xs ys m i j (known_in fs n here) h.held h.apart h.pair.pair grams)

  marked_listed : known n fs ≡ true → (x : Passage) → In x (marked S.k fs (pairs_of S fs n)) → Listed S fs n x
  marked_listed here x m =
      let h = map_in (around S.k fs) (filter (alike S.k fs) (pairs_of S fs n)) x m in
      let p = h.0 in
      subst (Listed S fs n) h.2
      (pair_listed here p (pairs_of_in S o fs n apart p (kept_in (alike S.k fs) (pairs_of S fs n) p h.1)) (kept_passes (alike S.k fs) (pairs_of S fs n) p h.1))

  listed_marked : (x : Passage) → Listed S fs n x → In x (marked S.k fs (pairs_of S fs n))
  listed_marked x h =
      let xs = h.xs in
      let ys = h.ys in
      let m = h.marked in
      let p = m.p in
      let q = m.q in
      let a = print_at S (n, xs) p in
      let b = print_at S (x.other, ys) q in
      let grams = grams_inside S.k xs ys x.left x.right x.len p q m.longest.shared m.starts m.ends m.level in
      let left = in_tokens fs n xs apart h.file in
      let right = in_tokens fs x.other ys apart h.other in
      let listed = in_pairs_of S o fs n apart xs ys x.other p q h.file h.other h.apart m.pair in
      let same : alike S.k fs (a, b) ≡ true = alike_of S fs n apart xs ys x.other p q h.file h.other ∙ (decides_grams S.k xs ys p q).1 grams in
      let run : Run = record { left = x.left; right = x.right; len = x.len } in
      let one : grown S.k xs ys p q ≡ run =
      one_run xs ys S.k p q low run (grown S.k xs ys p q) (record { longest = m.longest; starts = m.starts; ends = m.ends; level = m.level })
      (grown_around S.k xs ys p q low grams) in
      let is : around S.k fs (a, b) ≡ x =
      ap₂ (λ us vs. passage x.other us vs (grown S.k us vs p q)) left right
      ∙ ap (passage x.other xs ys) one
      ∙ (λ i. record { other = x.other; left = x.left; right = x.right; len = x.len; here = sym h.here i; there = sym h.there i }) in
      subst (λ z. In z (marked S.k fs (pairs_of S fs n))) is
      (in_map (around S.k fs) (filter (alike S.k fs) (pairs_of S fs n)) (a, b) (in_kept (alike S.k fs) (pairs_of S fs n) (a, b) listed same))

  pub passages_exact : known n fs ≡ true → Exact S fs n (passages_of S fs n)
  passages_exact here =
      let r = gathered_exactly eight_total (marked S.k fs (pairs_of S fs n)) in
      record { rises = r.rises; only = λ x m. marked_listed here x (r.only x m); every = λ x h. r.every x (listed_marked x h) }

-- ---- what such a list promises

module _ {V : Type 0} (S : Scheme V) (fs : Files) (n : ℕ) (ps : List Passage) (exact : Exact S fs n ps) where
  pub no_miss : TotalOrder S.cmp → S.k ≤ S.t → NoMiss S fs n ps
  no_miss o fits m xs ys i j len here there ne run long =
      exact.every (passage m xs ys (record { left = i; right = j; len = len }))
      (record { xs = xs; ys = ys; file = here; other = there; apart = ne; marked = guaranteed S o fits xs ys i j len run long; here = refl; there = refl })

  pub no_false_alarm : NoFalseAlarm S fs n ps
  no_false_alarm x m =
      let h = exact.only x m in
      let starts = h.marked.starts in
      let ends = h.marked.ends in
      record {
        xs = h.xs;
        ys = h.ys;
        file = h.file;
        other = h.other;
        apart = h.apart;
        enough = omega arith;
        equal = h.marked.longest.shared;
        longest = h.marked.longest;
        here_begins = ap (λ b. b.from) h.here;
        here_ends = ap (λ b. b.to) h.here;
        there_begins = ap (λ b. b.from) h.there;
        there_ends = ap (λ b. b.to) h.there;
      }

module _ {X : Type 0} (xs : List X) (room : ℕ) (zero : X) where
  padded_front : take (length xs) (padded xs room zero) ≡ xs
  padded_front = take_at xs (replicate (room - length xs) zero) (length xs) refl

  padded_rest : drop (length xs) (padded xs room zero) ≡ replicate (room - length xs) zero
  padded_rest = drop_at xs (replicate (room - length xs) zero) (length xs) refl

  padded_size : length xs ≤ room → length (padded xs room zero) ≡ room
  padded_size h = let a = length-append xs (replicate (room - length xs) zero) in let b = length-replicate (room - length xs) zero in omega arith

module _ {V : Type 0} (st : Setting V) (o : TotalOrder st.scheme.cmp) (low : 1 ≤ st.scheme.k) (fits : st.scheme.k ≤ st.scheme.t) (fs : Files) (n room : ℕ) (apart : Distinct fs) where
  abbrev S : Scheme V
  S = st.scheme

  granted : (ps : List Passage) → Exact S fs n ps → known n fs ≡ true → length ps ≤ room →
      ReportGranted S fs n room (record { passages = length ps; pairs = length (pairs_of S fs n); differing = differing S.k fs (pairs_of S fs n) }) (padded ps room no_passage)
  granted ps exact here fit =
      let listed : Exact S fs n (take (length ps) (padded ps room no_passage)) = subst (Exact S fs n) (sym (padded_front ps room no_passage)) exact in
      record {
        held = here;
        size = padded_size ps room no_passage fit;
        fits = fit;
        exact = listed;
        no_miss = no_miss S fs n (take (length ps) (padded ps room no_passage)) listed o fits;
        no_false_alarm = no_false_alarm S fs n (take (length ps) (padded ps room no_passage)) listed;
        zeros = padded_rest ps room no_passage;
        pairs = pairs_count S o fs n apart here;
        differing = differing_count S o fs n apart here;
      }

  pub report_told : ReportTold S fs n room (answer st fs (report n room))
  report_told =
      cond_both (known n fs) _ _ (ReportTold S fs n room)
      (λ here.
      let exact = passages_exact S o low fs n apart here in
      cond_both (leb (length (passages_of S fs n)) room) _ _ (ReportTold S fs n room)
      (λ fit. granted (passages_of S fs n) exact here (leb-true (length (passages_of S fs n)) room fit))
      (λ more. record { zeros = refl; why = inr (refl, here, record { all = passages_of S fs n; exact = exact; more = leb-false (length (passages_of S fs n)) room more }) }))
      (λ gone. record { zeros = refl; why = inl (refl, gone) })
