-- The pairs of a held file with the others, and how many they are. Assumes nothing.
use Rattle.std.proofs.Common.{◌≡◌, ℕ, Bool, true, false, not, eqb, List, [], ◌∷◌, ◌++◌, map, length, filter, Ordering, sym, refl, ap, ◌∙◌, subst, ap₂, inl, inr, ⊎_elim}
use mathlib.Core.List.{map-append}
use Rattle.std.specs.List.{flat_map}
use Rattle.std.proofs.lemmas.List.{length-map}
use Rattle.std.proofs.lemmas.Bool.{both_ways, cond_both, not_from_true, not_from_false}
use Rattle.order.specs.Total.{TotalOrder}
use Rattle.order.specs.Listed.{In, Rising}
use Rattle.order.specs.Compared.{not_itself}
use Rattle.order.proofs.Joins.{append_in, in_joined, joined_in}
use Rattle.order.proofs.Members.{in_kept, kept_in, kept_passes, in_map, map_in}
use Rattle.order.specs.Orders.{numbers, order_both}
use Rattle.tokens.specs.declared.token.Token.{Token}
use Rattle.runs.specs.Shares.{gram_same}
use Rattle.runs.specs.Passages.{Scheme, Pair}
use Rattle.runs.proofs.Tested.{decides_grams, answer_no}
use Rattle.model.specs.declared.fingerprint.Fingerprint.{Fingerprint}
use Rattle.model.specs.Files.{File, Files, known, tokens_of, without, Distinct}
use Rattle.model.specs.Passages.{alike, differing, pairs, pairs_of}
use Rattle.model.proofs.Held.{in_tokens, known_in, unknown_in, in_without, without_in, without_other, distinct_kept}
use Rattle.promises.specs.Counts.{EachOnce, Counts}
use Rattle.promises.specs.Reports.{PairWith, DifferingPair}
use Rattle.promises.proofs.Pairing.{print_at, PairOf, pairs_in, in_pairs, pairs_counted}

-- ---- lists that have each member once

module _ {X : Type 0} where
  once_append : (xs ys : List X) → EachOnce xs → EachOnce ys → ((x : X) → In x xs → In x ys → ⊥) → EachOnce (xs ++ ys)
  once_append [] ys f g apart = g
  once_append (x ∷ xs) ys f g apart =
      (λ m. ⊎_elim f.0 (apart x (inl refl)) (append_in xs ys x m), once_append xs ys f.1 g (λ y i j. apart y (inr i) j))

  rising_once : {cmp : X → X → Ordering} → TotalOrder cmp → (xs : List X) → Rising cmp xs → EachOnce xs
  rising_once o [] c = tt
  rising_once o (x ∷ xs) c = (λ m. not_itself o x x refl (c.0 x m), rising_once o xs c.1)

module _ {X Y : Type 0} (key : X → Y) where
  once_kept : (test : X → Bool) (xs : List X) → EachOnce (map key xs) → EachOnce (map key (filter test xs))
  once_kept test [] h = tt
  once_kept test (x ∷ xs) h =
      cond_both (test x) (x ∷ filter test xs) (filter test xs) (λ l. EachOnce (map key l))
      (λ _. (λ m. let i = map_in key (filter test xs) (key x) m in h.0 (subst (λ y. In y (map key xs)) i.2 (in_map key xs i.0 (kept_in test xs i.0 i.1))), once_kept test xs h.1))
      (λ _. once_kept test xs h.1)

  -- where a part of the key tells them apart
  once_by_part : {Z : Type 0} (part : Y → Z) (xs : List X) → EachOnce (map (λ x. part (key x)) xs) → EachOnce (map key xs)
  once_by_part part [] h = tt
  once_by_part part (x ∷ xs) h = (
    λ m.
        let i = map_in key xs (key x) m in
        h.0 (subst (λ z. In z (map (λ y. part (key y)) xs)) (ap part i.2) (in_map (λ y. part (key y)) xs i.0 i.1)),
    once_by_part part xs h.1,
  )

-- ---- pairs of file n with the others

module _ {V : Type 0} where
  -- the other's number, and the places in both
  abbrev pub spot : Fingerprint V × Fingerprint V → ℕ × (ℕ × ℕ)
  spot p = (p.1.file, (p.0.place, p.1.place))

  once_joined : (of : File → List (Fingerprint V × Fingerprint V)) → ((g : File) → EachOnce (map spot (of g))) → ((g : File) (p : Fingerprint V × Fingerprint V) → In p (of g) → p.1.file ≡ g.0) →
      (gs : Files) → Distinct gs → EachOnce (map spot (flat_map of gs))
  once_joined of each number [] d = tt
  once_joined of each number (g ∷ gs) d =
      subst EachOnce (sym (map-append spot (of g) (flat_map of gs)))
      (once_append (map spot (of g)) (map spot (flat_map of gs)) (each g) (once_joined of each number gs d.1)
      (λ x i j.
      let a = map_in spot (of g) x i in
      let b = map_in spot (flat_map of gs) x j in
      let c = joined_in of gs b.0 b.1 in
      let same : c.0.0 ≡ g.0 = sym (number c.0 b.0 c.2) ∙ ap (λ y. y.0) b.2 ∙ sym (ap (λ y. y.0) a.2) ∙ number g a.0 a.1 in
      unknown_in gs g.0 c.0.1 d.0 (subst (λ m. In (m, c.0.1) gs) same c.1)))

module _ {V : Type 0} (S : Scheme V) (fs : Files) (n : ℕ) where
  pub record PairOfOther (p : Fingerprint V × Fingerprint V) : Type 0 where
    pub g : File
    pub held : In g fs
    pub apart : g.0 ≡ n → ⊥
    pub pair : PairOf S (n, tokens_of n fs) g p

module _ {V : Type 0} (S : Scheme V) (fs : Files) (n : ℕ) (apart : Distinct fs) where
  -- whether its grams are equal
  pub alike_is : (p : Fingerprint V × Fingerprint V) (h : PairOfOther S fs n p) → alike S.k fs p ≡ gram_same S.k (tokens_of n fs) h.g.1 p.0.place p.1.place
  alike_is p h =
      ap₂ (λ us vs. gram_same S.k us vs p.0.place p.1.place) (ap (λ v. tokens_of v fs) h.pair.left)
      (ap (λ v. tokens_of v fs) h.pair.right ∙ in_tokens fs h.g.0 h.g.1 apart h.held)

  pub alike_of : (xs ys : List Token) (m p q : ℕ) → In (n, xs) fs → In (m, ys) fs → alike S.k fs (print_at S (n, xs) p, print_at S (m, ys) q) ≡ gram_same S.k xs ys p q
  alike_of xs ys m p q here there = ap₂ (λ us vs. gram_same S.k us vs p q) (in_tokens fs n xs apart here) (in_tokens fs m ys apart there)

module _ {V : Type 0} (S : Scheme V) (o : TotalOrder S.cmp) (fs : Files) (n : ℕ) (apart : Distinct fs) where
  pub pairs_of_in : (p : Fingerprint V × Fingerprint V) → In p (pairs_of S fs n) → PairOfOther S fs n p
  pairs_of_in p m =
      let j = joined_in (pairs S (n, tokens_of n fs)) (without n fs) p m in
      record { g = j.0; held = without_in n fs j.0 j.1; apart = without_other n fs j.0 j.1; pair = pairs_in S o (n, tokens_of n fs) j.0 p j.2 }

  pub in_pairs_of : (xs ys : List Token) (m p q : ℕ) → In (n, xs) fs → In (m, ys) fs → (m ≡ n → ⊥) → Pair S xs ys p q → In (print_at S (n, xs) p, print_at S (m, ys) q) (pairs_of S fs n)
  in_pairs_of xs ys m p q here there ne pair =
      in_joined (pairs S (n, tokens_of n fs)) (without n fs) (m, ys) (print_at S (n, xs) p, print_at S (m, ys) q) (in_without n fs (m, ys) there ne)
      (subst (λ us. In (print_at S (n, xs) p, print_at S (m, ys) q) (pairs S (n, us) (m, ys))) (sym (in_tokens fs n xs apart here)) (in_pairs S o (n, xs) (m, ys) p q pair))

  -- ---- how many there are

  once_each : EachOnce (map spot (pairs_of S fs n))
  once_each =
      once_joined (pairs S (n, tokens_of n fs))
      (λ g. once_by_part spot (λ y. y.1) (pairs S (n, tokens_of n fs) g) (rising_once (order_both numbers numbers) _ (pairs_counted S o (n, tokens_of n fs) g).rises))
      (λ g p m. (pairs_in S o (n, tokens_of n fs) g p m).right)
      (without n fs) (distinct_kept (λ f. not (eqb f.0 n)) fs apart)

  module _ (here : known n fs ≡ true) where
    abbrev pair_with : (p : Fingerprint V × Fingerprint V) (h : PairOfOther S fs n p) → PairWith S fs n (h.g.0, (p.0.place, p.1.place))
    pair_with p h = record { xs = tokens_of n fs; ys = h.g.1; file = known_in fs n here; other = h.held; apart = h.apart; pair = h.pair.pair }

    named : (P : ℕ × (ℕ × ℕ) → Type 0) (p : Fingerprint V × Fingerprint V) (h : PairOfOther S fs n p) → P (h.g.0, (p.0.place, p.1.place)) → P (spot p)
    named P p h = subst (λ m. P (m, (p.0.place, p.1.place))) (sym h.pair.right)

    pub pairs_count : Counts (PairWith S fs n) (length (pairs_of S fs n))
    pairs_count = record {
      all = map spot (pairs_of S fs n);
      only = λ x m.
          let i = map_in spot (pairs_of S fs n) x m in
          let h = pairs_of_in i.0 i.1 in
          subst (PairWith S fs n) i.2 (named (PairWith S fs n) i.0 h (pair_with i.0 h));
      every = λ x h.
          in_map spot (pairs_of S fs n) (print_at S (n, h.xs) x.1.0, print_at S (x.0, h.ys) x.1.1)
          (in_pairs_of h.xs h.ys x.0 x.1.0 x.1.1 h.file h.other h.apart h.pair);
      once = once_each;
      count = length-map (pairs_of S fs n) spot;
    }

    abbrev unlike : Fingerprint V × Fingerprint V → Bool
    unlike p = not (alike S.k fs p)

    differing_pair : (p : Fingerprint V × Fingerprint V) (h : PairOfOther S fs n p) → unlike p ≡ true → DifferingPair S fs n (h.g.0, (p.0.place, p.1.place))
    differing_pair p h e = record {
      pair = pair_with p h;
      differ = λ grams.
          let same = alike_is S fs n apart p h ∙ (decides_grams S.k (tokens_of n fs) h.g.1 p.0.place p.1.place).1 grams in
          both_ways (unlike p) (not_from_true (alike S.k fs p) same) e;
    }

    pub differing_count : Counts (DifferingPair S fs n) (differing S.k fs (pairs_of S fs n))
    differing_count = record {
      all = map spot (filter unlike (pairs_of S fs n));
      only = λ x m.
          let i = map_in spot (filter unlike (pairs_of S fs n)) x m in
          let p = i.0 in
          let h = pairs_of_in p (kept_in unlike (pairs_of S fs n) p i.1) in
          subst (DifferingPair S fs n) i.2 (named (DifferingPair S fs n) p h (differing_pair p h (kept_passes unlike (pairs_of S fs n) p i.1)));
      every = λ x d.
          let h = d.pair in
          let p : Fingerprint V × Fingerprint V = (print_at S (n, h.xs) x.1.0, print_at S (x.0, h.ys) x.1.1) in
          let unequal : alike S.k fs p ≡ false = alike_of S fs n apart h.xs h.ys x.0 x.1.0 x.1.1 h.file h.other ∙ sym (answer_no S.k h.xs h.ys x.1.0 x.1.1 d.differ) in
          in_map spot (filter unlike (pairs_of S fs n)) p
          (in_kept unlike (pairs_of S fs n) p (in_pairs_of h.xs h.ys x.0 x.1.0 x.1.1 h.file h.other h.apart h.pair) (not_from_false (alike S.k fs p) unequal));
      once = once_kept spot unlike (pairs_of S fs n) once_each;
      count = length-map (filter unlike (pairs_of S fs n)) spot;
    }
