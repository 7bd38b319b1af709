-- The groups of equal value in a rising index, and their pairs.
use Rattle.std.proofs.Common.{◌≡◌, ℕ, ◌+◌, ◌-◌, ◌<◌, ◌≤◌, Bool, true, false, not, eqb, ◌⊎◌, List, [], ◌∷◌, ◌++◌, length, get_or, take, drop, filter, Ordering, Less, Equal, sym, refl, ap, ◌∙◌, subst, ap₂, inl, inr, ⊎_elim, append-nil, arith}
use mathlib.Core.List.{map-append}
use Rattle.std.specs.Ordering.{is_eq, ordering_reverse, ordering_then, nat_cmp}
use Rattle.std.specs.List.{flat_map, prefix_len}
use Rattle.std.proofs.lemmas.List.{take_rest, take-append-drop, drop-drop}
use Rattle.std.proofs.lemmas.List.Elements.{filter-append}
use Rattle.std.proofs.lemmas.Bool.{cases_Bool, both_ways, eqb-true, eqb-false, ne_eqb, not_from_true, not_from_false, not-true, cond-true, cond-false}
use Rattle.order.specs.Total.{TotalOrder}
use Rattle.order.specs.Listed.{In, Rising}
use Rattle.order.specs.Compared.{is_equal}
use Rattle.order.specs.Orders.{numbers}
use Rattle.order.proofs.Members.{kept_all, kept_none}
use Rattle.order.proofs.Rises.{rank_lt}
use Rattle.model.specs.declared.fingerprint.Fingerprint.{Fingerprint}
use Rattle.model.specs.Indexes.{foreign, partners}
use Rattle.model.specs.Passages.{paired}
use Rattle.model.specs.Prints.{by_fields}
use Rattle.ordered.proofs.Edits.{rising_drop, in_take, in_drop}
use Rattle.ordered.proofs.Keys.{first_less}
use Rattle.pairing.specs.Groups.{Pairs, first_group, with_each, crossed, others_first, own_then, group_pairs}
use Rattle.pairing.proofs.Leads.{kept_middle, passed, stopped, failed, joined_none, joined_same}
use Rattle.pairing.proofs.Crossing.{joined_append}

-- ---- orders

module _ {V : Type 0} (cmp : V → V → Ordering) where
  -- of two that rise the second has no lesser value, and of one value no lesser file
  value_le : (x y : Fingerprint V) → by_fields cmp x y ≡ Less → (cmp x.value y.value ≡ Less) ⊎ (cmp x.value y.value ≡ Equal)
  value_le x y e = first_less (cmp x.value y.value) (ordering_then (nat_cmp x.file y.file) (nat_cmp x.place y.place)) e

  file_le : (x y : Fingerprint V) → by_fields cmp x y ≡ Less → cmp x.value y.value ≡ Equal → x.file ≤ y.file
  file_le x y e same =
      let fields : ordering_then (nat_cmp x.file y.file) (nat_cmp x.place y.place) ≡ Less = sym (ap (λ (o : Ordering). ordering_then o (ordering_then (nat_cmp x.file y.file) (nat_cmp x.place y.place))) same) ∙ e in
      ⊎_elim (λ (l : nat_cmp x.file y.file ≡ Less). let lt = rank_lt x.file y.file l in omega arith)
      (λ (l : nat_cmp x.file y.file ≡ Equal). let eq = numbers.equal x.file y.file l in omega arith)
      (first_less (nat_cmp x.file y.file) (nat_cmp x.place y.place) fields)

  pub first_group_is : (xs : List (Fingerprint V)) (d : Fingerprint V) → 0 < length xs → prefix_len (λ y. is_eq (cmp y.value (get_or xs 0 d).value)) xs ≡ first_group cmp xs
  first_group_is [] d l = absurd (omega arith)
  first_group_is (y ∷ ys) d l = refl

-- ---- the parts of a group, as slices

module _ {V : Type 0} (n : ℕ) (group : List (Fingerprint V)) (low own : ℕ) (lows : low ≡ others_first n group) (owns : own ≡ prefix_len (λ b. eqb b.file n) (take (length group - low) (drop low group))) where
  own_is : own ≡ own_then n group
  own_is = owns ∙ ap (prefix_len (λ (b : Fingerprint V). eqb b.file n)) (take_rest group low) ∙ ap (λ (m : ℕ). prefix_len (λ (b : Fingerprint V). eqb b.file n) (drop m group)) lows

  own_part : take (low + own - low) (drop low group) ≡ take (own_then n group) (drop (others_first n group) group)
  own_part =
      let l : low + own - low ≡ own_then n group = omega (arith, own_is) in
      ap₂ (λ (m j : ℕ). take m (drop j group)) l lows

  pub own_files : (x : Fingerprint V) → In x (take (low + own - low) (drop low group)) → x.file ≡ n
  own_files x i = eqb-true x.file n (passed (λ (b : Fingerprint V). eqb b.file n) (drop (others_first n group) group) x (subst (In x) own_part i))

  pub group_parts : crossed (take (low - 0) group) (take (low + own - low) (drop low group)) (take (length group - (low + own)) (drop (low + own) group)) ≡ group_pairs n group
  group_parts =
      let l : low - 0 ≡ others_first n group = omega (arith, lows) in
      let h : low + own ≡ others_first n group + own_then n group = omega (arith, lows, own_is) in
      ap (λ (b : List (Fingerprint V)). crossed b (take (low + own - low) (drop low group)) (take (length group - (low + own)) (drop (low + own) group))) (ap (λ (m : ℕ). take m group) l)
      ∙ ap₂ (crossed (take (others_first n group) group)) own_part (take_rest group (low + own) ∙ ap (λ (m : ℕ). drop m group) h)

-- ---- the pairs of a group are those that its fingerprints have in the whole index

module _ {V : Type 0} {cmp : V → V → Ordering} (o : TotalOrder cmp) (n : ℕ) where
  not_equal : (x y : Fingerprint V) → cmp x.value y.value ≡ Less → is_eq (cmp x.value y.value) ≡ false
  not_equal x y e = ap is_eq e

  not_equal_turned : (x y : Fingerprint V) → cmp x.value y.value ≡ Less → is_eq (cmp y.value x.value) ≡ false
  not_equal_turned x y e = ap is_eq (o.flip y.value x.value ∙ ap ordering_reverse e)

  -- a group of one value, which rises: its part of file n stands together
  module _ (group : List (Fingerprint V)) (rises : Rising (by_fields cmp) group) (same : (x y : Fingerprint V) → In x group → In y group → cmp x.value y.value ≡ Equal) where
    abbrev low : ℕ
    low = others_first n group

    abbrev own : ℕ
    own = own_then n group

    abbrev rest : List (Fingerprint V)
    rest = drop low group

    -- no file before n stands from its part on
    floor : (xs : List (Fingerprint V)) → ((h : Fingerprint V) (t : List (Fingerprint V)) → xs ≡ h ∷ t → h.file ≡ n) → Rising (by_fields cmp) xs → ((x : Fingerprint V) → In x xs → In x group) → (x : Fingerprint V) → In x xs → n ≤ x.file
    floor [] first r inside x i = absurd i
    floor (h ∷ t) first r inside x i =
        let e = first h t refl in
        ⊎_elim (λ (q : h ≡ x). let f : h.file ≡ x.file = ap (λ (z : Fingerprint V). z.file) q in omega arith)
        (λ (j : In x t). let l = file_le cmp h x (r.0 x j) (same h x (inside h (inl refl)) (inside x i)) in omega arith)
        i

    rest_floor : (x : Fingerprint V) → In x rest → n ≤ x.file
    rest_floor =
        floor rest
        (λ h t e. let f = stopped (λ (b : Fingerprint V). not (eqb b.file n)) group h t e in ⊎_elim (λ (y : eqb h.file n ≡ true). eqb-true h.file n y) (λ (z : eqb h.file n ≡ false). absurd (both_ways (not (eqb h.file n)) f (not_from_false (eqb h.file n) z))) (cases_Bool (eqb h.file n)))
        (rising_drop (by_fields cmp) low group rises) (λ x i. in_drop low group x i)

    before_other : (x : Fingerprint V) → In x (take low group) → not (eqb x.file n) ≡ true
    before_other = passed (λ (b : Fingerprint V). not (eqb b.file n)) group

    own_yes : (x : Fingerprint V) → In x (take own rest) → eqb x.file n ≡ true
    own_yes = passed (λ (b : Fingerprint V). eqb b.file n) rest

    after_no : (x : Fingerprint V) → In x (drop own rest) → eqb x.file n ≡ false
    after_no =
        failed (λ (b : Fingerprint V). eqb b.file n) rest (rising_drop (by_fields cmp) low group rises)
        (λ x y i j l e.
        let f = rest_floor x i in
        let ne = eqb-false x.file n e in
        let le = file_le cmp x y l (same x y (in_drop low group x i) (in_drop low group y j)) in
        ne_eqb y.file n (λ q. ne (omega arith)))

    parts : take low group ++ (take own rest ++ drop own rest) ≡ group
    parts = ap (λ (l : List (Fingerprint V)). take low group ++ l) (take-append-drop own rest) ∙ take-append-drop low group

    after_is : drop own rest ≡ drop (low + own) group
    after_is = drop-drop own low group

    -- of the group the part of file n is left out
    foreign_group : foreign cmp n group ≡ take low group ++ drop own rest
    foreign_group =
        let p : Fingerprint V → Bool = λ b. not (eqb b.file n) in
        ap (filter p) (sym parts)
        ∙ filter-append p (take low group) (take own rest ++ drop own rest)
        ∙ ap₂ (λ (a b : List (Fingerprint V)). a ++ b) (kept_all p (take low group) before_other)
        (filter-append p (take own rest) (drop own rest)
        ∙ ap₂ (λ (a b : List (Fingerprint V)). a ++ b) (kept_none p (take own rest) (λ x i. not_from_true (eqb x.file n) (own_yes x i)))
        (kept_all p (drop own rest) (λ x i. not_from_false (eqb x.file n) (after_no x i))))

    -- the index around it has lesser values before it and greater ones after it
    module _ (pre post : List (Fingerprint V)) (lower : (x y : Fingerprint V) → In x pre → In y group → cmp x.value y.value ≡ Less) (upper : (x y : Fingerprint V) → In x group → In y post → cmp x.value y.value ≡ Less) where
      abbrev met : Fingerprint V → Pairs V
      met a = with_each a (take low group) ++ with_each a (drop (low + own) group)

      abbrev found : Fingerprint V → Pairs V
      found a = partners cmp n (pre ++ (group ++ post)) a

      own_found : (a : Fingerprint V) → In a (take own rest) → found a ≡ met a
      own_found a i =
          let a_in : In a group = in_drop low group a (in_take own rest a i) in
          cond-true (eqb a.file n) (paired cmp a (foreign cmp n (pre ++ (group ++ post)))) [] (own_yes a i)
          ∙ ap (with_each a)
          (kept_middle (λ (b : Fingerprint V). not (eqb b.file n)) (λ (b : Fingerprint V). is_eq (cmp b.value a.value)) pre group post
          (λ x j. not_equal x a (lower x a j a_in)) (λ x j. ap is_eq (same x a j a_in)) (λ x j. not_equal_turned a x (upper a x a_in j))
          ∙ foreign_group)
          ∙ map-append (λ (b : Fingerprint V). (a, b)) (take low group) (drop own rest)
          ∙ ap (λ (l : List (Fingerprint V)). with_each a (take low group) ++ with_each a l) after_is

      none_found : (a : Fingerprint V) → eqb a.file n ≡ false → found a ≡ []
      none_found a e = cond-false (eqb a.file n) (paired cmp a (foreign cmp n (pre ++ (group ++ post)))) [] e

      pub group_found : flat_map found group ≡ group_pairs n group
      group_found =
          ap (flat_map found) (sym parts)
          ∙ joined_append found (take low group) (take own rest ++ drop own rest)
          ∙ ap₂ (λ (a b : Pairs V). a ++ b)
          (joined_none found (take low group) (λ x i. none_found x (not-true (eqb x.file n) (before_other x i))))
          (joined_append found (take own rest) (drop own rest)
          ∙ ap₂ (λ (a b : Pairs V). a ++ b) (joined_same found met (take own rest) own_found) (joined_none found (drop own rest) (λ x i. none_found x (after_no x i)))
          ∙ append-nil (flat_map met (take own rest)))

-- ---- the first group of a rising list

module _ {V : Type 0} {cmp : V → V → Ordering} (o : TotalOrder cmp) where
  pub first_some : (xs : List (Fingerprint V)) → 0 < length xs → 1 ≤ first_group cmp xs
  first_some [] l = absurd (omega arith)
  first_some (h ∷ t) l = rw (ap is_eq (o.itself h.value)) (omega arith)

  module _ (h : Fingerprint V) (t : List (Fingerprint V)) (rises : Rising (by_fields cmp) (h ∷ t)) where
    abbrev has : Fingerprint V → Bool
    has y = is_eq (cmp y.value h.value)

    above : (x : Fingerprint V) → In x (h ∷ t) → (cmp h.value x.value ≡ Less) ⊎ (cmp h.value x.value ≡ Equal)
    above x i = ⊎_elim (λ (q : h ≡ x). inr (ap (λ (z : Fingerprint V). cmp h.value z.value) (sym q) ∙ o.itself h.value)) (λ (j : In x t). value_le cmp h x (rises.0 x j)) i

    -- another value is a greater one
    greater : (x : Fingerprint V) → In x (h ∷ t) → has x ≡ false → cmp h.value x.value ≡ Less
    greater x i e =
        ⊎_elim (λ (l : cmp h.value x.value ≡ Less). l)
        (λ (q : cmp h.value x.value ≡ Equal). absurd (both_ways (has x) e (ap is_eq (o.flip x.value h.value ∙ ap ordering_reverse q))))
        (above x i)

    has_value : (x : Fingerprint V) → In x (take (prefix_len has (h ∷ t)) (h ∷ t)) → x.value ≡ h.value
    has_value x i = o.equal x.value h.value (is_equal (cmp x.value h.value) (passed has (h ∷ t) x i))

    stays : (x y : Fingerprint V) → In x (h ∷ t) → In y (h ∷ t) → by_fields cmp x y ≡ Less → has x ≡ false → has y ≡ false
    stays x y i j l e =
        let g = greater x i e in
        let less : cmp h.value y.value ≡ Less =
        ⊎_elim (λ (q : cmp x.value y.value ≡ Less). o.trans h.value x.value y.value g q) (λ (q : cmp x.value y.value ≡ Equal). ap (cmp h.value) (sym (o.equal x.value y.value q)) ∙ g) (value_le cmp x y l) in
        ap is_eq (o.flip y.value h.value ∙ ap ordering_reverse less)

  pub first_same : (xs : List (Fingerprint V)) → Rising (by_fields cmp) xs → (x y : Fingerprint V) → In x (take (first_group cmp xs) xs) → In y (take (first_group cmp xs) xs) → cmp x.value y.value ≡ Equal
  first_same [] r x y i j = absurd i
  first_same (h ∷ t) r x y i j = ap₂ cmp (has_value h t r x i) (has_value h t r y j) ∙ o.itself h.value

  pub first_below : (xs : List (Fingerprint V)) → Rising (by_fields cmp) xs → (x y : Fingerprint V) → In x (take (first_group cmp xs) xs) → In y (drop (first_group cmp xs) xs) → cmp x.value y.value ≡ Less
  first_below [] r x y i j = absurd i
  first_below (h ∷ t) r x y i j =
      ap (λ (v : V). cmp v y.value) (has_value h t r x i)
      ∙ greater h t r y (in_drop (prefix_len (has h t r) (h ∷ t)) (h ∷ t) y j) (failed (has h t r) (h ∷ t) r (stays h t r) y j)
