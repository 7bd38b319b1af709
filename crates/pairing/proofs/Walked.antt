-- The walk over the index, group by group.
use Rattle.std.proofs.Common.{◌≡◌, ℕ, ◌+◌, ◌-◌, ◌≤◌, List, [], ◌++◌, length, take, drop, Ordering, Less, sym, refl, ap, ◌∙◌, subst, ⊎_elim, arith}
use Rattle.std.specs.List.{flat_map}
use Rattle.std.proofs.lemmas.List.{take_rest, take_all, take-append-drop, drop-drop}
use Rattle.order.specs.Total.{TotalOrder}
use Rattle.order.specs.Listed.{In, Rising}
use Rattle.order.proofs.Joins.{append_in}
use Rattle.ordered.proofs.Edits.{rising_take, rising_drop, in_take, in_drop}
use Rattle.ordered.proofs.Joining.{take_sum}
use Rattle.model.specs.declared.answers.Reported.{Reported}
use Rattle.model.specs.declared.fingerprint.Fingerprint.{Fingerprint}
use Rattle.model.specs.declared.passage.Passage.{Passage}
use Rattle.model.specs.Files.{Files}
use Rattle.model.specs.Indexes.{partners, index_pairs}
use Rattle.model.specs.Prints.{by_fields}
use Rattle.pairing.specs.Groups.{Pairs, first_group, group_pairs}
use Rattle.pairing.specs.Tallies.{Ready, Tallied, Overfull}
use Rattle.pairing.proofs.Tallying.{tallied_none, tallied_more, overfull_later, overfull_more}
use Rattle.pairing.proofs.Crossing.{joined_append}
use Rattle.pairing.proofs.Grouped.{group_found, first_same, first_below}

-- the first `at` entries are walked over: some pairs are met, which in a rising index are those of these entries, and what follows has greater values
pub record Walked {V : Type 0} (cmp : V → V → Ordering) (n k : ℕ) (fs : Files) (index : List (Fingerprint V)) (at : ℕ) (list : List Passage) (t : Reported) (after : List Passage) (u : Reported) : Type 0 where
  pub ps : Pairs V
  pub tallied : Tallied k fs ps list t after u
  pub apart : Rising (by_fields cmp) index → (x y : Fingerprint V) → In x (take at index) → In y (drop at index) → cmp x.value y.value ≡ Less
  pub found : Rising (by_fields cmp) index → ps ≡ flat_map (partners cmp n index) (take at index)

pub walked_none : {V : Type 0} (cmp : V → V → Ordering) (n k : ℕ) (fs : Files) (index : List (Fingerprint V)) (list : List Passage) (t : Reported) → Ready list t → Walked cmp n k fs index 0 list t list t
walked_none cmp n k fs index list t ready = record { ps = []; tallied = tallied_none k fs list t ready; apart = λ r x y i j. absurd i; found = λ r. refl }

module _ {V : Type 0} {cmp : V → V → Ordering} (o : TotalOrder cmp) (n k : ℕ) (fs : Files) (index : List (Fingerprint V)) (at : ℕ) {list now : List Passage} {t u : Reported} (h : Walked cmp n k fs index at list t now u) where
  -- the end of the index
  pub walked_all : length index ≤ at → Rising (by_fields cmp) index → Tallied k fs (index_pairs cmp n index) list t now u
  walked_all end r = subst (λ (ps : Pairs V). Tallied k fs ps list t now u) (h.found r ∙ ap (flat_map (partners cmp n index)) (take_all at index end)) h.tallied

  -- one group further
  module _ (m : ℕ) (counted : m ≡ first_group cmp (take (length index - at) (drop at index))) where
    abbrev rest : List (Fingerprint V)
    rest = drop at index

    abbrev group : List (Fingerprint V)
    group = take m rest

    abbrev post : List (Fingerprint V)
    post = drop m rest

    m_is : m ≡ first_group cmp rest
    m_is = counted ∙ ap (first_group cmp) (take_rest index at)

    group_is : (x : Fingerprint V) → In x group → In x (take (first_group cmp rest) rest)
    group_is x i = subst (λ (j : ℕ). In x (take j rest)) m_is i

    post_is : (x : Fingerprint V) → In x post → In x (drop (first_group cmp rest) rest)
    post_is x i = subst (λ (j : ℕ). In x (drop j rest)) m_is i

    split : take at index ++ (group ++ post) ≡ index
    split = ap (λ (l : List (Fingerprint V)). take at index ++ l) (take-append-drop m rest) ∙ take-append-drop at index

    module _ (r : Rising (by_fields cmp) index) where
      rises : Rising (by_fields cmp) rest
      rises = rising_drop (by_fields cmp) at index r

      next_found : flat_map (partners cmp n index) (take (at + m) index) ≡ flat_map (partners cmp n index) (take at index) ++ group_pairs n group
      next_found =
          ap (flat_map (partners cmp n index)) (take_sum at m index)
          ∙ joined_append (partners cmp n index) (take at index) group
          ∙ ap (λ (l : Pairs V). flat_map (partners cmp n index) (take at index) ++ l)
          (subst (λ (z : List (Fingerprint V)). flat_map (partners cmp n z) group ≡ group_pairs n group) split
          (group_found o n group (rising_take (by_fields cmp) m rest rises) (λ x y i j. first_same o rest rises x y (group_is x i) (group_is y j)) (take at index) post
          (λ x y i j. h.apart r x y i (in_take m rest y j)) (λ x y i j. first_below o rest rises x y (group_is x i) (post_is y j))))

      next_apart : (x y : Fingerprint V) → In x (take (at + m) index) → In y (drop (at + m) index) → cmp x.value y.value ≡ Less
      next_apart x y i j =
          let y-in : In y post = subst (In y) (sym (drop-drop m at index)) j in
          ⊎_elim (λ (a : In x (take at index)). h.apart r x y a (in_drop m rest y y-in)) (λ (b : In x group). first_below o rest rises x y (group_is x b) (post_is y y-in))
          (append_in (take at index) group x (subst (In x) (take_sum at m index) i))

    abbrev slice : List (Fingerprint V)
    slice = take (at + m - at) rest

    slice_is : slice ≡ group
    slice_is = let l : at + m - at ≡ m = omega arith in ap (λ (j : ℕ). take j rest) l

    pub walked_more : {end : List Passage} {v : Reported} → Tallied k fs (group_pairs n slice) now u end v → Walked cmp n k fs index (at + m) list t end v
    walked_more {end} {v} g =
        record {
          ps = h.ps ++ group_pairs n group;
          tallied = tallied_more k fs (group_pairs n group) h.tallied (subst (λ (z : List (Fingerprint V)). Tallied k fs (group_pairs n z) now u end v) slice_is g);
          apart = next_apart;
          found = λ r. ap (λ (l : Pairs V). l ++ group_pairs n group) (h.found r) ∙ sym (next_found r);
        }

    -- the list is full
    pub walked_full : Overfull k fs (group_pairs n slice) now u → Rising (by_fields cmp) index → Overfull k fs (index_pairs cmp n index) list t
    walked_full g r =
        let here : Overfull k fs (h.ps ++ group_pairs n group) list t = overfull_later k fs (group_pairs n group) h.tallied (subst (λ (z : List (Fingerprint V)). Overfull k fs (group_pairs n z) now u) slice_is g) in
        let some : Overfull k fs (flat_map (partners cmp n index) (take (at + m) index)) list t =
        subst (λ (ps : Pairs V). Overfull k fs ps list t) (ap (λ (l : Pairs V). l ++ group_pairs n group) (h.found r) ∙ sym (next_found r)) here in
        let all : flat_map (partners cmp n index) (take (at + m) index) ++ flat_map (partners cmp n index) (drop (at + m) index) ≡ index_pairs cmp n index =
        sym (joined_append (partners cmp n index) (take (at + m) index) (drop (at + m) index)) ∙ ap (flat_map (partners cmp n index)) (take-append-drop (at + m) index) in
        subst (λ (ps : Pairs V). Overfull k fs ps list t) all (overfull_more k fs (flat_map (partners cmp n index) (drop (at + m) index)) some)
