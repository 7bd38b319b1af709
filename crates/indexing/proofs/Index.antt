-- The index lists the fingerprints of the held files, and keeps doing so. Assumes nothing.
use Rattle.std.proofs.Common.{◌≡◌, ℕ, ◌+◌, ◌≤◌, true, false, eqb, ◌⊎◌, List, [], ◌∷◌, ◌++◌, length, take, drop, sym, ap, ◌∙◌, subst, inl, inr, ⊎_elim, arith}
use Rattle.order.specs.Total.{TotalOrder}
use Rattle.order.specs.Listed.{In, Rising, ListsExactly}
use Rattle.std.proofs.lemmas.List.{flat_map_more, length-take-le}
use Rattle.std.proofs.lemmas.Bool.{eqb-false, ne_eqb}
use Rattle.order.proofs.Members.{map_in}
use Rattle.order.proofs.Rises.{exactly_same}
use Rattle.order.proofs.Joins.{joined_in, in_joined, append_in, in_left, in_right}
use Rattle.ordered.specs.Gathered.{AllIn}
use Rattle.ordered.specs.Edited.{Thinned}
use Rattle.ordered.proofs.Joining.{exactly_as, sum_in, in_sum}
use Rattle.ordered.proofs.Counts.{all_in_is}
use Rattle.runs.specs.Passages.{Scheme, print_list}
use Rattle.model.specs.declared.fingerprint.Fingerprint.{Fingerprint}
use Rattle.model.specs.Files.{File, Files, known, without}
use Rattle.model.specs.Prints.{by_fields, filed, file_prints, all_prints, index_of}
use Rattle.model.specs.Indexes.{AllKnown}
use Rattle.model.proofs.Held.{in_known, without_in, without_other, in_without}
use Rattle.model.proofs.Gathers.{gathered_exactly}
use Rattle.model.specs.Totals.{fields_total}

module _ {V : Type 0} (S : Scheme V) where
  -- a fingerprint of a file has its number
  pub print_file : (f : File) (e : Fingerprint V) → In e (file_prints S f) → e.file ≡ f.0
  print_file f e m = let h = map_in (filed f.0) (print_list S f.1) e m in ap (λ x. x.file) (sym h.2)

  -- each is of a held file
  pub prints_known : (fs : Files) (e : Fingerprint V) → In e (all_prints S fs) → known e.file fs ≡ true
  prints_known fs e m =
      let h = joined_in (file_prints S) fs e m in
      subst (λ n. known n fs ≡ true) (sym (print_file h.0 e h.2)) (in_known fs h.0.0 h.0.1 h.1)

  -- one file more
  prints_more : (fs : Files) (f : File) → all_prints S fs ++ file_prints S f ≡ all_prints S (fs ++ f ∷ [])
  prints_more fs f = flat_map_more (file_prints S) [] fs f

  -- a file less: what is left are the fingerprints of another number
  less_in : (x : ℕ) (fs : Files) (e : Fingerprint V) → In e (all_prints S (without x fs)) → In e (all_prints S fs) × (eqb e.file x ≡ false)
  less_in x fs e m =
      let h = joined_in (file_prints S) (without x fs) e m in
      let other = ne_eqb h.0.0 x (without_other x fs h.0 h.1) in (
        in_joined (file_prints S) fs h.0 e (without_in x fs h.0 h.1) h.2,
        subst (λ n. eqb n x ≡ false) (sym (print_file h.0 e h.2)) other,
      )

  in_less : (x : ℕ) (fs : Files) (e : Fingerprint V) → In e (all_prints S fs) → eqb e.file x ≡ false → In e (all_prints S (without x fs))
  in_less x fs e m other =
      let h = joined_in (file_prints S) fs e m in
      let stays = in_without x fs h.0 h.1 (eqb-false h.0.0 x (subst (λ n. eqb n x ≡ false) (print_file h.0 e h.2) other)) in
      in_joined (file_prints S) (without x fs) h.0 e stays h.2

  module _ (o : TotalOrder S.cmp) where
    pub index_exactly : (fs : Files) → ListsExactly (by_fields S.cmp) (index_of S fs) (λ e. In e (all_prints S fs))
    index_exactly fs = gathered_exactly (fields_total o) (all_prints S fs)

    pub index_rises : (fs : Files) → Rising (by_fields S.cmp) (index_of S fs)
    index_rises fs = (index_exactly fs).rises

    pub index_known : (fs : Files) → AllKnown fs (index_of S fs)
    index_known fs e m = prints_known fs e ((index_exactly fs).only e m)

    -- the index of the files and one more: that of the files, and the fingerprints of the one
    more_exactly : (fs : Files) (f : File) → ListsExactly (by_fields S.cmp) (index_of S (fs ++ f ∷ [])) (λ e. In e (index_of S fs) ⊎ In e (file_prints S f))
    more_exactly fs f =
        let all = index_exactly fs in
        let old = all_prints S fs in
        let new = file_prints S f in
        exactly_as (index_of S (fs ++ f ∷ [])) (λ e. In e (all_prints S (fs ++ f ∷ []))) (λ e. In e (index_of S fs) ⊎ In e new)
        (λ e m. ⊎_elim (λ (k : In e old). inl (all.every e k)) (λ (k : In e new). inr k) (append_in old new e (subst (In e) (sym (prints_more fs f)) m)))
        (λ e m. subst (In e) (prints_more fs f) (⊎_elim (λ (k : In e (index_of S fs)). in_left old new e (all.only e k)) (λ (k : In e new). in_right old new e k) m))
        (index_exactly (fs ++ f ∷ []))

    -- where the index stands in front, it rises
    front_rises : (fs : Files) (before : List (Fingerprint V)) (n : ℕ) → take n before ≡ index_of S fs → Rising (by_fields S.cmp) (take n before)
    front_rises fs before n is = subst (Rising (by_fields S.cmp)) (sym is) (index_rises fs)

    -- the fingerprints of one file more, taken into the index
    pub index_added : (fs : Files) (f : File) (before after : List (Fingerprint V)) (n m r : ℕ) → AllIn (by_fields S.cmp) before after n m r → take n before ≡ index_of S fs → take m (drop n before) ≡ file_prints S f → n + m ≤ length before → length after ≡ length before → (take r after ≡ index_of S (fs ++ f ∷ [])) × (r ≡ length (index_of S (fs ++ f ∷ [])))
    index_added fs f before after n m r h old new fits long =
        let more = index_of S (fs ++ f ∷ []) in
        all_in_is (fields_total o) before after more n m r h (front_rises fs before n old) (omega (arith, fits, long))
        (exactly_as more (λ e. In e (index_of S fs) ⊎ In e (file_prints S f)) (λ e. In e (take (n + m) before))
        (λ e k. in_sum before n m e (⊎_elim (λ (q : In e (index_of S fs)). inl (subst (In e) (sym old) q)) (λ (q : In e (file_prints S f)). inr (subst (In e) (sym new) q)) k))
        (λ e k. ⊎_elim (λ (q : In e (take n before)). inl (subst (In e) old q)) (λ (q : In e (take m (drop n before))). inr (subst (In e) new q)) (sum_in before n m e k))
        (more_exactly fs f))

    -- the fingerprints of a file taken out of it
    pub index_less : (fs : Files) (x : ℕ) (before after : List (Fingerprint V)) (c left : ℕ) → Thinned (by_fields S.cmp) (λ e. eqb e.file x) before after c left → take c before ≡ index_of S fs → c ≤ length before → length after ≡ length before → (take left after ≡ index_of S (without x fs)) × (left ≡ length (index_of S (without x fs)))
    index_less fs x before after c left h old fits long =
        let all = index_exactly fs in
        let few = h.fewer in
        let same = exactly_same (fields_total o) (λ e. In e (take c before) × (eqb e.file x ≡ false)) (λ e. In e (all_prints S (without x fs)))
        (λ e k. in_less x fs e (all.only e (subst (In e) old k.0)) k.1)
        (λ e k. let p = less_in x fs e k in (subst (In e) (sym old) (all.every e p.0), p.1))
        (take left after) (index_of S (without x fs)) (h.lists (front_rises fs before c old)) (index_exactly (without x fs)) in
        (same, sym (length-take-le left after (omega (arith, few, fits, long))) ∙ ap length same)
