-- The pairs read off the index are those of the definition, in another order. Assumes nothing.
use Rattle.std.proofs.Common.{◌≡◌, ℕ, Bool, true, false, cond, not, ◌||◌, eqb, List, [], ◌∷◌, ◌++◌, map, sum_by, filter, Ordering, sym, refl, ap, ◌∙◌, subst, ap₂, ⊎_elim}
use Rattle.std.specs.Ordering.{is_eq}
use Rattle.std.specs.List.{flat_map}
use Rattle.std.proofs.lemmas.List.{map-append, append-nil}
use Rattle.std.proofs.lemmas.List.Elements.{filter-append}
use Rattle.std.proofs.lemmas.Bool.{cases_Bool, both_ways, eqb-true, not_from_true, not_from_false, cond-true, cond-false}
use Rattle.order.specs.Total.{TotalOrder}
use Rattle.order.specs.Listed.{In}
use Rattle.order.proofs.Members.{kept_all, kept_none}
use Rattle.runs.specs.Passages.{Scheme}
use Rattle.model.specs.declared.fingerprint.Fingerprint.{Fingerprint}
use Rattle.model.specs.Files.{File, Files, known, tokens_of, without, Distinct}
use Rattle.model.specs.Prints.{file_prints, all_prints, index_of}
use Rattle.model.specs.Passages.{paired, pairs_of}
use Rattle.model.specs.Indexes.{foreign, partners, index_pairs}
use Rattle.indexing.proofs.Index.{print_file, prints_known}
use Rattle.indexing.proofs.Reorders.{Reordered, reordered_kept, reordered_if, reordered_map, reordered_joined, reordered_exchange}
use Rattle.indexing.proofs.Counts.{index_reordered}

-- ---- lists

module _ {X : Type 0} (p : X → Bool) where
  kept_joined : {Y : Type 0} (f : Y → List X) (ys : List Y) → filter p (flat_map f ys) ≡ flat_map (λ y. filter p (f y)) ys
  kept_joined f [] = refl
  kept_joined f (y ∷ ys) = filter-append p (f y) (flat_map f ys) ∙ ap (λ l. filter p (f y) ++ l) (kept_joined f ys)

  if_joined : {Y : Type 0} (f : X → List Y) (b : Bool) (x : X) (us : List X) → cond b (f x) [] ++ flat_map f us ≡ flat_map f (cond b (x ∷ us) us)
  if_joined f true x us = refl
  if_joined f false x us = refl

  joined_if : {Y : Type 0} (f : X → List Y) (xs : List X) → flat_map (λ x. cond (p x) (f x) []) xs ≡ flat_map f (filter p xs)
  joined_if f [] = refl
  joined_if f (x ∷ xs) = ap (λ l. cond (p x) (f x) [] ++ l) (joined_if f xs) ∙ if_joined f (p x) x (filter p xs)

map_joined : {X Y Z : Type 0} (g : X → Z) (f : Y → List X) (ys : List Y) → map g (flat_map f ys) ≡ flat_map (λ y. map g (f y)) ys
map_joined g f [] = refl
map_joined g f (y ∷ ys) = map-append g (f y) (flat_map f ys) ∙ ap (λ l. map g (f y) ++ l) (map_joined g f ys)

-- ---- pairs of an index

module _ {V : Type 0} (cmp : V → V → Ordering) where
  paired_joined : {Y : Type 0} (a : Fingerprint V) (f : Y → List (Fingerprint V)) (ys : List Y) → paired cmp a (flat_map f ys) ≡ flat_map (λ y. paired cmp a (f y)) ys
  paired_joined a f ys =
      ap (map (λ b. (a, b))) (kept_joined (λ b. is_eq (cmp b.value a.value)) f ys)
      ∙ map_joined (λ b. (a, b)) (λ y. filter (λ b. is_eq (cmp b.value a.value)) (f y)) ys

  paired_reordered : (a : Fingerprint V) (xs ys : List (Fingerprint V)) → Reordered xs ys → Reordered (paired cmp a xs) (paired cmp a ys)
  paired_reordered a xs ys r =
      reordered_map (λ b. (a, b)) (filter (λ b. is_eq (cmp b.value a.value)) xs) (filter (λ b. is_eq (cmp b.value a.value)) ys)
      (reordered_kept (λ b. is_eq (cmp b.value a.value)) xs ys r)

  -- the order of the index does not matter
  index_pairs_reordered : (n : ℕ) (xs ys : List (Fingerprint V)) → Reordered xs ys → Reordered (index_pairs cmp n xs) (index_pairs cmp n ys)
  index_pairs_reordered n xs ys r =
      reordered_joined (partners cmp n xs) (partners cmp n ys) xs ys r
      (λ a. reordered_if (eqb a.file n) (paired cmp a (foreign cmp n xs)) (paired cmp a (foreign cmp n ys))
      (paired_reordered a (foreign cmp n xs) (foreign cmp n ys) (reordered_kept (λ b. not (eqb b.file n)) xs ys r)))

-- ---- pairs of the held files

module _ {V : Type 0} (S : Scheme V) (n : ℕ) where
  -- whether a fingerprint is of file n
  abbrev own : Fingerprint V → Bool
  own a = eqb a.file n

  of_file : (f : File) (b : Bool) → eqb f.0 n ≡ b → (e : Fingerprint V) → In e (file_prints S f) → own e ≡ b
  of_file f b q e m = ap (λ i. eqb i n) (print_file S f e m) ∙ q

  -- those of other files are those of the files without it
  foreign_prints : (fs : Files) → foreign S.cmp n (all_prints S fs) ≡ all_prints S (without n fs)
  foreign_prints [] = refl
  foreign_prints (f ∷ fs) =
      let rest = foreign_prints fs in
      let parts = filter-append (λ b. not (own b)) (file_prints S f) (all_prints S fs) in
      ⊎_elim
      (λ (q : eqb f.0 n ≡ true).
      parts
      ∙ ap₂ ◌++◌ (kept_none (λ b. not (own b)) (file_prints S f) (λ e m. not_from_true (own e) (of_file f true q e m))) rest
      ∙ ap (λ b. flat_map (file_prints S) (cond (not b) (f ∷ without n fs) (without n fs))) (sym q))
      (λ (q : eqb f.0 n ≡ false).
      parts
      ∙ ap₂ ◌++◌ (kept_all (λ b. not (own b)) (file_prints S f) (λ e m. not_from_false (own e) (of_file f false q e m))) rest
      ∙ ap (λ b. flat_map (file_prints S) (cond (not b) (f ∷ without n fs) (without n fs))) (sym q))
      (cases_Bool (eqb f.0 n))

  own_none : (fs : Files) → known n fs ≡ false → filter own (all_prints S fs) ≡ []
  own_none fs k =
      kept_none own (all_prints S fs)
      (λ e m.
      ⊎_elim (λ (q : own e ≡ true). absurd (both_ways (known n fs) k (subst (λ i. known i fs ≡ true) (eqb-true e.file n q) (prints_known S fs e m))))
      (λ (q : own e ≡ false). q) (cases_Bool (own e)))

  -- its own are those of its tokens
  own_prints : (fs : Files) → Distinct fs → known n fs ≡ true → filter own (all_prints S fs) ≡ file_prints S (n, tokens_of n fs)
  own_prints [] d k = absurd (both_ways false refl k)
  own_prints (f ∷ fs) d k =
      let parts = filter-append own (file_prints S f) (all_prints S fs) in
      ⊎_elim
      (λ (q : eqb f.0 n ≡ true).
      let is = eqb-true f.0 n q in
      parts
      ∙ ap₂ ◌++◌ (kept_all own (file_prints S f) (of_file f true q)) (own_none fs (subst (λ i. known i fs ≡ false) is d.0))
      ∙ append-nil (file_prints S f)
      ∙ ap₂ (λ i ts. file_prints S (i, ts)) is (sym (cond-true (eqb f.0 n) f.1 (tokens_of n fs) q)))
      (λ (q : eqb f.0 n ≡ false).
      parts
      ∙ ap₂ ◌++◌ (kept_none own (file_prints S f) (of_file f false q)) (own_prints fs d.1 (ap (λ b. b || known n fs) (sym q) ∙ k))
      ∙ ap (λ ts. file_prints S (n, ts)) (sym (cond-false (eqb f.0 n) f.1 (tokens_of n fs) q)))
      (cases_Bool (eqb f.0 n))

  all_pairs : (fs : Files) → Distinct fs → known n fs ≡ true → index_pairs S.cmp n (all_prints S fs) ≡ flat_map (λ a. paired S.cmp a (all_prints S (without n fs))) (file_prints S (n, tokens_of n fs))
  all_pairs fs d k =
      joined_if own (λ a. paired S.cmp a (foreign S.cmp n (all_prints S fs))) (all_prints S fs)
      ∙ ap₂ (λ bs as'. flat_map (λ a. paired S.cmp a bs) as') (foreign_prints fs) (own_prints fs d k)

  pub pairs_reordered : TotalOrder S.cmp → (fs : Files) → Distinct fs → known n fs ≡ true → Reordered (index_pairs S.cmp n (index_of S fs)) (pairs_of S fs n)
  pairs_reordered o fs d k g =
      let here = file_prints S (n, tokens_of n fs) in
      let others = without n fs in
      index_pairs_reordered S.cmp n (index_of S fs) (all_prints S fs) (index_reordered S o fs d) g
      ∙ ap (sum_by g) (all_pairs fs d k)
      ∙ reordered_joined (λ a. paired S.cmp a (all_prints S others)) (λ a. flat_map (λ f. paired S.cmp a (file_prints S f)) others) here here (λ _. refl) (λ a h. ap (sum_by h) (paired_joined S.cmp a (file_prints S) others)) g
      ∙ reordered_exchange (λ a f. paired S.cmp a (file_prints S f)) here others g
