-- The index has as many entries as the files have chosen places. Assumes nothing.
use Rattle.std.proofs.Common.{◌≡◌, ℕ, true, List, [], ◌∷◌, ◌++◌, map, length, sym, refl, ap, subst, inl, inr, ⊎_elim, arith}
use Rattle.std.proofs.lemmas.Bool.{both_ways}
use Rattle.order.specs.Total.{TotalOrder}
use Rattle.order.specs.Listed.{In, Rising}
use Rattle.order.specs.Compared.{not_itself}
use Rattle.order.specs.Orders.{numbers}
use Rattle.order.proofs.Members.{in_map, map_in}
use Rattle.order.proofs.Joins.{append_in}
use Rattle.prints.proofs.Winnowed.{winnowed_exact}
use Rattle.runs.specs.Passages.{Scheme, codes, width, print_list}
use Rattle.model.specs.Files.{File, Files, known, Distinct}
use Rattle.model.specs.Prints.{filed, file_prints, all_prints, print_count, index_of}
use Rattle.model.specs.Totals.{fields_total}
use Rattle.indexing.proofs.Index.{print_file, prints_known}
use Rattle.indexing.proofs.Reorders.{Reordered, Once, reordered_length, gathered_reordered}
use Rattle.std.specs.Ordering.{nat_cmp}

once_append : {X : Type 0} (xs ys : List X) → Once xs → Once ys → ((x : X) → In x xs → In x ys → ⊥) → Once (xs ++ ys)
once_append [] ys a b apart = b
once_append (x ∷ xs) ys a b apart =
    (λ m. ⊎_elim (λ (k : In x xs). a.0 k) (λ (k : In x ys). apart x (inl refl) k) (append_in xs ys x m), once_append xs ys a.1 b (λ y m k. apart y (inr m) k))

-- a key that rises tells the elements apart
once_map : {X Y : Type 0} (g : X → Y) (key : X → ℕ) → ((x y : X) → g x ≡ g y → key x ≡ key y) → (xs : List X) → Rising nat_cmp (map key xs) → Once (map g xs)
once_map g key apart [] c = tt
once_map g key apart (x ∷ xs) c =
    (λ m. let h = map_in g xs (g x) m in not_itself numbers (key x) (key h.0) (apart x h.0 (sym h.2)) (c.0 (key h.0) (in_map key xs h.0 h.1)), once_map g key apart xs c.1)

module _ {V : Type 0} (S : Scheme V) (o : TotalOrder S.cmp) where
  -- the chosen places of a file rise
  pub places_rise : (f : File) → Rising nat_cmp (map (λ m. m.place) (print_list S f.1))
  places_rise f = (winnowed_exact S.hash o S.k (width S) (omega arith) (codes f.1)).rises

  pub file_once : (f : File) → Once (file_prints S f)
  file_once f = once_map (filed f.0) (λ m. m.place) (λ x y e. ap (λ p. p.place) e) (print_list S f.1) (places_rise f)

  pub all_once : (fs : Files) → Distinct fs → Once (all_prints S fs)
  all_once [] d = tt
  all_once (f ∷ fs) d =
      once_append (file_prints S f) (all_prints S fs) (file_once f) (all_once fs d.1)
      (λ e m k. both_ways (known f.0 fs) d.0 (subst (λ n. known n fs ≡ true) (print_file S f e m) (prints_known S fs e k)))

  -- the index is a reordering of all fingerprints
  pub index_reordered : (fs : Files) → Distinct fs → Reordered (index_of S fs) (all_prints S fs)
  index_reordered fs d = gathered_reordered (fields_total o) (all_prints S fs) (all_once fs d)

  pub index_count : (fs : Files) → Distinct fs → length (index_of S fs) ≡ print_count S fs
  index_count fs d = reordered_length (index_of S fs) (all_prints S fs) (index_reordered fs d)
