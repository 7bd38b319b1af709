-- A library opened afresh grants the held files in any order, and reports the same. Assumes nothing.
use Rattle.std.proofs.Common.{◌≡◌, ℕ, ◌+◌, ◌≤◌, Bool, cond, eqb, List, [], ◌∷◌, ◌++◌, length, None, Ok, Option, sym, refl, ap, ◌∙◌, subst, ap₂, inl, append_assoc, append-nil, arith}
use Rattle.std.specs.List.{flat_map}
use Rattle.std.proofs.lemmas.List.{length-append}
use Rattle.std.proofs.lemmas.List.Sums.{sum_by-cons, sum_by-append}
use Rattle.std.proofs.lemmas.Bool.{eq-eqb}
use Rattle.order.specs.Total.{TotalOrder}
use Rattle.order.proofs.Joins.{in_right}
use Rattle.runs.specs.Passages.{Scheme, width, print_list}
use Rattle.model.specs.declared.answers.Added.{Added}
use Rattle.model.specs.declared.refusal.Refusal.{Refusal}
use Rattle.model.specs.Calls.{Asked, report, added, Setting, add_refusal, unless, granted, answer, held_after, outcomes}
use Rattle.model.specs.Files.{File, Files}
use Rattle.model.specs.Prints.{file_prints}
use Rattle.model.proofs.Held.{unknown_in}
use Rattle.model.proofs.Sums.{length_joined}
use Rattle.promises.specs.Holding.{Fits, adds, all_added, Fresh}
use Rattle.promises.proofs.Counting.{count_of, count_unknown, distinct_count}
use Rattle.promises.proofs.Fitting.{Free, free_granted, length_prints}
use Rattle.promises.proofs.Shuffling.{fits_shuffled, report_shuffled}

-- what a list holds with one more in the midst
module _ {A X : Type 0} (f : A → List X) where
  joined_amid : (as' bs : List A) (a : A) → length (flat_map f (as' ++ a ∷ bs)) ≡ length (flat_map f as') + (length (f a) + length (flat_map f bs))
  joined_amid as' bs a =
      let h = sum_by-append (λ b. length (f b)) as' (a ∷ bs) in
      let t = length-append (f a) (flat_map f bs) in
      length_joined f (as' ++ a ∷ bs) ∙ h ∙ ap₂ ◌+◌ (sym (length_joined f as')) (sym (length_joined f (a ∷ bs)) ∙ t)

module _ {V : Type 0} (st : Setting V) (work : File → ℕ) (long : (f : File) → width st.scheme ≤ work f) where
  abbrev S : Scheme V
  S = st.scheme

  -- files that fit together are each granted
  one_free : (ds : Files) (f : File) (gs : Files) → Fits st (ds ++ f ∷ gs) → Free st ds f.0 f.1 (work f)
  one_free ds f gs h =
      let a = length-append ds (f ∷ gs) in
      let b = joined_amid (λ (g : File). g.1) ds gs f in
      let c = joined_amid (file_prints S) ds gs f in
      let e = length_prints S f in
      let files = h.files in
      let tokens = h.tokens in
      let prints = h.prints in
      let once = distinct_count (ds ++ f ∷ gs) h.distinct f.0 in
      let sum = sum_by-append (λ (g : File). cond (eqb g.0 f.0) 1 0) ds (f ∷ gs) in
      let itself : count_of f.0 (f ∷ gs) ≡ 1 + count_of f.0 gs =
      sum_by-cons (λ (g : File). cond (eqb g.0 f.0) 1 0) f gs ∙ ap (λ (t : Bool). cond t 1 0 + count_of f.0 gs) (eq-eqb f.0 f.0 refl) in
      record {
        number = λ z. unknown_in (ds ++ f ∷ gs) 0 f.1 h.no_zero (in_right ds (f ∷ gs) (0, f.1) (inl (ap (λ n. (n, f.1)) z)));
        new = count_unknown ds f.0 (omega arith);
        files = omega arith;
        window = long f;
        tokens = omega arith;
        prints = omega arith;
      }

  one_granted : (ds : Files) (f : File) (gs : Files) → Fits st (ds ++ f ∷ gs) → add_refusal st ds f.0 f.1 None (work f) ≡ None
  one_granted ds f gs h = free_granted st ds f.0 f.1 (work f) (one_free ds f gs h)

  fits_on : (ds : Files) (f : File) (gs : Files) → Fits st (ds ++ f ∷ gs) → Fits st ((ds ++ f ∷ []) ++ gs)
  fits_on ds f gs h = subst (Fits st) (sym (append_assoc ds (f ∷ []) gs)) h

  all_held : (ds gs : Files) → Fits st (ds ++ gs) → held_after st ds (adds work gs) ≡ ds ++ gs
  all_held ds [] h = sym (append-nil ds)
  all_held ds (f ∷ gs) h =
      ap (λ (r : Option Refusal). held_after st (granted r (ds ++ f ∷ []) ds) (adds work gs)) (one_granted ds f gs h)
      ∙ all_held (ds ++ f ∷ []) gs (fits_on ds f gs h)
      ∙ append_assoc ds (f ∷ []) gs

  all_told : (ds gs : Files) (c : Asked) → Fits st (ds ++ gs) → outcomes st ds (adds work gs ++ c ∷ []) ≡ all_added S gs ++ answer st (ds ++ gs) c ∷ []
  all_told ds [] c h = ap (λ hs. answer st hs c ∷ []) (sym (append-nil ds))
  all_told ds (f ∷ gs) c h =
      let counts : Added = record { tokens = length f.1; prints = length (print_list S f.1) } in
      ap (λ (r : Option Refusal). added (unless r counts) ∷ outcomes st (granted r (ds ++ f ∷ []) ds) (adds work gs ++ c ∷ [])) (one_granted ds f gs h)
      ∙ ap (λ l. added (Ok counts) ∷ l) (all_told (ds ++ f ∷ []) gs c (fits_on ds f gs h) ∙ ap (λ hs. all_added S gs ++ answer st hs c ∷ []) (append_assoc ds (f ∷ []) gs))

module _ {V : Type 0} (st : Setting V) (o : TotalOrder st.scheme.cmp) (low : 1 ≤ st.scheme.k) where
  pub fresh : (fs : Files) → Fits st fs → Fresh st fs
  fresh fs h gs work s long =
      let fits = fits_shuffled fs gs s st h in
      record {
        held = all_held st work long [] gs fits;
        same = λ n room. all_told st work long [] gs (report n room) fits ∙ ap (λ c. all_added st.scheme gs ++ c ∷ []) (report_shuffled st o low fs gs s h.distinct n room);
      }
