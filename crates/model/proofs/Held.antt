-- The held files by their numbers.
use Rattle.std.proofs.Common.{◌≡◌, ℕ, Bool, true, false, not, eqb, List, [], ◌∷◌, ◌++◌, filter, sym, refl, ap, ◌∙◌, subst, inl, inr, ⊎_elim}
use Rattle.std.proofs.lemmas.Bool.{cases_Bool, both_ways, eqb-true, eqb-false, eq-eqb, ne_eqb, or_parts, or_left, or_right, cond-true, cond-false, cond_both, not_from_true, not_from_false, true≢false}
use Rattle.order.specs.Listed.{In}
use Rattle.order.proofs.Members.{in_kept, kept_in, kept_passes, kept_all}
use Rattle.order.proofs.Joins.{push_in}
use Rattle.tokens.specs.declared.token.Token.{Token}
use Rattle.model.specs.Files.{File, Files, known, tokens_of, without, Distinct}

-- ---- a number and its file

pub in_known : (fs : Files) (n : ℕ) (ts : List Token) → In (n, ts) fs → known n fs ≡ true
in_known [] n ts m = absurd m
in_known (f ∷ fs) n ts (inl e) = or_left (eqb f.0 n) (known n fs) (eq-eqb f.0 n (ap (λ (g : File). g.0) e))
in_known (f ∷ fs) n ts (inr m) = or_right (eqb f.0 n) (known n fs) (in_known fs n ts m)

pub unknown_in : (fs : Files) (n : ℕ) (ts : List Token) → known n fs ≡ false → In (n, ts) fs → ⊥
unknown_in fs n ts e m = both_ways (known n fs) e (in_known fs n ts m)

pub known_in : (fs : Files) (n : ℕ) → known n fs ≡ true → In (n, tokens_of n fs) fs
known_in [] n e = absurd (true≢false (sym e))
known_in (f ∷ fs) n e =
    ⊎_elim
    (λ (y : eqb f.0 n ≡ true). rw y (inl (ap (λ (m : ℕ). (m, f.1)) (eqb-true f.0 n y))))
    (λ (y : eqb f.0 n ≡ false). let k : known n fs ≡ true = rw y at e in inr (subst (λ (ts : List Token). In (n, ts) fs) (sym (cond-false (eqb f.0 n) f.1 (tokens_of n fs) y)) (known_in fs n k)))
    (cases_Bool (eqb f.0 n))

pub none_known : (fs : Files) (n : ℕ) → ((ts : List Token) → In (n, ts) fs → ⊥) → known n fs ≡ false
none_known fs n h = ⊎_elim (λ (e : known n fs ≡ true). absurd (h (tokens_of n fs) (known_in fs n e))) (λ (e : known n fs ≡ false). e) (cases_Bool (known n fs))

pub unknown_tokens : (fs : Files) (n : ℕ) → known n fs ≡ false → tokens_of n fs ≡ []
unknown_tokens [] n e = refl
unknown_tokens (f ∷ fs) n e =
    let h = or_parts (eqb f.0 n) (known n fs) e in
    cond-false (eqb f.0 n) f.1 (tokens_of n fs) h.0 ∙ unknown_tokens fs n h.1

-- no two files have one number
pub in_tokens : (fs : Files) (n : ℕ) (ts : List Token) → Distinct fs → In (n, ts) fs → tokens_of n fs ≡ ts
in_tokens [] n ts d m = absurd m
in_tokens (f ∷ fs) n ts d (inl e) =
    cond-true (eqb f.0 n) f.1 (tokens_of n fs) (eq-eqb f.0 n (ap (λ (g : File). g.0) e)) ∙ ap (λ (g : File). g.1) e
in_tokens (f ∷ fs) n ts d (inr m) =
    let other : f.0 ≡ n → ⊥ = λ e. unknown_in fs f.0 ts d.0 (subst (λ (v : ℕ). In (v, ts) fs) (sym e) m) in
    cond-false (eqb f.0 n) f.1 (tokens_of n fs) (ne_eqb f.0 n other) ∙ in_tokens fs n ts d.1 m

-- ---- files but one

module _ (n : ℕ) where
  pub without_in : (fs : Files) (g : File) → In g (without n fs) → In g fs
  without_in fs g m = kept_in (λ f. not (eqb f.0 n)) fs g m

  pub without_other : (fs : Files) (g : File) → In g (without n fs) → g.0 ≡ n → ⊥
  without_other fs g m e = both_ways (not (eqb g.0 n)) (not_from_true (eqb g.0 n) (eq-eqb g.0 n e)) (kept_passes (λ f. not (eqb f.0 n)) fs g m)

  pub in_without : (fs : Files) (g : File) → In g fs → (g.0 ≡ n → ⊥) → In g (without n fs)
  in_without fs g m ne = in_kept (λ f. not (eqb f.0 n)) fs g m (not_from_false (eqb g.0 n) (ne_eqb g.0 n ne))

  pub without_none : (fs : Files) → known n fs ≡ false → without n fs ≡ fs
  without_none fs e =
      kept_all (λ f. not (eqb f.0 n)) fs
      (λ g m. not_from_false (eqb g.0 n) (ne_eqb g.0 n (λ q. unknown_in fs n g.1 e (subst (λ (v : ℕ). In (v, g.1) fs) q m))))

pub distinct_kept : (test : File → Bool) (fs : Files) → Distinct fs → Distinct (filter test fs)
distinct_kept test [] d = tt
distinct_kept test (f ∷ fs) d =
    cond_both (test f) (f ∷ filter test fs) (filter test fs) Distinct
    (λ _. (none_known (filter test fs) f.0 (λ ts m. unknown_in fs f.0 ts d.0 (kept_in test fs (f.0, ts) m)), distinct_kept test fs d.1))
    (λ _. distinct_kept test fs d.1)

-- ---- one file more

pub distinct_push : (fs : Files) (n : ℕ) (ts : List Token) → Distinct fs → known n fs ≡ false → Distinct (fs ++ (n, ts) ∷ [])
distinct_push [] n ts d e = (refl, tt)
distinct_push (f ∷ fs) n ts d e =
    let h = or_parts (eqb f.0 n) (known n fs) e in (
      none_known (fs ++ (n, ts) ∷ []) f.0 (λ us m.
          ⊎_elim (unknown_in fs f.0 us d.0) (λ (q : (n, ts) ≡ (f.0, us)). eqb-false f.0 n h.0 (sym (ap (λ (g : File). g.0) q)))
          (push_in fs (n, ts) (f.0, us) m)),
      distinct_push fs n ts d.1 h.1,
    )
