-- The files that any list of calls leaves fit. Assumes nothing.
use Rattle.std.proofs.Common.{◌≡◌, ℕ, ◌+◌, ◌-◌, ◌<◌, ◌≤◌, Bool, true, false, cond, not, eqb, ltb, leb, List, [], ◌∷◌, ◌++◌, length, Some, None, filter, Option, sym, refl, ap, ◌∙◌, ⊎_elim, arith}
use Rattle.std.specs.List.{flat_map}
use Rattle.std.proofs.lemmas.List.{length-append, length-map, length_push}
use Rattle.std.proofs.lemmas.List.Sums.{sum_by_push}
use Rattle.std.proofs.lemmas.Bool.{eqb-false, ne_eqb, leb-false, lt-leb, ltb-false, le-ltb, cond_both, cond-false}
use Rattle.order.proofs.Members.{kept_in, kept_few}
use Rattle.order.proofs.Joins.{push_in}
use Rattle.tokens.specs.declared.token.Token.{Token}
use Rattle.tokens.specs.declared.token.Fault.{Fault}
use Rattle.runs.specs.Passages.{Scheme, width, print_list}
use Rattle.model.specs.declared.refusal.Reason.TheVariants.{NumberZero, NumberHeld, TooManyFiles, WorkShort, TokensFull, IndexFull}
use Rattle.model.specs.declared.refusal.Refusal.{Refusal}
use Rattle.model.specs.Calls.{Asked, add, remove, held, report, Setting, most_files, ending_refusal, add_refusal, granted, after, held_after}
use Rattle.model.specs.Files.{File, Files, known, held_tokens}
use Rattle.model.specs.Prints.{filed, file_prints, print_count}
use Rattle.model.specs.Refusals.{plain}
use Rattle.model.proofs.Held.{unknown_in, none_known, distinct_kept, distinct_push}
use Rattle.model.proofs.Sums.{length_joined}
use Rattle.promises.specs.Holding.{Fits}

-- ---- lengths of joined lists

module _ {A X : Type 0} (f : A → List X) where
  joined_kept_le : (test : A → Bool) (as' : List A) → length (flat_map f (filter test as')) ≤ length (flat_map f as')
  joined_kept_le test [] = omega arith
  joined_kept_le test (a ∷ as') =
      let rest = joined_kept_le test as' in
      let all = length-append (f a) (flat_map f as') in
      cond_both (test a) (a ∷ filter test as') (filter test as') (λ l. length (flat_map f l) ≤ length (flat_map f (a ∷ as')))
      (λ _. let some = length-append (f a) (flat_map f (filter test as')) in omega arith)
      (λ _. omega arith)

  length_joined_push : (as' : List A) (a : A) → length (flat_map f (as' ++ a ∷ [])) ≡ length (flat_map f as') + length (f a)
  length_joined_push as' a =
      length_joined f (as' ++ a ∷ []) ∙ sum_by_push (λ b. length (f b)) as' a ∙ ap (λ n. n + length (f a)) (sym (length_joined f as'))

pub length_prints : {V : Type 0} (S : Scheme V) (f : File) → length (file_prints S f) ≡ length (print_list S f.1)
length_prints S f = length-map (print_list S f.1) (filed f.0)

-- ---- when an Add is granted

pub record Free {V : Type 0} (st : Setting V) (fs : Files) (n : ℕ) (ts : List Token) (work : ℕ) : Type 0 where
  pub number : n ≡ 0 → ⊥
  pub new : known n fs ≡ false
  pub files : length fs < most_files
  pub window : width st.scheme ≤ work
  pub tokens : length ts ≤ st.tokens - length (held_tokens fs)
  pub prints : length (print_list st.scheme ts) ≤ st.index - print_count st.scheme fs

passed : (b : Bool) (r : Refusal) (x : Option Refusal) → cond b (Some r) x ≡ None → (b ≡ false) × (x ≡ None)
passed true r x e = let z : ◌≡◌ {A = ℕ} 0 1 = cc in absurd (omega arith)
passed false r x e = (refl, e)

ended : (e : Option Fault) (x : Option Refusal) → ending_refusal e x ≡ None → x ≡ None
ended None x h = h
ended (Some f) x h = let z : ◌≡◌ {A = ℕ} 0 1 = cc in absurd (omega arith)

module _ {V : Type 0} (st : Setting V) (fs : Files) (n : ℕ) (ts : List Token) (work : ℕ) where
  abbrev full : Bool
  full = ltb (st.index - print_count st.scheme fs) (length (print_list st.scheme ts))

  granted_free : (e : Option Fault) → add_refusal st fs n ts e work ≡ None → Free st fs n ts work
  granted_free e h =
      let a = passed (eqb n 0) (plain NumberZero) _ h in
      let b = passed (known n fs) (plain NumberHeld) _ a.1 in
      let c = passed (leb most_files (length fs)) (plain TooManyFiles) _ b.1 in
      let d = passed (ltb work (width st.scheme)) (plain WorkShort) _ c.1 in
      let f = passed (ltb (st.tokens - length (held_tokens fs)) (length ts)) (plain TokensFull) _ d.1 in
      let g = passed full (plain IndexFull) None (ended e _ f.1) in
      record {
        number = eqb-false n 0 a.0;
        new = b.0;
        files = leb-false most_files (length fs) c.0;
        window = ltb-false work (width st.scheme) d.0;
        tokens = ltb-false (st.tokens - length (held_tokens fs)) (length ts) f.0;
        prints = ltb-false (st.index - print_count st.scheme fs) (length (print_list st.scheme ts)) g.0;
      }

  pub free_granted : Free st fs n ts work → add_refusal st fs n ts None work ≡ None
  free_granted h =
      cond-false (eqb n 0) _ _ (ne_eqb n 0 h.number)
      ∙ cond-false (known n fs) _ _ h.new
      ∙ cond-false (leb most_files (length fs)) _ _ (lt-leb most_files (length fs) h.files)
      ∙ cond-false (ltb work (width st.scheme)) _ _ (le-ltb work (width st.scheme) h.window)
      ∙ cond-false (ltb (st.tokens - length (held_tokens fs)) (length ts)) _ _ (le-ltb (st.tokens - length (held_tokens fs)) (length ts) h.tokens)
      ∙ cond-false full _ _ (le-ltb (st.index - print_count st.scheme fs) (length (print_list st.scheme ts)) h.prints)

-- ---- what a call leaves

module _ {V : Type 0} (st : Setting V) where
  fits_none : Fits st []
  fits_none = record { distinct = tt; no_zero = refl; files = omega arith; tokens = omega arith; prints = omega arith }

  fits_push : (fs : Files) (n : ℕ) (ts : List Token) (work : ℕ) → Free st fs n ts work → Fits st fs → Fits st (fs ++ (n, ts) ∷ [])
  fits_push fs n ts work free h =
      let room = free.files in
      let a = length_push fs (n, ts) in
      let b = length_joined_push (λ (f : File). f.1) fs (n, ts) in
      let c = length_joined_push (file_prints st.scheme) fs (n, ts) in
      let d = length_prints st.scheme (n, ts) in
      let tokens = free.tokens in
      let prints = free.prints in
      let tokens-before = h.tokens in
      let prints-before = h.prints in
      record {
        distinct = distinct_push fs n ts h.distinct free.new;
        no_zero = none_known (fs ++ (n, ts) ∷ []) 0 (λ us m. ⊎_elim (unknown_in fs 0 us h.no_zero) (λ (e : (n, ts) ≡ (0, us)). free.number (ap (λ (f : File). f.0) e)) (push_in fs (n, ts) (0, us) m));
        files = omega arith;
        tokens = omega arith;
        prints = omega arith;
      }

  fits_kept : (test : File → Bool) (fs : Files) → Fits st fs → Fits st (filter test fs)
  fits_kept test fs h =
      let a = kept_few test fs in
      let b = joined_kept_le (λ (f : File). f.1) test fs in
      let c = joined_kept_le (file_prints st.scheme) test fs in
      let files = h.files in
      let tokens = h.tokens in
      let prints = h.prints in
      record {
        distinct = distinct_kept test fs h.distinct;
        no_zero = none_known (filter test fs) 0 (λ us m. unknown_in fs 0 us h.no_zero (kept_in test fs (0, us) m));
        files = omega arith;
        tokens = omega arith;
        prints = omega arith;
      }

  fits_granted : (r : Option Refusal) (fs gs : Files) → (r ≡ None → Fits st gs) → Fits st fs → Fits st (granted r gs fs)
  fits_granted None fs gs h k = h refl
  fits_granted (Some e) fs gs h k = k

  fits_one : (fs : Files) (c : Asked) → Fits st fs → Fits st (after st fs c)
  fits_one fs (add n ts e work) h = fits_granted (add_refusal st fs n ts e work) fs (fs ++ (n, ts) ∷ []) (λ g. fits_push fs n ts work (granted_free st fs n ts work e g) h) h
  fits_one fs (remove n) h = fits_kept (λ f. not (eqb f.0 n)) fs h
  fits_one fs (held room) h = h
  fits_one fs (report n room) h = h

  pub fits_from : (fs : Files) (cs : List Asked) → Fits st fs → Fits st (held_after st fs cs)
  fits_from fs [] h = h
  fits_from fs (c ∷ cs) h = fits_from (after st fs c) cs (fits_one fs c h)

  -- whatever the calls
  pub fits_after : (cs : List Asked) → Fits st (held_after st [] cs)
  fits_after cs = fits_from [] cs fits_none
