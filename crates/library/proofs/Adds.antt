-- A file taken into a store.
use Rattle.std.proofs.Common.{◌≡◌, ℕ, ◌+◌, ◌-◌, ◌<◌, ◌≤◌, true, false, cond, eqb, ltb, leb, List, [], ◌++◌, map, length, take, drop, is_some, is_ok, is_err, Some, None, Ok, Err, Option, Result, Ordering, sym, refl, ap, ◌∙◌, subst, ⊎_elim, arith, ltb-false, le-ltb, lt-ltb, ne_eqb, le-leb, MatchOption}
use Rattle.std.proofs.lemmas.List.{take_at, drop_at, length-take-le, length-append, length-take, length-map, length-drop, take_all, drop_all, append-nil}
use borrow.Author.Tests.{both_ways, lt-leb}
use Rattle.std.proofs.lemmas.Bool.{cases_Bool}
use Rattle.tokens.specs.declared.token.Token.{Token}
use Rattle.ordered.specs.Gathered.{AllIn}
use Rattle.prints.specs.declared.window.Placed.{Placed}
use Rattle.model.specs.declared.fingerprint.Fingerprint.{Fingerprint}
use Rattle.model.specs.Prints.{by_fields, filed}
use Rattle.model.specs.declared.table.Entry.{Entry}
use Rattle.model.specs.declared.table.Spot.{Spot}
use Rattle.model.specs.declared.refusal.Reason.TheVariants.{NumberHeld, TooManyFiles, WorkShort, TokensFull, IndexFull}
use Rattle.model.specs.Files.{Files, known}
use Rattle.tokens.specs.declared.token.Fault.{Fault}
use Rattle.model.specs.declared.refusal.Refusal.{Refusal}
use Rattle.model.specs.Calls.{unless, ending_refusal}
use Rattle.model.specs.Refusals.{plain}
use Rattle.model.specs.Tables.{At, Absent, cut}
use Rattle.filling.specs.Filled.{Filled}
use Rattle.model.proofs.Tabled.{known_at, known_absent}
use Rattle.library.specs.declared.filed.Filed.{Filed}
use Rattle.library.specs.Adding.{admit_refusal, taking_refusal, behind, Indexed, TakenIn}

-- ---- what is asked before the source is read

pub known_found : (n : ℕ) (es : List Entry) (ts : List Token) (r : Option Spot) → MatchOption r (Absent n es) (At n es) → known n (cut es ts) ≡ is_some r
known_found n es ts None h = known_absent n es ts h
known_found n es ts (Some p) h = known_at n es ts p h

module _ (fs : Files) (n w work : ℕ) (some : n ≡ 0 → ⊥) where
  nonzero : eqb n 0 ≡ false
  nonzero = ne_eqb n 0 some

  pub number_held : known n fs ≡ true → admit_refusal fs n w work ≡ Some (plain NumberHeld)
  number_held k = rw (nonzero, k) refl

  module _ (new : known n fs ≡ false) where
    pub too_many : 64 ≤ length fs → admit_refusal fs n w work ≡ Some (plain TooManyFiles)
    too_many l = let b : leb 64 (length fs) ≡ true = le-leb _ _ l in rw (nonzero, new, b) refl

    module _ (few : length fs < 64) where
      pub work_short : work < w → admit_refusal fs n w work ≡ Some (plain WorkShort)
      work_short l = let b : leb 64 (length fs) ≡ false = lt-leb _ _ few in let c : ltb work w ≡ true = lt-ltb _ _ l in rw (nonzero, new, b, c) refl

      pub admitted : w ≤ work → admit_refusal fs n w work ≡ None
      admitted l = let b : leb 64 (length fs) ≡ false = lt-leb _ _ few in let c : ltb work w ≡ false = le-ltb _ _ l in rw (nonzero, new, b, c) refl

-- ---- the index

-- what is written into the rest of a list stands behind its front
part_written : {X : Type 0} (xs ys part : List X) (n m : ℕ) → part ≡ ys ++ drop m (take (length xs - n) (drop n xs)) → take n xs ++ (part ++ drop (length xs - n) (drop n xs)) ≡ take n xs ++ (ys ++ drop m (drop n xs))
part_written {X} xs ys part n m e =
    let l : length (drop n xs) ≡ length xs - n = length-drop n xs in
    let all : take (length xs - n) (drop n xs) ≡ drop n xs = take_all (length xs - n) (drop n xs) (omega arith) in
    let none : drop (length xs - n) (drop n xs) ≡ [] = drop_all (length xs - n) (drop n xs) (omega arith) in
    ap (λ (z : List X). take n xs ++ (part ++ z)) none ∙ ap (λ (z : List X). take n xs ++ z) (append-nil part ∙ e ∙ ap (λ (z : List X). ys ++ drop m z) all)

module _ {V : Type 0} (cmp : V → V → Ordering) (ps : List (Placed V)) (number n : ℕ) (before after part : List (Fingerprint V)) (places used : ℕ) where
  pub indexed : n ≤ length before → length ps ≤ length before - n → places ≡ length ps → length after ≡ length (take n before ++ (part ++ drop (length before - n) (drop n before))) →
      part ≡ map (filed number) ps ++ drop (length ps) (take (length before - n) (drop n before)) →
      AllIn (by_fields cmp) (take n before ++ (part ++ drop (length before - n) (drop n before))) after n places used →
      Indexed cmp ps number n before after (Ok (record { places = places; used = used }))
  indexed within fits count long part-is all =
      let b : ltb (length before - n) (length ps) ≡ false = le-ltb _ _ fits in
      let e = part_written before (map (filed number) ps) part n (length ps) part-is in
      record {
        refuses = λ q. absurd (both_ways _ b q);
        grants = λ _. (record { places = places; used = used }, refl, count, subst (λ (m : ℕ). AllIn (by_fields cmp) (behind before n number ps) after n m used) count (subst (λ (l : List (Fingerprint V)). AllIn (by_fields cmp) l after n places used) e all));
        long = long ∙ ap length e ∙ simp (length-append, length-take, length-map, length-drop) (omega arith);
      }

-- ---- what is asked once the source is read

pub unless_err : {X : Type 0} (o : Option Refusal) (x : X) (y : Refusal) → Err y ≡ unless o x → o ≡ Some y
unless_err None x y h = absurd (let k : true ≡ false = ap is_err h in both_ways false refl (sym k))
unless_err (Some r) x y h = let k : y ≡ r = cc in ap Some (sym k)

pub unless_ok : {X : Type 0} (o : Option Refusal) (x y : X) → Ok y ≡ unless o x → (o ≡ None) × (y ≡ x)
unless_ok None x y h = (refl, cc)
unless_ok (Some r) x y h = absurd (let k : false ≡ true = ap is_err h in both_ways false refl k)

-- why a source cannot be read into so many free tokens
abbrev pub reading_refusal : ℕ → List Token → Option Fault → Option Refusal
reading_refusal room ts e = cond (ltb room (length ts)) (Some (plain TokensFull)) (ending_refusal e None)

module _ (room places : ℕ) (ts : List Token) (e : Option Fault) (m : ℕ) where
  pub unread : (why : Refusal) → reading_refusal room ts e ≡ Some why → taking_refusal room places ts e m ≡ Some why
  unread why h =
      ⊎_elim (λ (b : ltb room (length ts) ≡ true). rw b (rw b at h)) (λ (b : ltb room (length ts) ≡ false). rw b (by_ending e (rw b at h))) (cases_Bool (ltb room (length ts)))
    where
      by_ending : (e : Option Fault) → ending_refusal e None ≡ Some why → ending_refusal e (cond (ltb places m) (Some (plain IndexFull)) None) ≡ Some why
      by_ending None h = absurd (let k : false ≡ true = ap is_some h in both_ways false refl k)
      by_ending (Some f) h = h

  pub was_read : reading_refusal room ts e ≡ None → taking_refusal room places ts e m ≡ cond (ltb places m) (Some (plain IndexFull)) None
  was_read h =
      ⊎_elim (λ (b : ltb room (length ts) ≡ true). absurd (let q : Some (plain TokensFull) ≡ None = rw b at h in let k : true ≡ false = ap is_some q in both_ways false refl (sym k)))
      (λ (b : ltb room (length ts) ≡ false). rw b (by_ending e (rw b at h))) (cases_Bool (ltb room (length ts)))
    where
      by_ending : (e : Option Fault) → ending_refusal e None ≡ None → ending_refusal e (cond (ltb places m) (Some (plain IndexFull)) None) ≡ cond (ltb places m) (Some (plain IndexFull)) None
      by_ending None h = refl
      by_ending (Some f) h = absurd (let k : true ≡ false = ap is_some h in both_ways false refl (sym k))

some_same : (x y : Refusal) (o : Option Refusal) → o ≡ Some x → o ≡ Some y → x ≡ y
some_same x y o h k = let q : Some x ≡ Some y = sym h ∙ k in cc

not_both : {G : Type 0} (x : Refusal) (o : Option Refusal) → o ≡ Some x → o ≡ None → G
not_both x o h k = absurd (let q : true ≡ false = ap is_some (sym h ∙ k) in both_ways false refl (sym q))

-- a file that is read behind the first `used` tokens
module _ (ts : List Token) (e : Option Fault) (used : ℕ) (tokens free : List Token) (r : Result ℕ Refusal)
    (within : used ≤ length tokens) (filled : Filled (take (length tokens - used) (drop used tokens)) free ts e r) where
  abbrev after_reading : List Token
  after_reading = take used tokens ++ (free ++ drop (length tokens - used) (drop used tokens))

  mid_long : length (take (length tokens - used) (drop used tokens)) ≡ length tokens - used
  mid_long = let d : length (drop used tokens) ≡ length tokens - used = length-drop used tokens in length-take-le (length tokens - used) (drop used tokens) (omega arith)

  answered : r ≡ unless (reading_refusal (length tokens - used) ts e) (length ts)
  answered = filled.answers ∙ ap (λ (n : ℕ). unless (reading_refusal n ts e) (length ts)) mid_long

  new_front : take used after_reading ≡ take used tokens
  new_front = take_at (take used tokens) (free ++ drop (length tokens - used) (drop used tokens)) used (length-take-le used tokens within)

  new_room : length after_reading ≡ length tokens
  new_room = let l = filled.long in let m = mid_long in simp (length-append, length-take, length-drop) (omega arith)

  module _ {V : Type 0} (cmp : V → V → Ordering) (number : ℕ) (ps : List (Placed V)) where
    pub not_read : (why : Refusal) → r ≡ Err why → (prints : ℕ) (index : List (Fingerprint V)) → TakenIn cmp number ts e ps used tokens after_reading prints index index (Err why)
    not_read why q prints index =
        let h = unread (length tokens - used) (length index - prints) ts e (length ps) why (unless_err _ _ why (sym q ∙ answered)) in
        record {
          refuses = λ x k. (ap Err (some_same why x _ h k), refl);
          grants = λ k. not_both why _ h k;
          front = new_front;
          room = new_room;
          places = refl;
        }

  module _ (n : ℕ) (ok : r ≡ Ok n) where
    how : (reading_refusal (length tokens - used) ts e ≡ None) × (n ≡ length ts)
    how = unless_ok _ _ n (sym ok ∙ answered)

    granted : is_ok r ≡ true
    granted = ap is_ok ok

    pub read_few : used + length ts ≤ length tokens
    read_few = let a = filled.few granted in let b = mid_long in omega arith

    tokens_are : after_reading ≡ take used tokens ++ (ts ++ drop (length ts) (drop used tokens))
    tokens_are = part_written tokens ts free used (length ts) (filled.leaves granted)

    -- the tokens that were read, as they stand in the list
    pub slice_is : take (used + n - used) (drop used after_reading) ≡ ts
    slice_is =
        let m : used + n - used ≡ length ts = let b = how.1 in omega arith in
        ap (λ (x : ℕ). take x (drop used after_reading)) m ∙ ap (λ (x : List Token). take (length ts) (drop used x)) tokens_are
        ∙ ap (take (length ts)) (drop_at (take used tokens) (ts ++ drop (length ts) (drop used tokens)) used (length-take-le used tokens within))
        ∙ take_at ts (drop (length ts) (drop used tokens)) (length ts) refl

    module _ {V : Type 0} (cmp : V → V → Ordering) (number : ℕ) (ps : List (Placed V)) (prints : ℕ) (index index' : List (Fingerprint V)) (r' : Result Filed Refusal) (i : Indexed cmp ps number prints index index' r') where
      then : taking_refusal (length tokens - used) (length index - prints) ts e (length ps) ≡ cond (ltb (length index - prints) (length ps)) (Some (plain IndexFull)) None
      then = was_read (length tokens - used) (length index - prints) ts e (length ps) how.0

      pub not_indexed : (why : Refusal) → r' ≡ Err why → TakenIn cmp number ts e ps used tokens after_reading prints index index' (Err why)
      not_indexed why q =
          ⊎_elim
          (λ (b : ltb (length index - prints) (length ps) ≡ true).
          let h : taking_refusal (length tokens - used) (length index - prints) ts e (length ps) ≡ Some (plain IndexFull) = then ∙ (rw b refl) in
          let y : why ≡ plain IndexFull = let z : Err why ≡ Err (plain IndexFull) = sym q ∙ (i.refuses b).0 in cc in
          record {
            refuses = λ x k. (ap Err (y ∙ some_same (plain IndexFull) x _ h k), (i.refuses b).1);
            grants = λ k. not_both (plain IndexFull) _ h k;
            front = new_front;
            room = new_room;
            places = i.long;
          })
          (λ (b : ltb (length index - prints) (length ps) ≡ false). absurd (let z : true ≡ false = ap is_err (sym q ∙ (i.grants b).1) in both_ways false refl (sym z)))
          (cases_Bool (ltb (length index - prints) (length ps)))

      pub all_taken : prints ≤ length index → (x : Filed) → r' ≡ Ok x → TakenIn cmp number ts e ps used tokens after_reading prints index index' (Ok (record { len = n; places = x.places; prints = x.used }))
      all_taken inside x q =
          ⊎_elim
          (λ (b : ltb (length index - prints) (length ps) ≡ true). absurd (let z : false ≡ true = ap is_err (sym q ∙ (i.refuses b).0) in both_ways false refl z))
          (λ (b : ltb (length index - prints) (length ps) ≡ false).
          let h : taking_refusal (length tokens - used) (length index - prints) ts e (length ps) ≡ None = then ∙ (rw b refl) in
          let g = i.grants b in
          let s : g.0 ≡ x = let z : Ok g.0 ≡ Ok x = sym g.1 ∙ q in cc in
          let l = ltb-false _ _ b in
          record {
            refuses = λ y k. not_both y _ k h;
            grants = λ _. (
              record { len = n; places = x.places; prints = x.used },
              refl,
              how.1,
              sym (ap (λ (z : Filed). z.places) s) ∙ g.2,
              subst (λ (z : Filed). AllIn (by_fields cmp) (behind index prints number ps) index' prints (length ps) z.used) s g.3,
              tokens_are,
              read_few,
              omega arith,
            );
            front = new_front;
            room = new_room;
            places = i.long;
          })
          (cases_Bool (ltb (length index - prints) (length ps)))
