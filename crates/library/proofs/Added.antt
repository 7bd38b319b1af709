-- What an Add answers and leaves.
use Rattle.std.proofs.Common.{◌≡◌, ℕ, ◌+◌, ◌-◌, ◌<◌, ◌≤◌, Bool, true, false, cond, eqb, ltb, leb, List, [], ◌∷◌, ◌++◌, map, length, take, drop, replicate, is_some, is_err, Some, None, Ok, Err, Option, Ordering, sym, refl, ap, ◌∙◌, subst, ap₂, ⊎_elim, append_assoc, arith, ltb-false, leb-false}
use borrow.Author.Tests.{both_ways}
use Rattle.std.proofs.lemmas.List.{length-take-le, take-append-drop, take_at, drop_at, drop-replicate, length-append, length-take, length-drop, length-map}
use Rattle.std.proofs.lemmas.Bool.{cases_Bool}
use Rattle.order.specs.Total.{TotalOrder}
use Rattle.tokens.specs.declared.token.Token.{Token}
use Rattle.tokens.specs.declared.token.Fault.{Fault}
use Rattle.prints.specs.declared.window.Placed.{Placed}
use Rattle.prints.specs.Walk.{winnowed}
use Rattle.runs.specs.Shares.{unused}
use Rattle.runs.specs.Passages.{Scheme, scheme, codes, width, print_list}
use Rattle.model.specs.declared.fingerprint.Fingerprint.{Fingerprint}
use Rattle.model.specs.declared.refusal.Reason.TheVariants.{NumberZero, NumberHeld, TooManyFiles, WorkShort, TokensFull, IndexFull}
use Rattle.model.specs.declared.refusal.Refusal.{Refusal}
use Rattle.model.specs.declared.table.Entry.{Entry}
use Rattle.model.specs.Files.{Files, known, held_tokens}
use Rattle.ordered.specs.Gathered.{AllIn}
use Rattle.model.specs.Prints.{by_fields, filed, print_count}
use Rattle.tokens.specs.declared.token.Cause.TheVariants.{TooLong, ZeroByte, OpenComment, LongName, Fifth, Sixth, Seventh, Eighth, Ninth}
use Rattle.model.specs.Refusals.{plain, handed_on, of_cause}
use Rattle.model.specs.Tables.{cut, extent}
use Rattle.model.specs.Calls.{Setting, add, added, add_refusal, ending_refusal, most_files}
use Rattle.model.proofs.Tabled.{held_cut}
use Rattle.filling.proofs.Surgery.{cut_added, extent_added}
use Rattle.indexing.proofs.Counts.{index_count}
use Rattle.indexing.proofs.Index.{index_added}
use Rattle.model.proofs.Held.{distinct_push}
use Rattle.library.specs.declared.filed.Taken.{Taken}
use Rattle.library.specs.Stores.{State, Bounds, Shape, Sound, Same, Kept, Step, files, setting, bounds_of, shape_from}
use Rattle.library.specs.Adding.{admit_refusal, taking_refusal, behind, early, TakenIn}
use Rattle.library.proofs.Stays.{stays, file_count}

-- ---- the refusals in order

by_bool : {G : Type 0} (b : Bool) → (b ≡ true → G) → (b ≡ false → G) → G
by_bool b f g = ⊎_elim f g (cases_Bool b)

module _ {V : Type 0} (st : Setting V) (fs : Files) (n : ℕ) (ts : List Token) (e : Option Fault) (work : ℕ) where
  abbrev later : Option Refusal
  later = taking_refusal (st.tokens - length (held_tokens fs)) (st.index - print_count st.scheme fs) ts e (length (print_list st.scheme ts))

  -- both parts together
  abbrev either : Option Refusal → Option Refusal
  either None = later
  either (Some r) = Some r

  pub in_two_parts : add_refusal st fs n ts e work ≡ either (admit_refusal fs n (width st.scheme) work)
  in_two_parts =
      by_bool (eqb n 0) (λ a. rw a refl) (λ a.
      by_bool (known n fs) (λ b. rw (a, b) refl) (λ b.
      by_bool (leb most_files (length fs)) (λ c. rw (a, b, c) refl) (λ c.
      by_bool (ltb work (width st.scheme)) (λ d. rw (a, b, c, d) refl) (λ d. rw (a, b, c, d) refl))))

by_option : {G : Type 0} (o : Option Refusal) → (o ≡ None → G) → ((x : Refusal) → o ≡ Some x → G) → G
by_option None f g = f refl
by_option (Some x) f g = g x refl

none≢some : {G : Type 0} (x : Refusal) (o : Option Refusal) → o ≡ None → o ≡ Some x → G
none≢some x o h k = absurd (let q : false ≡ true = ap is_some (sym h ∙ k) in both_ways false refl q)

module _ (fs : Files) (n w work : ℕ) (h : admit_refusal fs n w work ≡ None) where
  -- nothing that is asked before the source is read stood against it
  admission : (known n fs ≡ false) × (length fs < 64) × (w ≤ work)
  admission =
      by_bool (eqb n 0) (λ a. none≢some (plain NumberZero) _ (rw a at h) refl) (λ a.
      by_bool (known n fs) (λ b. none≢some (plain NumberHeld) _ (rw (a, b) at h) refl) (λ b.
      by_bool (leb most_files (length fs)) (λ c. none≢some (plain TooManyFiles) _ (rw (a, b, c) at h) refl) (λ c.
      by_bool (ltb work w) (λ d. none≢some (plain WorkShort) _ (rw (a, b, c, d) at h) refl) (λ d. (b, leb-false _ _ c, ltb-false _ _ d)))))

  pub new_number : known n fs ≡ false
  new_number = admission.0

  pub few_files : length fs < 64
  few_files = admission.1

  pub work_enough : w ≤ work
  work_enough = admission.2

-- a refusal that comes once the source is read is none of those before
late_not_early : (room places : ℕ) (ts : List Token) (e : Option Fault) (m : ℕ) (why : Refusal) → taking_refusal room places ts e m ≡ Some why → early (Err why) ≡ false
late_not_early room places ts e m why h =
    by_bool (ltb room (length ts)) (λ b. is (plain TokensFull) (rw b at h) refl) (λ b. by_ending e (rw b at h))
  where
    is : (x : Refusal) → Some x ≡ Some why → early (Err x) ≡ false → early (Err why) ≡ false
    is x q k = let y : x ≡ why = cc in subst (λ (z : Refusal). early (Err z) ≡ false) y k

    by_cause : (f : Fault) → early (Err (handed_on f)) ≡ false
    by_cause f = elim f.cause as (λ c. early (Err (record { reason = of_cause c; place = f.place; depth = f.depth })) ≡ false) [ TooLong ↦ refl | ZeroByte ↦ refl | OpenComment ↦ refl | LongName ↦ refl | Fifth ↦ refl | Sixth ↦ refl | Seventh ↦ refl | Eighth ↦ refl | Ninth ↦ refl ]

    by_room : (b : Bool) → cond b (Some (plain IndexFull)) None ≡ Some why → early (Err why) ≡ false
    by_room true q = is (plain IndexFull) q refl
    by_room false q = none≢some why None refl q

    by_ending : (e : Option Fault) → ending_refusal e (cond (ltb places m) (Some (plain IndexFull)) None) ≡ Some why → early (Err why) ≡ false
    by_ending None q = by_room (ltb places m) q
    by_ending (Some f) q = is (handed_on f) q (by_cause f)

-- ---- the store

-- a file that was taken in had room
pub took_few : {V : Type 0} (cmp : V → V → Ordering) (number : ℕ) (ts : List Token) (e : Option Fault) (ps : List (Placed V)) (used : ℕ) (tokens tokens' : List Token) (prints : ℕ) (index index' : List (Fingerprint V)) (x : Taken) → TakenIn cmp number ts e ps used tokens tokens' prints index index' (Ok x) → used + x.len ≤ length tokens
took_few cmp number ts e ps used tokens tokens' prints index index' x taken =
    by_option (taking_refusal (length tokens - used) (length index - prints) ts e (length ps))
    (λ k.
    let z : Ok x ≡ Ok (taken.grants k).0 = (taken.grants k).1 in
    let y : (taken.grants k).0 ≡ x = cc in
    let l : x.len ≡ length ts = ap (λ (v : Taken). v.len) (sym y) ∙ (taken.grants k).2 in
    let f = (taken.grants k).6 in
    omega arith)
    (λ w k. absurd (let z : false ≡ true = ap is_err (taken.refuses w k).0 in both_ways false refl z))

-- where nothing but the lists' contents changed
pub shape_like : {V : Type 0} (s t : State V) → Bounds s → t.table ≡ s.table → t.used ≡ s.used → t.prints ≡ s.prints → Kept s t → Bounds t
shape_like s t h tb u p k =
    record {
      full = rw (u, tb) h.full;
      within = rw (u, k.room) h.within;
      room = rw k.room h.room;
      places = rw k.places h.places;
      indexed = rw (p, k.places) h.indexed;
      low = rw k.gram h.low;
      high = rw k.gram h.high;
      least = rw (k.gram, k.run) h.least;
      most = rw k.run h.most;
    }

-- if the one holds 64 files at most, so does the other
pub few_shape_like : {V : Type 0} (s t : State V) → Shape s → t.table ≡ s.table → t.used ≡ s.used → t.prints ≡ s.prints → Kept s t → Shape t
few_shape_like s t h tb u p k = shape_from (rw tb h.few) (shape_like s t (bounds_of h) tb u p k)

module _ {V : Type 0} (value : List ℕ → V) (cmp : V → V → Ordering) (s : State V) (h : Bounds s) (n : ℕ) (ts : List Token) (e : Option Fault) (work : ℕ) where
  pub refused_early : (r : Refusal) → admit_refusal (files s) n (s.t - s.k + 1) work ≡ Some r → Step value cmp s s (add n ts e work) (added (Err r))
  refused_early r a =
      let why = in_two_parts (setting value cmp s) (files s) n ts e work in
      stays value cmp s (add n ts e work) (added (Err r)) (rw (why, a) refl) (λ _. rw (why, a) refl)

  tokens_held : length (held_tokens (files s)) ≡ s.used
  tokens_held = let f = h.full in let w = h.within in ap length (held_cut s.table s.tokens.now) ∙ length-take-le (extent s.table) s.tokens.now (omega arith) ∙ sym f

  abbrev chosen : List (Placed V)
  chosen = winnowed value cmp s.k (s.t - s.k + 1) (codes ts)

  abbrev late : Option Refusal
  late = taking_refusal (length s.tokens.now - s.used) (length s.index.now - s.prints) ts e (length chosen)

  module _ (o : TotalOrder cmp) (a : admit_refusal (files s) n (s.t - s.k + 1) work ≡ None) where
    module _ (q : Sound value cmp s) where
      prints_held : print_count (scheme value cmp s.k s.t) (files s) ≡ s.prints
      prints_held = sym (index_count (scheme value cmp s.k s.t) o (files s) q.distinct) ∙ ap length (sym q.index) ∙ length-take-le s.prints s.index.now h.indexed

      refusal_is : add_refusal (setting value cmp s) (files s) n ts e work ≡ late
      refusal_is =
          in_two_parts (setting value cmp s) (files s) n ts e work ∙ (rw a refl)
          ∙ ap₂ (λ (x y : ℕ). taking_refusal (length s.tokens.now - x) (length s.index.now - y) ts e (length chosen)) tokens_held prints_held

    -- ---- refused
    module _ (t : State V) (tokens' : List Token) (index' : List (Fingerprint V)) (why : Refusal) (kept : Kept s t)
        (taken : TakenIn cmp n ts e chosen s.used s.tokens.now tokens' s.prints s.index.now index' (Err why))
        (tokens : t.tokens.now ≡ take s.used tokens' ++ replicate (length tokens' - s.used) unused) (index : t.index.now ≡ index')
        (table : t.table ≡ s.table) (used : t.used ≡ s.used) (prints : t.prints ≡ s.prints) where
      late_is : late ≡ Some why
      late_is =
          by_option late
          (λ k. absurd (let z : true ≡ false = ap is_err (taken.grants k).1 in both_ways false refl (sym z)))
          (λ x k. let z : Err why ≡ Err x = (taken.refuses x k).0 in let y : why ≡ x = cc in k ∙ ap Some (sym y))

      pub not_early : early (Err why) ≡ false
      not_early = late_not_early (length s.tokens.now - s.used) (length s.index.now - s.prints) ts e (length chosen) why late_is

      all_same : Sound value cmp s → Same s t
      all_same q =
          let r = taken.room in
          record {
            tokens =
                tokens ∙ ap₂ ◌++◌ taken.front (ap (λ (x : ℕ). replicate (x - s.used) unused) r ∙ sym q.clear) ∙ take-append-drop s.used s.tokens.now;
            index = index ∙ (taken.refuses why late_is).1;
            table = table;
            used = used;
            prints = prints;
          }

      pub refused_late : Step value cmp s t (add n ts e work) (added (Err why))
      refused_late =
          record {
            told = λ q.
                let m = all_same q in
                let fs : files t ≡ files s = rw (m.table, m.tokens) refl in
                let r = refusal_is q ∙ late_is in
                record {
                  answers = rw r refl;
                  leaves = rw r fs;
                  sound =
                      record {
                        index = rw (m.prints, m.index, kept.gram, kept.run, fs) q.index;
                        distinct = rw fs q.distinct;
                        clear = rw (m.used, m.tokens) q.clear;
                      };
                  unchanged = λ _. m;
                };
            kept = kept;
          }

    -- ---- granted
    module _ (t : State V) (tokens' : List Token) (index' : List (Fingerprint V)) (x : Taken) (kept : Kept s t)
        (taken : TakenIn cmp n ts e chosen s.used s.tokens.now tokens' s.prints s.index.now index' (Ok x))
        (tokens : t.tokens.now ≡ tokens') (index : t.index.now ≡ index')
        (table : t.table ≡ s.table ++ record { number = n; len = x.len } ∷ [])
        (used : t.used ≡ s.used + x.len) (prints : t.prints ≡ x.prints) where
      late_none : late ≡ None
      late_none = by_option late (λ k. k) (λ y k. absurd (let z : false ≡ true = ap is_err (taken.refuses y k).0 in both_ways false refl z))

      got : (taken.grants late_none).0 ≡ x
      got = let z : Ok x ≡ Ok (taken.grants late_none).0 = (taken.grants late_none).1 in cc

      pub len_is : x.len ≡ length ts
      len_is = ap (λ (y : Taken). y.len) (sym got) ∙ (taken.grants late_none).2

      pub places_is : x.places ≡ length chosen
      places_is = ap (λ (y : Taken). y.places) (sym got) ∙ (taken.grants late_none).3

      pub fits : s.used + length ts ≤ length s.tokens.now
      fits = (taken.grants late_none).6

      abbrev entry : Entry
      entry = record { number = n; len = length ts }

      one_more : t.table ≡ s.table ++ entry ∷ []
      one_more = table ∙ ap (λ (y : ℕ). s.table ++ record { number = n; len = y } ∷ []) len_is

      tokens_are : t.tokens.now ≡ take s.used s.tokens.now ++ (ts ++ drop (length ts) (drop s.used s.tokens.now))
      tokens_are = tokens ∙ (taken.grants late_none).5

      files_more : files t ≡ files s ++ (n, ts) ∷ []
      files_more =
          let u = h.full in
          let w = h.within in
          let is : t.tokens.now ≡ take (extent s.table) s.tokens.now ++ (ts ++ drop (length ts) (drop s.used s.tokens.now)) = tokens_are ∙ ap (λ (y : ℕ). take y s.tokens.now ++ (ts ++ drop (length ts) (drop s.used s.tokens.now))) u in
          ap (λ (es : List Entry). cut es t.tokens.now) one_more
          ∙ cut_added s.table s.tokens.now t.tokens.now ts (drop (length ts) (drop s.used s.tokens.now)) n (omega arith) is

      pub shape_more : Shape t
      shape_more =
          let f = fits in
          let i = len_is in
          let u = h.full in
          let r = kept.room in
          let p = kept.places in
          let g = (taken.grants late_none).7 in
          let all = (taken.grants late_none).4.fewer in
          let same : (taken.grants late_none).0.prints ≡ x.prints = ap (λ (y : Taken). y.prints) got in
          let c = file_count s in
          let room = few_files (files s) n (s.t - s.k + 1) work a in
          let more : length t.table ≡ length s.table + 1 = ap length one_more ∙ length-append s.table (entry ∷ []) in
          record {
            few = omega arith;
            full = used ∙ ap₂ (λ (y z : ℕ). y + z) u i ∙ sym (extent_added s.table entry) ∙ ap extent (sym one_more);
            within = omega arith;
            room = rw r h.room;
            places = rw p h.places;
            indexed = omega arith;
            low = rw kept.gram h.low;
            high = rw kept.gram h.high;
            least = rw (kept.gram, kept.run) h.least;
            most = rw kept.run h.most;
          }

      sound_more : Sound value cmp s → Sound value cmp t
      sound_more q =
          let S : Scheme V = scheme value cmp s.k s.t in
          let within = h.within in
          let inside = h.indexed in
          let g = (taken.grants late_none).7 in
          let before : List (Fingerprint V) = behind s.index.now s.prints n chosen in
          let front_long : length (take s.prints s.index.now) ≡ s.prints = length-take-le s.prints s.index.now inside in
          let front : take s.prints before ≡ take s.prints s.index.now = take_at (take s.prints s.index.now) (map (filed n) chosen ++ drop (length chosen) (drop s.prints s.index.now)) s.prints front_long in
          let back : take (length chosen) (drop s.prints before) ≡ map (filed n) chosen =
          ap (take (length chosen)) (drop_at (take s.prints s.index.now) (map (filed n) chosen ++ drop (length chosen) (drop s.prints s.index.now)) s.prints front_long)
          ∙ take_at (map (filed n) chosen) (drop (length chosen) (drop s.prints s.index.now)) (length chosen) (length-map chosen (filed n)) in
          let long : length before ≡ length s.index.now = simp (length-append, length-take, length-map, length-drop) (omega arith) in
          let all : AllIn (by_fields cmp) before t.index.now s.prints (length chosen) t.prints =
          subst (λ (l : List (Fingerprint V)). AllIn (by_fields cmp) before l s.prints (length chosen) t.prints) (sym index)
          (subst (λ (y : ℕ). AllIn (by_fields cmp) before index' s.prints (length chosen) y) (ap (λ (y : Taken). y.prints) got ∙ sym prints) (taken.grants late_none).4) in
          let more = index_added S o (files s) (n, ts) before t.index.now s.prints (length chosen) t.prints all (front ∙ q.index) back (let l = long in omega arith) (kept.places ∙ sym long) in
          let r = kept.room in
          let f = fits in
          let m : length s.tokens.now - s.used - length ts ≡ length t.tokens.now - t.used = let u = used in let i = len_is in omega arith in
          let ud : t.used ≡ s.used + length ts = used ∙ ap (λ (y : ℕ). s.used + y) len_is in
          let tail : List Token = drop (length ts) (drop s.used s.tokens.now) in
          let head-long : length (take s.used s.tokens.now ++ ts) ≡ s.used + length ts = simp (length-append, length-take) (omega arith) in
          record {
            index = rw (kept.gram, kept.run, files_more) more.0;
            distinct = rw files_more (distinct_push (files s) n ts q.distinct (new_number (files s) n (s.t - s.k + 1) work a));
            clear =
                ap₂ drop ud (tokens_are ∙ sym (append_assoc (take s.used s.tokens.now) ts tail))
                ∙ drop_at (take s.used s.tokens.now ++ ts) tail (s.used + length ts) head-long
                ∙ ap (drop (length ts)) q.clear ∙ drop-replicate (length ts) (length s.tokens.now - s.used) unused ∙ ap (λ (y : ℕ). replicate y unused) m;
          }

      pub granted : Step value cmp s t (add n ts e work) (added (Ok (record { tokens = x.len; prints = x.places })))
      granted =
          record {
            told = λ q.
                let r = refusal_is q ∙ late_none in
                record {
                  answers = rw (r, len_is, places_is) refl;
                  leaves = rw r files_more;
                  sound = sound_more q;
                  unchanged = λ k. absurd (both_ways false refl k);
                };
            kept = kept;
          }
