-- A file taken out of a store.
use Rattle.std.proofs.Common.{◌≡◌, ℕ, ◌+◌, ◌-◌, ◌≤◌, true, false, not, eqb, List, ◌++◌, length, get_or, take, drop, replicate, Ok, Err, Ordering, sym, refl, ap, ◌∙◌, append_assoc, arith}
use borrow.Author.Tests.{both_ways}
use Rattle.std.proofs.lemmas.List.{replicate-append-replicate, take_at, drop_at, take-take, drop-drop, length-append, length-take, length-take-le, length-drop}
use Rattle.tokens.specs.declared.token.Token.{Token}
use Rattle.runs.specs.Shares.{unused}
use Rattle.model.specs.declared.table.Entry.{Entry}
use Rattle.model.specs.declared.table.Spot.{Spot}
use Rattle.order.specs.Total.{TotalOrder}
use Rattle.runs.specs.Passages.{Scheme, scheme}
use Rattle.model.specs.declared.refusal.Reason.TheVariants.{RemoveUnheld}
use Rattle.model.specs.Refusals.{plain}
use Rattle.model.specs.Calls.{remove, removed}
use Rattle.model.specs.Files.{Distinct, without, known}
use Rattle.model.specs.Tables.{At, Absent, cut, extent, no_entry}
use Rattle.model.proofs.Held.{without_none, distinct_kept}
use Rattle.model.proofs.Tabled.{extent_within, known_at, known_absent}
use Rattle.filling.proofs.Surgery.{extent_removed, cut_removed, without_at}
use Rattle.indexing.proofs.Index.{index_less}
use Rattle.library.specs.Stores.{State, Bounds, Shape, Sound, Step, files, bounds_of, shape_from}
use Rattle.library.specs.Removal.{TakenOut}
use Rattle.library.proofs.Stays.{stays}

-- ---- the tokens

module _ (old one w : List Token) (at n u : ℕ) (fits : at + n ≤ u) (in_List : u ≤ length old)
    (moved : one ≡ take at old ++ take (u - (at + n)) (drop (at + n) old) ++ drop (u - n) old)
    (wiped : w ≡ take (u - n) (take u one) ++ replicate (length (take u one) - (u - n)) unused) where
  abbrev front : List Token
  front = take at old ++ take (u - (at + n)) (drop (at + n) old)

  front_long : length front ≡ u - n
  front_long = let d : length (drop (at + n) old) ≡ length old - (at + n) = length-drop (at + n) old in simp (length-append, length-take) (omega arith)

  long : length one ≡ length old
  long = ap length moved ∙ length-append front (drop (u - n) old) ∙ (let f = front_long in let d : length (drop (u - n) old) ≡ length old - (u - n) = length-drop (u - n) old in omega arith)

  pub closed : w ++ drop u one ≡ front ++ (replicate n unused ++ drop u old)
  closed =
      let a : take (u - n) (take u one) ≡ front = take-take (u - n) u one (omega arith) ∙ ap (take (u - n)) moved ∙ take_at front (drop (u - n) old) (u - n) front_long in
      let k : length (take u one) - (u - n) ≡ n = let l : length (take u one) ≡ u = length-take-le u one (let e = long in omega arith) in omega arith in
      let j : u - n + n ≡ u = omega arith in
      let b : drop u one ≡ drop u old =
      ap (λ (x : ℕ). drop x one) (sym j) ∙ sym (drop-drop n (u - n) one) ∙ ap (drop n) (ap (drop (u - n)) moved ∙ drop_at front (drop (u - n) old) (u - n) front_long)
      ∙ drop-drop n (u - n) old ∙ ap (λ (x : ℕ). drop x old) j in
      ap (λ (x : List Token). x ++ drop u one) (wiped ∙ ap (λ (x : List Token). x ++ replicate (length (take u one) - (u - n)) unused) a ∙ ap (λ (x : ℕ). front ++ replicate x unused) k)
      ∙ ap (λ (x : List Token). (front ++ replicate n unused) ++ x) b
      ∙ append_assoc front (replicate n unused) (drop u old)

-- ---- the file that goes

module _ {V : Type 0} (s : State V) (h : Bounds s) (n : ℕ) (p : Spot) (f : At n s.table p) where
  pub spot_within : p.start + p.len ≤ s.used
  spot_within =
      let a = extent_within s.table p.slot f.within in
      let b = f.starts in
      let c = f.long in
      let d = h.full in
      omega arith

  module _ {cmp : V → V → Ordering} (t : State V) (out : TakenOut cmp s t n p) where
    extent_less : extent t.table + p.len ≡ s.used
    extent_less = ap (λ (x : List Entry). extent x + p.len) out.table ∙ ap (λ (x : ℕ). extent (take p.slot s.table ++ drop (p.slot + 1) s.table) + x) f.long ∙ extent_removed s.table p.slot f.within ∙ sym h.full

    pub shape_less : Bounds t
    shape_less =
        let k = out.kept in
        let e = extent_less in
        let u = out.used in
        let kr = k.room in
        let kp = k.places in
        let w = h.within in
        let x = h.indexed in
        let i = out.index.fewer in
        record {
          full = omega arith;
          within = omega arith;
          room = rw kr h.room;
          places = rw kp h.places;
          indexed = omega arith;
          low = rw k.gram h.low;
          high = rw k.gram h.high;
          least = rw (k.gram, k.run) h.least;
          most = rw k.run h.most;
        }

    pub files_less : Distinct (files s) → files t ≡ without n (files s)
    files_less d =
        let w = h.within in
        let u = h.full in
        let start : s.used - (p.start + p.len) ≡ extent s.table - (extent (take p.slot s.table) + (get_or s.table p.slot no_entry).len) = let a = f.starts in let b = f.long in omega arith in
        let more : List Token = replicate p.len unused ++ drop s.used s.tokens.now in
        let is : t.tokens.now ≡ take (extent (take p.slot s.table)) s.tokens.now ++ take (extent s.table - (extent (take p.slot s.table) + (get_or s.table p.slot no_entry).len)) (drop (extent (take p.slot s.table) + (get_or s.table p.slot no_entry).len) s.tokens.now) ++ more =
        rw (sym start, sym f.starts, sym f.long) out.tokens in
        ap (λ (x : List Entry). cut x t.tokens.now) out.table
        ∙ cut_removed s.table p.slot f.within s.tokens.now t.tokens.now more (omega arith) is
        ∙ sym (without_at s.table s.tokens.now p.slot d f.within) ∙ ap (λ (x : ℕ). without x (files s)) f.is

-- where 64 files at most were held, no more are
pub few_shape_less : {V : Type 0} (s : State V) → Shape s → (n : ℕ) (p : Spot) → At n s.table p → {cmp : V → V → Ordering} (t : State V) → TakenOut cmp s t n p → Shape t
few_shape_less s h n p f t out =
    let few = h.few in
    let front = length-take p.slot s.table in
    let back = length-drop (p.slot + 1) s.table in
    let less : length t.table ≡ length (take p.slot s.table) + length (drop (p.slot + 1) s.table) = ap length out.table ∙ length-append (take p.slot s.table) (drop (p.slot + 1) s.table) in
    shape_from (omega arith) (shape_less s (bounds_of h) n p f t out)

module _ {V : Type 0} (value : List ℕ → V) {cmp : V → V → Ordering} (o : TotalOrder cmp) (s : State V) (h : Bounds s) (n : ℕ) (p : Spot) (f : At n s.table p) (t : State V) (out : TakenOut cmp s t n p) where
  sound_less : Sound value cmp s → Sound value cmp t
  sound_less q =
      let S : Scheme V = scheme value cmp s.k s.t in
      let k = out.kept in
      let fs = files_less s h n p f t out q.distinct in
      let i = index_less S o (files s) n s.index.now t.index.now s.prints t.prints out.index q.index h.indexed k.places in
      let l = spot_within s h n p f in
      let w = h.within in
      let front : List Token = take p.start s.tokens.now ++ take (s.used - (p.start + p.len)) (drop (p.start + p.len) s.tokens.now) in
      let d : length (drop (p.start + p.len) s.tokens.now) ≡ length s.tokens.now - (p.start + p.len) = length-drop (p.start + p.len) s.tokens.now in
      let long : length front ≡ s.used - p.len = simp (length-append, length-take) (omega arith) in
      let u = out.used in
      let r = k.room in
      let m : p.len + (length s.tokens.now - s.used) ≡ length t.tokens.now - t.used = omega arith in
      record {
        index = rw (k.gram, k.run, fs) i.0;
        distinct = rw fs (distinct_kept (λ g. not (eqb g.0 n)) (files s) q.distinct);
        clear =
            ap (λ (x : ℕ). drop x t.tokens.now) u ∙ ap (drop (s.used - p.len)) out.tokens
            ∙ drop_at front (replicate p.len unused ++ drop s.used s.tokens.now) (s.used - p.len) long
            ∙ ap (λ (x : List Token). replicate p.len unused ++ x) q.clear
            ∙ replicate-append-replicate p.len (length s.tokens.now - s.used) unused ∙ ap (λ (x : ℕ). replicate x unused) m;
      }

  pub removed_step : Step value cmp s t (remove n) (removed (Ok tt))
  removed_step =
      let there : known n (files s) ≡ true = known_at n s.table s.tokens.now p f in
      record {
        told = λ q.
            record {
              answers = rw there refl;
              leaves = files_less s h n p f t out q.distinct;
              sound = sound_less q;
              unchanged = λ e. absurd (both_ways false refl e);
            };
        kept = out.kept;
      }

pub unremoved_step : {V : Type 0} (value : List ℕ → V) (cmp : V → V → Ordering) (s : State V) (n : ℕ) → Absent n s.table → Step value cmp s s (remove n) (removed (Err (plain RemoveUnheld)))
unremoved_step value cmp s n a =
    let none : known n (files s) ≡ false = known_absent n s.table s.tokens.now a in
    stays value cmp s (remove n) (removed (Err (plain RemoveUnheld))) (without_none n (files s) none) (λ _. rw none refl)
