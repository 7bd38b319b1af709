use Rattle.std.proofs.Common.{◌≡◌, ◌≤◌, length, sym, refl, ◌∙◌, arith, MatchOption}
use Rattle.std.proofs.lemmas.Bool.{eqb-true, eqb-false}
use Rattle.model.specs.Tables.{At, Absent}
use Rattle.library.specs.Stores.{files}
use Rattle.library.specs.States.{state}
use Rattle.library.proofs.Stays.{file_count}
use Rattle.library.proofs.Adds.{known_found, number_held, too_many, work_short, admitted}
use Rattle.library.proofs.store.Store.admits.Goals as goal

pub returns-then-is_some : goal.returns-then-is_some
returns-then-is_some g c =
    let s = c.args.self.now in
    let f : MatchOption c.find.result (Absent c.args.number s.table.items) (At c.args.number s.table.items) = rw (sym c.as_slice.ensures.value) c.find.ensures in
    let k = known_found c.args.number s.table.items s.tokens.now c.find.result f ∙ sym c.is_some.ensures ∙ c.if-is_some.true in
    rw (c.plain-then-is_some.ensures, number_held (files (state s)) c.args.number c.args.w c.args.work c.if-number-eq0.false k) refl

pub returns-then-is_full : goal.returns-then-is_full
returns-then-is_full g c =
    let s = c.args.self.now in
    let f : MatchOption c.find.result (Absent c.args.number s.table.items) (At c.args.number s.table.items) = rw (sym c.as_slice.ensures.value) c.find.ensures in
    let k = known_found c.args.number s.table.items s.tokens.now c.find.result f ∙ sym c.is_some.ensures ∙ c.if-is_some.false in
    let n = file_count (state s) in
    let m : length s.table.items ≡ 64 = eqb-true _ _ (sym c.is_full.ensures.value ∙ c.if-is_full.true) in
    rw (c.plain-then-is_full.ensures, too_many (files (state s)) c.args.number c.args.w c.args.work c.if-number-eq0.false k (omega arith)) refl

pub returns-then-work-w : goal.returns-then-work-w
returns-then-work-w g c =
    let s = c.args.self.now in
    let f : MatchOption c.find.result (Absent c.args.number s.table.items) (At c.args.number s.table.items) = rw (sym c.as_slice.ensures.value) c.find.ensures in
    let k = known_found c.args.number s.table.items s.tokens.now c.find.result f ∙ sym c.is_some.ensures ∙ c.if-is_some.false in
    let n = file_count (state s) in
    let m = eqb-false (length s.table.items) 64 (sym c.is_full.ensures.value ∙ c.if-is_full.false) in
    let l : length s.table.items ≤ 64 = c.is_full.ensures.fits in
    rw (c.plain-then-work-w.ensures, work_short (files (state s)) c.args.number c.args.w c.args.work c.if-number-eq0.false k (omega arith) (omega arith)) refl

pub returns : goal.returns
returns g c =
    let s = c.args.self.now in
    let f : MatchOption c.find.result (Absent c.args.number s.table.items) (At c.args.number s.table.items) = rw (sym c.as_slice.ensures.value) c.find.ensures in
    let k = known_found c.args.number s.table.items s.tokens.now c.find.result f ∙ sym c.is_some.ensures ∙ c.if-is_some.false in
    let n = file_count (state s) in
    let m = eqb-false (length s.table.items) 64 (sym c.is_full.ensures.value ∙ c.if-is_full.false) in
    let l : length s.table.items ≤ 64 = c.is_full.ensures.fits in
    rw (admitted (files (state s)) c.args.number c.args.w c.args.work c.if-number-eq0.false k (omega arith) (omega arith)) refl
