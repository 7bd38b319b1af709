use Rattle.std.proofs.Common.{◌+◌, ◌-◌, length, sym, refl, ◌∙◌, arith}
use borrow.Author.Tests.{both_ways}
use Rattle.std.proofs.lemmas.Result.{err_from_is_err_and}
use Rattle.library.specs.Stores.{files, Kept, bounds_of}
use Rattle.library.specs.States.{state, shape_of}
use Rattle.library.proofs.Stays.{file_count}
use Rattle.library.proofs.Adds.{unless_err, unless_ok}
use Rattle.library.proofs.Added.{refused_early, few_files, not_early, refused_late, shape_more, granted}
use Rattle.library.proofs.store.Store.add.Goals as goal

pub returns-in_err-admits : goal.returns-in_err-admits
returns-in_err-admits g c =
    let s = c.args.self.now in
    let p = err_from_is_err_and c.from_residual.result c.from_residual.ensures.1 in
    let a = unless_err _ _ c.in_err-admits.field-0.0 (sym c.in_err-admits.was ∙ rw c.winnowing-by.ensures.window at c.admits.ensures) in
    record {
      step = rw (p.1, p.2) (refused_early _ _ (state s) (bounds_of (shape_of s)) c.args.number _ _ (length c.args.work.now) c.in_err-admits.field-0.0 a);
      work = λ _. refl;
    }

pub push-requires : goal.push-requires
push-requires g c =
    let s = c.args.self.now in
    let a = (unless_ok _ _ _ (sym c.in_ok-admits.was ∙ rw c.winnowing-by.ensures.window at c.admits.ensures)).0 in
    let l = few_files (files (state s)) c.args.number (s.plan.t - s.plan.k + 1) (length c.args.work.now) a in
    let n = file_count (state s) in
    (omega arith, omega arith)

pub invariant_of-self-in-Ok : goal.invariant_of-self-in-Ok
invariant_of-self-in-Ok g c =
    let s = c.args.self.now in
    let a = (unless_ok _ _ _ (sym c.in_ok-admits.was ∙ rw c.winnowing-by.ensures.window at c.admits.ensures)).0 in
    let taken = rw (c.winnowing-by.ensures.gram, c.winnowing-by.ensures.window) at c.in-Ok.ensures in
    let kept : Kept (state s) (record { tokens = record { ref_ptr = s.tokens.ref_ptr; ghost_name = s.tokens.ghost_name; now = c.take_in.new.tokens }; used = s.used + c.in-Ok.file.len; table = c.push.new.self.items; index = record { ref_ptr = s.index.ref_ptr; ghost_name = s.index.ghost_name; now = c.take_in.new.index }; prints = c.in-Ok.file.prints; k = s.plan.k; t = s.plan.t }) = record { gram = refl; run = refl; room = taken.room; places = taken.places; tokens = refl; index = refl } in
    let h = shape_more _ _ (state s) (bounds_of (shape_of s)) c.args.number _ _ (length c.args.work.now) g.met.H.Value.Order.total a _ c.take_in.new.tokens c.take_in.new.index c.in-Ok.file kept taken refl refl c.push.ensures.items refl refl in
    record { few = h.few; full = h.full; within = h.within; room = h.room; places = h.places; indexed = h.indexed }

pub returns-in-Err-clause-step : goal.returns-in-Err-clause-step
returns-in-Err-clause-step g c =
    let s = c.args.self.now in
    let a = (unless_ok _ _ _ (sym c.in_ok-admits.was ∙ rw c.winnowing-by.ensures.window at c.admits.ensures)).0 in
    let taken = rw (c.winnowing-by.ensures.gram, c.winnowing-by.ensures.window) at c.in-Err.ensures in
    let kept : Kept (state s) _ = record { gram = refl; run = refl; room = c.wipe.auto.tokens ∙ taken.room; places = taken.places; tokens = refl; index = refl } in
    refused_late _ _ (state s) (bounds_of (shape_of s)) c.args.number _ _ (length c.args.work.now) g.met.H.Value.Order.total a _ c.take_in.new.tokens c.take_in.new.index c.in-Err.refusal kept taken c.wipe.ensures refl refl refl refl

pub returns-in-Err-clause-work : goal.returns-in-Err-clause-work
returns-in-Err-clause-work g c q =
    let s = c.args.self.now in
    let a = (unless_ok _ _ _ (sym c.in_ok-admits.was ∙ rw c.winnowing-by.ensures.window at c.admits.ensures)).0 in
    let taken = rw (c.winnowing-by.ensures.gram, c.winnowing-by.ensures.window) at c.in-Err.ensures in
    let kept : Kept (state s) (record { tokens = record { ref_ptr = s.tokens.ref_ptr; ghost_name = s.tokens.ghost_name; now = c.wipe.new.tokens }; used = s.used; table = s.table.items; index = record { ref_ptr = s.index.ref_ptr; ghost_name = s.index.ghost_name; now = c.take_in.new.index }; prints = s.prints; k = s.plan.k; t = s.plan.t }) = record { gram = refl; run = refl; room = c.wipe.auto.tokens ∙ taken.room; places = taken.places; tokens = refl; index = refl } in
    absurd (both_ways _ (not_early _ _ (state s) (bounds_of (shape_of s)) c.args.number _ _ (length c.args.work.now) g.met.H.Value.Order.total a _ c.take_in.new.tokens c.take_in.new.index c.in-Err.refusal kept taken c.wipe.ensures refl refl refl refl) q)

pub returns-in-Ok-clause-step : goal.returns-in-Ok-clause-step
returns-in-Ok-clause-step g c =
    let s = c.args.self.now in
    let a = (unless_ok _ _ _ (sym c.in_ok-admits.was ∙ rw c.winnowing-by.ensures.window at c.admits.ensures)).0 in
    let taken = rw (c.winnowing-by.ensures.gram, c.winnowing-by.ensures.window) at c.in-Ok.ensures in
    let kept : Kept (state s) _ = record { gram = refl; run = refl; room = taken.room; places = taken.places; tokens = refl; index = refl } in
    granted _ _ (state s) (bounds_of (shape_of s)) c.args.number _ _ (length c.args.work.now) g.met.H.Value.Order.total a _ c.take_in.new.tokens c.take_in.new.index c.in-Ok.file kept taken refl refl c.push.ensures.items refl refl
