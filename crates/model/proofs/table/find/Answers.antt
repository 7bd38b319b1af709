use Rattle.std.proofs.Common.{◌≡◌, ℕ, ◌+◌, ◌<◌, ◌≤◌, get_or, sym, ap, ◌∙◌, ⊎_elim, arith}
use Rattle.std.proofs.lemmas.Bool.{cases_lt}
use Rattle.model.specs.Tables.{no_entry}
use Rattle.model.proofs.Tabled.{extent_more, extent_take}
use Rattle.model.proofs.table.find.Goals as goal

pub overflow_add-start : goal.overflow_add-start
overflow_add-start c =
    let all = c.args.table.now in
    let m = extent_more all c.loop-slot.slot (omega arith) in
    let l = extent_take all (c.loop-slot.slot + 1) in
    let e = c.loop-slot.invariant.0 in
    let p = c.requires in
    omega (arith, m, l, e, p)

pub loop-slot-preserved : goal.loop-slot-preserved
loop-slot-preserved c =
    let all = c.args.table.now in
    let m = extent_more all c.loop-slot.slot (omega arith) in
    let e = c.loop-slot.invariant.0 in (
      omega (arith, m, e),
      λ i l q.
          ⊎_elim (λ (k : i < c.loop-slot.slot). c.loop-slot.invariant.1 i k q)
          (λ (k : c.loop-slot.slot ≤ i).
          let s : i ≡ c.loop-slot.slot = omega arith in
          c.if-entry-number.false (sym (ap (λ (x : ℕ). (get_or all x no_entry).number) s) ∙ q))
          (cases_lt i c.loop-slot.slot),
    )
