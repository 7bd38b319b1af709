use Rattle.std.proofs.Common.{◌≡◌, ◌+◌, ◌-◌, ◌++◌, take, replicate, vec_items, arith, ap, ap₂, ◌∙◌}
use Rattle.std.proofs.lemmas.List.{take_at, take_all}
use Rattle.columns.specs.Columns.{right}
use Rattle.columns.proofs.Steps.{cell_written}
use Rattle.columns.proofs.push_right.Goals as goal

pub returns : goal.returns
returns c =
    let w = c.write_digits in
    let old = vec_items c.args.out.now in
    let more = c.max-more.result in
    let end = c.len.result + more in
    let kept : take end c.reserve.new.self.items ≡ old = ap (take end) c.reserve.ensures.items ∙ take_all end old (omega arith) in
    let blank : c.as_mut_slice.result.now ≡ old ++ replicate more 32 = c.as_mut_slice.ensures.value ∙ c.in_ok-resize.ensures.items ∙ ap₂ ◌++◌ kept (ap (λ k. replicate k 32) {x = end - c.reserve.new.self.len} (omega arith)) in
    -- the last step says that the number written is the one given
    take_at w.new.buf _ _ (omega (arith, w.auto.buf)) ∙ cell_written old c.as_mut_slice.result.now w.new.buf _ c.args.width more w.result end blank (omega (arith, c.digit_count.ensures.count, c.max-more.ensures)) (omega arith) w.ensures.start w.ensures.before w.ensures.written ∙ ap (λ n. old ++ right c.args.width n) (omega arith)
