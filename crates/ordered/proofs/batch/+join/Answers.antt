use Rattle.std.proofs.Common.{◌+◌, ◌-◌, ◌++◌, length, take, drop, ◌∙◌, arith}
use Rattle.std.proofs.lemmas.List.{take_rest}
use Rattle.ordered.proofs.Joining.{joined_grown, joined_merged, joined_parts, lent_rest}
use Rattle.ordered.proofs.batch.+join.Goals as goal

pub returns-then-b-eq1 : goal.returns-then-b-eq1
returns-then-b-eq1 g t c = joined_grown c.args.xs.now c.insert_next.new.xs c.args.a c.args.b c.args.at c.insert_next.result c.if-b-eq1.true c.requires.apart c.insert_next.ensures

pub returns-then-b-xs : goal.returns-then-b-xs
returns-then-b-xs g t c = joined_merged c.args.xs.now c.copy_part.new.xs c.merge.new.xs c.args.a c.args.b c.args.at c.merge.result c.requires.apart (omega arith) c.copy_part.ensures c.merge.ensures

pub returns : goal.returns
returns g t c =
    let n = c.halve-i.result.i + c.halve-i.result.j in
    let xs₂ = c.join-low.new.xs in
    joined_parts g.met.T.Order.total c.args.xs.now c.turn.new.xs xs₂ (take (length xs₂ - n) (drop n xs₂)) c.join-high.new.xs
    (take n xs₂ ++ (c.join-high.new.xs ++ drop (length xs₂ - n) (drop n xs₂))) c.copy_part-2.new.xs c.args.a c.args.b c.args.at c.halve-i.result.i c.halve-i.result.j c.join-low.result c.join-high.result
    c.requires.apart c.requires.within c.halve-i.ensures c.turn.ensures c.join-low.ensures (c.join-low.auto.xs ∙ c.turn.auto.xs) (take_rest xs₂ n) c.join-high.ensures c.join-high.auto.xs (lent_rest xs₂ c.join-high.new.xs n) c.copy_part-2.ensures
