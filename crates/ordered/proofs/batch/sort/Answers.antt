use Rattle.std.proofs.Common.{arith}
use Rattle.ordered.proofs.Sorting.{permuted}
use Rattle.ordered.proofs.batch.sort.Goals as goal

pub returns : goal.returns
returns g c =
    let few = c.dedup.ensures.fewer in
    let same = c.sort_unstable.ensures.len in
    record {
      fewer = omega arith;
      lists = permuted c.args.list.now c.sort_unstable.new.self _ c.sort_unstable.ensures.permutation (c.dedup.ensures.lists c.sort_unstable.ensures.sorted);
    }
