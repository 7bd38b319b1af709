use Rattle.runs.specs.Passages.{scheme}
use Rattle.indexing.proofs.Index.{index_exactly}
use Rattle.indexing.proofs.Counts.{index_count}
use Rattle.indexing.proofs.index_lists.Goals as goal

pub returns : goal.returns
returns g c k t fs d =
    let o = g.met.H.Value.Order.total in
    (index_exactly (scheme _ _ k t) o fs, index_count (scheme _ _ k t) o fs d)
