use Rattle.std.proofs.Common.{◌%◌, ◌<◌, map, get_or, ap, ◌∙◌, arith}
use Rattle.std.specs.List.{range_with_len}
use Rattle.std.proofs.lemmas.List.FromFn.{get_or-map-range_with_len}
use Rattle.prints.specs.Hashes.{spread}
use Rattle.prints.proofs.table.spread_of.Goals as goal

-- the rule of the whole table, by one computation
pub returns : goal.returns
returns c =
    let at : c.args.code % 1024 < 1024 = omega arith in
    ap (λ i. get_or (map spread (range_with_len 0 1024)) i 0) c.from.ensures ∙ get_or-map-range_with_len spread 0 1024 (c.args.code % 1024) (c.args.code % 1024) 0 at (omega arith)
