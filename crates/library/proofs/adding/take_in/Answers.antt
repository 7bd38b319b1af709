use Rattle.std.proofs.Common.{arith}
use Rattle.std.proofs.lemmas.Result.{err_from_is_err_and}
use Rattle.library.proofs.Adds.{not_read, slice_is, not_indexed, all_taken, read_few}
use Rattle.library.proofs.adding.take_in.Goals as goal

pub returns-in_err-len : goal.returns-in_err-len
returns-in_err-len g c =
    let p = err_from_is_err_and c.from_residual.result c.from_residual.ensures.1 in
    rw (p.1, p.2) (not_read _ _ c.args.used c.args.tokens.now c.fill.new.free c.fill.result c.requires.within.0 c.fill.ensures _ _ _ c.in_err-len.field-0.0 c.in_err-len.was c.args.prints c.args.index.now)

pub index_file-requires : goal.index_file-requires
index_file-requires g c =
    let e = slice_is _ _ c.args.used c.args.tokens.now c.fill.new.free c.fill.result c.requires.within.0 c.fill.ensures c.in_ok-len.len c.in_ok-len.was in
    let l = read_few _ _ c.args.used c.args.tokens.now c.fill.new.free c.fill.result c.requires.within.0 c.fill.ensures c.in_ok-len.len c.in_ok-len.was in
    let z = c.requires.size in
    record { room = c.requires.room; coded = rw e c.fill.ensures.coded; size = rw e (omega arith); within = c.requires.within.1 }

pub returns-in_err-filed : goal.returns-in_err-filed
returns-in_err-filed g c =
    let ts = g.S.Source.tokens c.args.source in
    let e = slice_is _ _ c.args.used c.args.tokens.now c.fill.new.free c.fill.result c.requires.within.0 c.fill.ensures c.in_ok-len.len c.in_ok-len.was in
    let i = rw e at c.index_file.ensures in
    let p = err_from_is_err_and c.from_residual-in_err-filed.result c.from_residual-in_err-filed.ensures.1 in
    rw (p.1, p.2) (not_indexed _ _ c.args.used c.args.tokens.now c.fill.new.free c.fill.result c.requires.within.0 c.fill.ensures c.in_ok-len.len c.in_ok-len.was _ _ _ c.args.prints c.args.index.now c.index_file.new.index c.index_file.result i c.in_err-filed.field-0.0 c.in_err-filed.was)

pub returns : goal.returns
returns g c =
    let e = slice_is _ _ c.args.used c.args.tokens.now c.fill.new.free c.fill.result c.requires.within.0 c.fill.ensures c.in_ok-len.len c.in_ok-len.was in
    let i = rw e at c.index_file.ensures in
    all_taken _ _ c.args.used c.args.tokens.now c.fill.new.free c.fill.result c.requires.within.0 c.fill.ensures c.in_ok-len.len c.in_ok-len.was _ _ _ c.args.prints c.args.index.now c.index_file.new.index c.index_file.result i c.requires.within.1 c.in_ok-filed.filed c.in_ok-filed.was
