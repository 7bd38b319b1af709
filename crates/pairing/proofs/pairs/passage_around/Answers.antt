use Rattle.std.proofs.Common.{sym, ap}
use Rattle.model.specs.Passages.{passage, grown}
use Rattle.model.proofs.Grows.{grown_around}
use Rattle.pairing.proofs.pairs.passage_around.Goals as goal

pub returns : goal.returns
returns c =
    let xs = c.args.grams.xs.now in
    let ys = c.args.grams.ys.now in
    rw (c.span.ensures, c.span-2.ensures) (ap (passage c.args.other xs ys) (sym (c.grow-run.ensures.only (grown c.args.k xs ys c.args.grams.i c.args.grams.j) (grown_around c.args.k xs ys c.args.grams.i c.args.grams.j c.requires.some c.requires.same))))
