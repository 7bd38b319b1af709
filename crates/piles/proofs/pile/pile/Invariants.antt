use Rattle.std.proofs.Common.{◌≡◌, drop}
use Rattle.piles.specs.Piles.{stream, piled}
use Rattle.piles.proofs.pile.pile.Given as goal

abbrev pub invariant-loop-layer : goal.invariant-loop-layer
invariant-loop-layer l = piled (drop l.layer-index l.layers) (stream l.all) ≡ piled l.layers (stream l.initial.all)
