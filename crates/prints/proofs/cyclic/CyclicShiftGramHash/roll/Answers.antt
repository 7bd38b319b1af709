use Rattle.std.proofs.Common.{◌≡◌, suc, ◌%◌, ◌∷◌, length, ap, ◌∙◌, ap₂, arith}
use lib.Bits.{bit_xor}
use Rattle.prints.specs.Hashes.{cyclic, spread, rotated}
use Rattle.prints.proofs.Turns.{cyclic_roll}
use Rattle.prints.proofs.cyclic.CyclicShiftGramHash.roll.Goals as goal

pub returns : goal.returns
returns c mid gram code size is =
    let top = gram.coded.0.1 in
    let end = code.1 in
    let out_small : c.args.out % 1024 ≡ c.args.out = omega arith in
    let next_small : c.args.next % 1024 ≡ c.args.next = omega arith in
    let held : c.rotated_by.result ≡ rotated 1 (cyclic (c.args.out ∷ mid)) = c.rotated_by.ensures ∙ ap (rotated 1) is in
    let gone : c.rotated_by-2.result ≡ rotated (suc (length mid)) (spread c.args.out) = c.rotated_by-2.ensures ∙ ap₂ rotated size (c.spread_of.ensures ∙ ap spread out_small) in
    let come : c.spread_of-2.result ≡ spread c.args.next = c.spread_of-2.ensures ∙ ap spread next_small in
    ap₂ bit_xor (ap₂ bit_xor held gone) come ∙ cyclic_roll c.args.out mid c.args.next
