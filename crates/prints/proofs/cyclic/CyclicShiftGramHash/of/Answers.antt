use Rattle.std.proofs.Common.{rules, ◌≡◌, ◌%◌, ap, ◌∙◌, arith}
use borrow.Author.Tests.{tests}
use lib.Bits.{bit_xor}
use Rattle.std.proofs.lemmas.Iterator.{YieldsList-from_slice}
use Rattle.std.proofs.lemmas.Iterator.Consumers.{fold_from_yields_List}
use Rattle.prints.specs.Grams.{Code}
use Rattle.prints.specs.Hashes.{rotated, spread, cyclic}
use Rattle.prints.proofs.Folds.{folds}
use Rattle.prints.proofs.Turns.{cyclic_push}
use Rattle.prints.proofs.cyclic.CyclicShiftGramHash.of.Goals as goal

pub returns : goal.returns
returns c gram =
    fold_from_yields_List _ (λ v c. bit_xor (rotated 1 v) (spread (c % 1024))) 0 _ c.fold.ensures.ran (YieldsList-from_slice c.args.codes.now cc) (λ v x r q k. search (rules, tests))
    ∙ folds Code cyclic (λ v c. bit_xor (rotated 1 v) (spread (c % 1024)))
    (λ cs c code. let high = code.1 in let small : c ≡ c % 1024 = omega arith in cyclic_push cs c ∙ ap (λ n. bit_xor (rotated 1 (cyclic cs)) (spread n)) small)
    c.args.codes.now gram.coded
