use Rattle.std.proofs.Common.{rules, ◌+◌, ◌*◌, ◌%◌, ◌∙◌}
use borrow.Author.Tests.{tests}
use Rattle.std.proofs.lemmas.Iterator.{YieldsList-from_slice}
use Rattle.std.proofs.lemmas.Iterator.Consumers.{fold_from_yields_List}
use Rattle.prints.specs.Grams.{Code}
use Rattle.prints.specs.Hashes.{prime, polynomial}
use Rattle.prints.proofs.Folds.{folds}
use Rattle.prints.proofs.Weights.{polynomial_push}
use Rattle.prints.proofs.polynomial.PolynomialGramHash.of.Goals as goal

pub returns : goal.returns
returns c gram =
    fold_from_yields_List _ (λ v c. (v * 1000 + c) % prime) 0 _ c.fold.ensures.ran (YieldsList-from_slice c.args.codes.now cc) (λ v x r q k. search (rules, tests))
    ∙ folds Code polynomial (λ v c. (v * 1000 + c) % prime) (λ cs c _. polynomial_push cs c) c.args.codes.now gram.coded
