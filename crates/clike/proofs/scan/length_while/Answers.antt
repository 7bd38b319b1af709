use Rattle.std.proofs.Common.{◌&&◌, ◌∙◌, rules, tests}
use Rattle.std.proofs.lemmas.Iterator.{YieldsList-from_slice}
use Rattle.std.proofs.lemmas.Iterator.Consumers.{count_from_yields_List}
use Rattle.std.proofs.lemmas.Iterator.Search.{YieldsList-from_take_while}
use Rattle.std.proofs.lemmas.List.Folds.{length-prefix_len}
use Rattle.tokens.specs.Texts.{nonzero}
use Rattle.clike.proofs.Fronts.{read_run}
use Rattle.clike.proofs.scan.length_while.Goals as goal

pub returns-clause-count : goal.returns-clause-count
returns-clause-count g c = λ p h.
    let bytes = c.args.bytes.now in
    count_from_yields_List c.take_while.result _ c.count.ensures.ran
    (YieldsList-from_take_while _ (λ b. nonzero b && p b) (YieldsList-from_slice bytes cc) c.take_while.ensures.closure c.take_while.ensures.done (λ x b q k. search (rules, tests, h)))
    ∙ length-prefix_len (λ b. nonzero b && p b) bytes ∙ read_run p bytes
