use Rattle.std.proofs.Common.{arith, sym, ◌∙◌}
use Rattle.std.proofs.lemmas.Bool.{false≢true}
use Rattle.std.proofs.lemmas.Str.Pattern.{starts_char}
use Rattle.piles.proofs.Wording.{class_parsed}
use Rattle.piles.proofs.words.class_of.Goals as goal

pub returns : goal.returns
returns c =
    let ds = c.args.digits.now in
    let plus = starts_char 43 ds c.starts_with.result c.starts_with.ensures.cases (omega arith) (omega arith) in
    c.ok.ensures.value ∙ class_parsed ds _ (omega arith) (λ e. false≢true (sym c.if-starts_with.false ∙ plus.1 e)) c.from_str_radix.ensures.value
