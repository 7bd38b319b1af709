use Rattle.std.proofs.Common.{◌≡◌, suc, ◌∷◌, length, ap, ◌∙◌, arith}
use Rattle.prints.specs.Hashes.{polynomial}
use Rattle.prints.proofs.Weights.{factor, polynomial_roll}
use Rattle.prints.proofs.polynomial.PolynomialGramHash.roll.Goals as goal

pub returns : goal.returns
returns c mid gram code size is =
    let few = gram.few in
    let lead : c.from-2.result ≡ factor (suc (length mid)) = c.from-2.ensures ∙ c.leaving.ensures (omega arith) (omega arith) ∙ ap factor size in
    let held : c.from-3.result ≡ polynomial (c.args.out ∷ mid) = c.from-3.ensures ∙ is in
    let e = polynomial_roll c.args.out mid c.args.next in
    simp (held, lead, c.from.ensures, c.from-4.ensures) e
