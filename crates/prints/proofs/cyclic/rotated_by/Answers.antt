use Rattle.std.proofs.Common.{◌≡◌, ◌%◌, ap, ◌∙◌, arith}
use Rattle.prints.specs.Hashes.{turned}
use Rattle.prints.proofs.Turns.{rotate_is}
use Rattle.prints.proofs.cyclic.rotated_by.Goals as goal

pub returns : goal.returns
returns c =
    let x = c.args.x in
    let r = c.args.n % 32 in
    let same : r % 32 ≡ r = omega arith in
    c.rotate_left.ensures ∙ rotate_is (r % 32) x (omega arith) (omega arith) ∙ ap (λ m. turned m x) same
