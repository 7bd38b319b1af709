use Rattle.std.proofs.Common.{◌≡◌, ℕ, ◌-◌, ◌++◌, length, take, drop, replicate, ap, ◌∙◌, arith}
use Rattle.runs.specs.Shares.{unused}
use Rattle.library.proofs.Removes.{closed}
use Rattle.library.proofs.removing.close_tokens.Goals as goal

pub returns : goal.returns
returns c =
    let u = c.args.used in
    let one = c.close_gap.new.xs in
    let z : u - 0 ≡ u = omega arith in
    let w : c.wipe.new.tokens ≡ take (u - c.args.len) (take (u - 0) one) ++ replicate (length (take (u - 0) one) - (u - c.args.len)) unused = c.wipe.ensures in
    let e = closed c.args.tokens.now one c.wipe.new.tokens c.args.start c.args.len u c.requires.within c.requires.used c.close_gap.ensures (rw z at w) in
    let v : c.wipe.new.tokens ++ drop (u - 0) one ≡ _ = ap (λ (x : ℕ). c.wipe.new.tokens ++ drop x one) z ∙ e in
    v
