use Rattle.std.proofs.Common.{◌≡◌, ℕ, ◌+◌, ◌-◌, take, drop, sym, ap, ◌∙◌, arith}
use Rattle.model.proofs.Tabled.{known_absent, known_at, tokens_at}
use Rattle.pairing.proofs.held.HeldFiles.tokens_of.Goals as goal

pub returns-in_err-spot : goal.returns-in_err-spot
returns-in_err-spot c = rw c.from_residual.ensures (known_absent _ _ _ c.in_err-spot.ensures)

pub returns : goal.returns
returns c =
    let p = c.in_ok-spot.spot in
    let ts = c.args.self.now.tokens.now in
    let h = c.in_ok-spot.ensures in
    let long : p.start + p.len - p.start ≡ p.len = omega arith in
    (known_at _ _ ts p h, ap (λ (m : ℕ). take m (drop p.start ts)) long ∙ sym (tokens_at _ _ ts p h))
