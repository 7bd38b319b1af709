use Rattle.std.proofs.Common.{◌≡◌, Option, None, Some, sym, ap, ◌∙◌}
use Rattle.std.specs.Option.{unwrap_or, MatchOption}
use Rattle.model.proofs.Held.{unknown_tokens}
use Rattle.pairing.specs.Scopes.{held_files}
use Rattle.pairing.proofs.held.HeldFiles.tokens_or_none.Goals as goal

-- what is said of a value if there is one, and of the other if there is none, holds of what stands then
either_way : {A B : Type 0} (v : A → B) (o : Option A) (d : A) (P : Type 0) (Q : A → Type 0) (b : B) → MatchOption o P Q → (P → v d ≡ b) → ((x : A) → Q x → v x ≡ b) → v (unwrap_or o d) ≡ b
either_way v None d P Q b m p q = p m
either_way v (Some x) d P Q b m p q = q x m

pub returns : goal.returns
returns c =
    ap (λ r. r.now) c.unwrap_or.ensures ∙ either_way (λ r. r.now) c.tokens_of.result _ _ _ _ c.tokens_of.ensures (λ e. sym (unknown_tokens (held_files c.args.self.now) c.args.number e)) (λ x h. h.1)
