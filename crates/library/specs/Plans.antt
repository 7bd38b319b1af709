-- Plans, and why one is refused. Assumes nothing.
use Rattle.std.specs.Prelude.{◌≡◌, ℕ, ◌<◌, ◌≤◌, ◌⊎◌}
use Rattle.model.specs.declared.refusal.Reason.TheVariants.{GramLength, RunLength}
use Rattle.model.specs.declared.refusal.Refusal.{Refusal}
use Rattle.model.specs.Refusals.{plain}
use Rattle.library.specs.declared.plan.Plan.{Plan}

-- the numbers of a plan are in range
pub record InRange (k t : ℕ) : Type 0 where
  pub low : 1 ≤ k
  pub high : k ≤ 64
  pub least : k ≤ t
  pub most : t ≤ 256

-- it is the plan of these numbers, and they are in range
pub record Planned {H : Type 0} (k t : ℕ) (p : Plan H) : Type 0 where
  pub range : InRange k t
  pub gram : p.k ≡ k
  pub run : p.t ≡ t

-- k is out of range, or else t is
abbrev pub Unplanned : ℕ → ℕ → Refusal → Type 0
Unplanned k t e =
    (((k < 1) ⊎ (64 < k)) × (e ≡ plain GramLength))
    ⊎ (((1 ≤ k) × (k ≤ 64)) × ((t < k) ⊎ (256 < t)) × (e ≡ plain RunLength))
