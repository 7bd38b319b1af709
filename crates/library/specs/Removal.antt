-- A file taken out of a store, list by list. Assumes nothing.
use Rattle.std.specs.Prelude.{◌≡◌, ℕ, ◌+◌, ◌-◌, ◌++◌, take, drop, replicate, nat_eq}
use Rattle.std.specs.declared.cmp.Ordering.{Ordering}
use Rattle.ordered.specs.Edited.{Thinned}
use Rattle.runs.specs.Shares.{unused}
use Rattle.model.specs.declared.table.Spot.{Spot}
use Rattle.model.specs.Prints.{by_fields}
use Rattle.library.specs.Stores.{State, Kept}

pub record TakenOut {V : Type 0} (cmp : V → V → Ordering) (s t : State V) (number : ℕ) (p : Spot) : Type 0 where
  pub tokens : t.tokens.now ≡ take p.start s.tokens.now ++ take (s.used - (p.start + p.len)) (drop (p.start + p.len) s.tokens.now) ++ (replicate p.len unused ++ drop s.used s.tokens.now)
  pub table : t.table ≡ take p.slot s.table ++ drop (p.slot + 1) s.table
  pub index : Thinned (by_fields cmp) (λ e. nat_eq e.file number) s.index.now t.index.now s.prints t.prints
  pub used : t.used ≡ s.used - p.len
  pub kept : Kept s t
