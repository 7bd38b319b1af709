-- A hash that takes one code more by a step is that step's fold. Assumes nothing.
use Rattle.std.proofs.Common.{◌≡◌, ℕ, List, [], ◌∷◌, ◌++◌, sym, ap, ◌∙◌}
use Rattle.std.specs.List.{fold, AllByRecursion}
use Rattle.std.proofs.lemmas.List.{append-nil, append_assoc}

module _ {V : Type 0} (P : ℕ → Type 0) (hash : List ℕ → V) (step : V → ℕ → V) (push : (cs : List ℕ) (c : ℕ) → P c → hash (cs ++ c ∷ []) ≡ step (hash cs) c) where
  folds_on : (cs more : List ℕ) → AllByRecursion P more → fold step (hash cs) more ≡ hash (cs ++ more)
  folds_on cs [] all = sym (ap hash (append-nil cs))
  folds_on cs (c ∷ more) all = ap (λ v. fold step v more) (sym (push cs c all.0)) ∙ folds_on (cs ++ c ∷ []) more all.1 ∙ ap hash (append_assoc cs (c ∷ []) more)

  pub folds : (cs : List ℕ) → AllByRecursion P cs → fold step (hash []) cs ≡ hash cs
  folds cs all = folds_on [] cs all
