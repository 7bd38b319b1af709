-- What reading a source into a token list answers and leaves. Assumes nothing.
use Rattle.std.specs.Prelude.{◌≡◌, ℕ, ◌≤◌, true, cond, List, ◌++◌, length, drop, is_ok, Some, None, Option, Result, nat_lt}
use Rattle.tokens.specs.declared.token.Token.{Token}
use Rattle.tokens.specs.declared.token.Fault.{Fault}
use Rattle.prints.specs.Grams.{Coded}
use Rattle.runs.specs.Passages.{codes}
use Rattle.model.specs.declared.refusal.Reason.TheVariants.{TokensFull}
use Rattle.model.specs.declared.refusal.Refusal.{Refusal}
use Rattle.model.specs.Refusals.{plain}
use Rattle.model.specs.Calls.{unless, ending_refusal}

-- the tokens ts of a source with the ending e, read into `before`, which is `after` then
pub record Filled (before after ts : List Token) (e : Option Fault) (r : Result ℕ Refusal) : Type 0 where
  pub answers : r ≡ unless (cond (nat_lt (length before) (length ts)) (Some (plain TokensFull)) (ending_refusal e None)) (length ts)
  pub leaves : is_ok r ≡ true → after ≡ ts ++ drop (length ts) before
  pub few : is_ok r ≡ true → length ts ≤ length before
  pub long : length after ≡ length before
  pub coded : Coded (codes ts)
