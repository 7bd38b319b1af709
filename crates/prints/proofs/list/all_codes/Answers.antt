use Rattle.std.proofs.Common.{rules, ℕ, ◌<◌, length, MatchBool, subst}
use Rattle.std.specs.List.{AllWithin, HoldsAt}
use Rattle.std.proofs.lemmas.Iterator.{YieldsList-from_slice, cases_from_all}
use Rattle.std.proofs.lemmas.Iterator.Search.{true_from_All}
use Rattle.std.proofs.lemmas.List.Elements.{All-from_recursion, recursion_from_All, All-from_all_within}
use Rattle.prints.specs.Grams.{Code}
use borrow.Author.Tests.{tests}
use Rattle.prints.proofs.list.all_codes.Goals as goal

pub returns : goal.returns
returns c =
    let cs = c.args.codes.now in
    let cases = cases_from_all _ _ _ Code (λ x. Code x → ⊥) c.all.ensures.ran (YieldsList-from_slice cs cc) (λ x q k. search (rules, tests)) (λ x q k. search (rules, tests)) in (
      λ e. recursion_from_All Code cs (All-from_all_within Code cs (subst (λ b. MatchBool b (AllWithin Code cs 0 (length cs)) ((k : ℕ) × (k < length cs) × HoldsAt (λ x. Code x → ⊥) cs k)) e cases)),
      λ coded. true_from_All Code (λ x. Code x → ⊥) c.all.result cs (λ x p q. q p) cases (All-from_recursion Code cs coded),
    )
