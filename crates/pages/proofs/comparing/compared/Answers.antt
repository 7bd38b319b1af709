use Rattle.std.proofs.Common.{◌≡◌, ◌∙◌, Bool, true, Result, Ok, Err, sym, ap, subst}
use Rattle.std.proofs.lemmas.Bool.{true≢false}
use Rattle.std.proofs.lemmas.Result.{err_from_is_err_and}
use Rattle.std.specs.Result.{MatchResult, is_ok, result_unwrap_or}
use Rattle.pages.proofs.Told.{told}
use Rattle.pages.proofs.comparing.compared.Goals as goal

-- what is said of the value that there is holds of the one that was handed on
handed_on : {A E : Type 0} (F : Type 0) (r : Result A E) (p : A) (P : A → Type 0) (Q R : E → Type 0) → true ≡ is_ok r → MatchResult r (λ x. ◌≡◌ {A = Result A F} (Ok p) (Ok x)) R → MatchResult r P Q → P p
handed_on F (Ok x) p P Q R v d n = subst P (sym (ap (λ r. result_unwrap_or r p) d)) n
handed_on F (Err e) p P Q R v d n = absurd (true≢false v)

pub returns-in_err-index : goal.returns-in_err-index
returns-in_err-index c =
    let p = err_from_is_err_and c.from_residual-in_err-index.result c.from_residual-in_err-index.ensures.1 in
    rw p.1 p.2

pub returns-in_err-calls : goal.returns-in_err-calls
returns-in_err-calls c =
    let p = err_from_is_err_and c.from_residual-in_err-calls.result c.from_residual-in_err-calls.ensures.1 in
    rw p.1 p.2

pub returns-in_err-answers : goal.returns-in_err-answers
returns-in_err-answers c =
    let p = err_from_is_err_and c.from_residual-in_err-answers.result c.from_residual-in_err-answers.ensures.1 in
    rw p.1 p.2

pub returns : goal.returns
returns c =
    let h = c.in_ok-answers.ensures in
    let q = c.in_ok-calls.ensures in
    let d = handed_on _ c.new.result c.in_ok-plan.plan _ _ _ c.in_ok-plan.ensures.variant c.in_ok-plan.ensures.cases c.new.ensures in
    told c.args.left.now c.args.right.now c.in_ok-plan.plan.k c.in_ok-plan.plan.t _ _ _ _ d.gram d.run (c.as_mut_slice.ensures.len ∙ c.in_ok-tokens.ensures.len) (c.as_mut_slice-2.ensures.len ∙ c.in_ok-index.ensures.len) q h.answered
