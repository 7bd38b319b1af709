use Rattle.std.proofs.Common.{◌≡◌, ℕ, ◌<◌, ◌∷◌, length, Some, None, Ok, Err, Result, sym, ap, ◌∙◌, subst, arith}
use Rattle.std.proofs.lemmas.Result.{err_from_is_err_and}
use Rattle.tokens.specs.Tokens.{first}
use Rattle.tokens.proofs.Streams.{first_some, first_none, first_err}
use Rattle.model.specs.declared.refusal.Refusal.{Refusal}
use Rattle.filling.specs.Filled.{Filled}
use Rattle.filling.proofs.Inflow.{placed_coded, overran, faulted, all_read}
use Rattle.filling.proofs.Writes.{one_more}
use Rattle.filling.proofs.reading.fill.Goals as goal

pub returns-in_err-token : goal.returns-in_err-token
returns-in_err-token g c =
    let all = g.S.Source.tokens c.args.source in
    let ending = g.S.Source.ending c.args.source in
    let was = c.in_err-token.was in
    let answered : Err c.in_err-token.field-0.0 ≡ first (g.S.Source.tokens c.loop-source.source) (g.S.Source.ending c.loop-source.source) = cc in
    let stop = first_err (g.S.Source.tokens c.loop-source.source) (g.S.Source.ending c.loop-source.source) c.in_err-token.field-0.0 answered in
    let gave = err_from_is_err_and c.from_residual.result c.from_residual.ensures.1 in
    let ended = faulted ending c.loop-source.invariant.0 (placed_coded 0 all c.lawful.ensures.placed) stop.0 (sym c.loop-source.invariant.1 ∙ stop.1) in
    subst (λ (r : Result ℕ Refusal). Filled c.args.free.now c.loop-source.free all ending r) (sym (gave.1 ∙ ap Err gave.2)) ended

pub returns-then-n-free : goal.returns-then-n-free
returns-then-n-free g c =
    let all = g.S.Source.tokens c.args.source in
    let ending = g.S.Source.ending c.args.source in
    let was = c.in_ok-token.was in
    let answered : Ok (Some c.in-Some.token) ≡ first (g.S.Source.tokens c.loop-source.source) (g.S.Source.ending c.loop-source.source) = cc in
    let came = first_some (g.S.Source.tokens c.loop-source.source) (g.S.Source.ending c.loop-source.source) c.in-Some.token answered in
    let full : c.loop-source.n ≡ length c.args.free.now = c.if-n-free.true ∙ c.loop-source.auto.free in
    let ended = overran ending c.loop-source.invariant.0 (placed_coded 0 all c.lawful.ensures.placed) came full in
    subst (λ (x : Refusal). Filled c.args.free.now c.loop-source.free all ending (Err x)) (sym c.plain.ensures) ended

pub loop-source-preserved : goal.loop-source-preserved
loop-source-preserved g c =
    let was = c.in_ok-token.was in
    let answered : Ok (Some c.in-Some.token) ≡ first (g.S.Source.tokens c.loop-source.source) (g.S.Source.ending c.loop-source.source) = cc in
    let came = first_some (g.S.Source.tokens c.loop-source.source) (g.S.Source.ending c.loop-source.source) c.in-Some.token answered in
    let fits = c.loop-source.invariant.0.fits in
    let room : c.loop-source.n < length c.args.free.now = omega arith in
    let onward = came ∙ ap (λ l. c.in-Some.token ∷ l) (sym c.next.ensures.left) in
    (one_more c.loop-source.invariant.0 onward room, c.next.ensures.ends ∙ c.loop-source.invariant.1)

pub returns : goal.returns
returns g c =
    let all = g.S.Source.tokens c.args.source in
    let was = c.in_ok-token.was in
    let answered : Ok None ≡ first (g.S.Source.tokens c.loop-source.source) (g.S.Source.ending c.loop-source.source) = cc in
    let stop = first_none (g.S.Source.tokens c.loop-source.source) (g.S.Source.ending c.loop-source.source) answered in
    all_read (g.S.Source.ending c.args.source) c.loop-source.invariant.0 (placed_coded 0 all c.lawful.ensures.placed) stop.0 (sym c.loop-source.invariant.1 ∙ stop.1)
