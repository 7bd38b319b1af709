use Rattle.std.proofs.Common.{rules, cond, ltb, get_or, sym, ap, ◌∙◌, subst, arith}
use Rattle.std.proofs.lemmas.Bool.{lt-ltb, cond-true}
use borrow.Author.Tests.{tests}
use Rattle.prints.specs.Grams.{Gram}
use Rattle.prints.proofs.Made.{made}
use Rattle.prints.proofs.Walks.{same_front}
use Rattle.prints.proofs.walk.first_value.Goals as goal

pub returns : goal.returns
returns g c fits gram =
    let cs = g.C.Codes.codes c.args.codes.now in
    let items = c.from_fn-gram.ensures.items in
    let long = items.long in
    let e = same_front c.from_fn-gram.result cs c.args.k (omega arith) fits (λ j lt. made (λ i. cond (ltb i c.args.k) (get_or cs i 0) 0) (λ i r q k. search (rules, tests)) _ 64 items j 0 (omega arith) ∙ cond-true (ltb j c.args.k) (get_or cs j 0) 0 (lt-ltb j c.args.k lt)) in
    c.of.ensures (subst Gram (sym e) gram) ∙ ap g.H.GramHash.value e
