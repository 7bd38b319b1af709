use Rattle.std.proofs.Common.{◌<◌, ◌^◌, length, ap, ap₂, ◌∙◌, sym, subst, arith}
use Rattle.prints.specs.Window.{Holds}
use Rattle.prints.specs.Walk.{row_of, winnowed_from}
use Rattle.prints.proofs.Winnowed.{winnowed_few, from_start}
use Rattle.prints.proofs.walk.Winnow.new.Goals as goal

pub invariant_of-result : goal.invariant_of-result
invariant_of-result g c =
    let place = c.new.ensures.place in
    let room = c.new-2.result.room in
    record {
      going = c.new.ensures.going;
      queue = subst (λ n. Holds g.H.Value.Ord.cmp (row_of g.H.GramHash.value g.C.Codes.codes c.new.result) n c.new-2.result) (sym place) (c.new-2.ensures.none (row_of g.H.GramHash.value g.C.Codes.codes c.new.result));
      gone = λ s p fits r. absurd (omega arith);
    }

pub returns-clause-all : goal.returns-clause-all
returns-clause-all g c =
    ap₂ (λ k w. winnowed_from g.H.GramHash.value g.H.Value.Ord.cmp k w (g.C.Codes.codes c.new.result.codes) 0) c.new.ensures.k c.new-2.ensures.width
    ∙ ap (λ x. winnowed_from g.H.GramHash.value g.H.Value.Ord.cmp c.args.by.k c.args.by.w (g.C.Codes.codes x) 0) c.new.ensures.codes
    ∙ from_start g.H.GramHash.value g.H.Value.Ord.cmp c.args.by.k c.args.by.w (g.C.Codes.codes c.args.codes)

pub returns-clause-few : goal.returns-clause-few
returns-clause-few g c =
    let cs = g.C.Codes.codes c.args.codes in
    let all = ap length (returns-clause-all g c) in
    let few = winnowed_few g.H.GramHash.value g.H.Value.Ord.cmp c.args.by.k c.args.by.w cs c.args.by.gram.0 in
    let size = subst (λ x. length (g.C.Codes.codes x) < 2 ^ 64) c.new.ensures.codes c.new.ensures.going.size in
    omega arith
