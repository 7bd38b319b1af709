use Rattle.std.proofs.Common.{refl}
use Rattle.runs.proofs.Alike.{decides_all}
use Rattle.runs.proofs.Tested.{answer}
use Rattle.runs.proofs.longest.Alignment.same_grams.Goals as goal

pub returns-in-Some-Some-clause-fact : goal.returns-in-Some-Some-clause-fact
returns-in-Some-Some-clause-fact c =
    let g = c.in-Some-Some.ensures in
    let h = c.in-Some-Some.ensures' in
    simp (c.all_same.ensures, g.tokens, h.tokens) (decides_all _ _ _ _ c.args.k (g.there.0 refl) (h.there.0 refl))

pub returns-in-Some-Some-clause-test : goal.returns-in-Some-Some-clause-test
returns-in-Some-Some-clause-test c = answer c.args.k _ _ _ _ _ (returns-in-Some-Some-clause-fact c)
