use Rattle.std.proofs.Common.{◌≡◌, ◌+◌, ◌-◌, ◌++◌, take, drop, refl, ap, arith}
use Rattle.ordered.proofs.Sorting.{taken_in}
use Rattle.ordered.proofs.batch.take_in.Goals as goal

pub returns : goal.returns
returns g c =
    let xs = c.args.xs.now in
    let n = c.args.n in
    let k = n + c.args.m - n in
    let D = take k (drop n xs) in
    let ys = c.sort-b.new.list in
    let tail = drop k (drop n xs) in
    let all : k ≡ c.args.m = omega arith in
    let few = c.sort-b.ensures.fewer in
    let long = c.sort-b.auto.list in
    taken_in xs D ys (take n xs ++ (ys ++ tail)) c.join.new.xs tail n c.args.m c.sort-b.result c.join.result c.requires (ap (λ j. take j (drop n xs)) all) (omega arith) long c.sort-b.ensures.lists refl c.join.ensures
