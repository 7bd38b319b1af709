use Rattle.std.proofs.Common.{◌≤◌, ◌<◌, ◌≡◌, MatchOption, refl, ap, subst}
use Rattle.prints.specs.Walk.{grams, row_of}
use Rattle.prints.proofs.Walks.{held_on}
use Rattle.prints.proofs.walk.Grams.next.Goals as goal

pub returns : goal.returns
returns g c =
    let x = c.args.self.now in
    let cs = g.C.Codes.codes x.codes in
    let going = c.requires in
    let low = going.low in
    let held = subst (λ o. MatchOption o (grams x.k cs ≤ x.place) (λ v. (x.place < grams x.k cs) × (v ≡ row_of g.H.GramHash.value g.C.Codes.codes x x.place))) c.in_ok-value.was going.held in
    record {
      going = record {
        low = low;
        high = going.high;
        coded = going.coded;
        len = going.len;
        size = going.size;
        held = held_on cs x.k x.place low g.H.GramHash.value c.in_ok-value.value c.rolled-self.result going.high going.coded held.0 held.1 c.rolled-self.ensures;
      };
      codes = refl;
      k = refl;
      gave = (held.0, ap (λ v. record { place = x.place; value = v }) held.1, refl);
    }
