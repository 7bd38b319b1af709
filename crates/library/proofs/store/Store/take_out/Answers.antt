use Rattle.std.proofs.Common.{◌≡◌, ℕ, ◌+◌, suc, ◌++◌, take, drop, refl, ap, ◌∙◌, arith, rules}
use Rattle.std.proofs.lemmas.Fn.{always_returns_same}
use Rattle.library.proofs.store.Store.take_out.Goals as goal

pub returns : goal.returns
returns g c =
    let s = c.args.self.now in
    let p = c.args.spot in
    let one : suc p.slot ≡ p.slot + 1 = omega arith in
    record {
      tokens = c.close_tokens.ensures;
      table = c.remove.ensures.items ∙ ap (λ (i : ℕ). take p.slot s.table.items ++ drop i s.table.items) one;
      index = c.remove_where-self.ensures.thinned _ (always_returns_same _ _ _ (λ a r f k. search rules));
      used = refl;
      kept = record { gram = refl; run = refl; room = c.close_tokens.auto.tokens; places = c.remove_where-self.auto.list; tokens = refl; index = refl };
    }
