use Rattle.std.proofs.Common.{◌≡◌, List, ℕ, ◌++◌, map, length, drop, replicate, sym, rules, arith}
use Rattle.model.specs.declared.table.Entry.{Entry}
use Rattle.library.specs.States.{state}
use Rattle.library.proofs.Stays.{held_short, held_all}
use Rattle.library.proofs.store.Store.held.Goals as goal

pub returns-then-list-count : goal.returns-then-list-count
returns-then-list-count g c =
    let zeros : ◌≡◌ {A = List ℕ} c.fill.new.self (replicate (length c.args.list.now) 0) = search rules in
    let n = c.fill.auto.self in
    let m = c.len-count.ensures.value in
    rw c.plain.ensures (held_short _ _ (state c.args.self.now) (length c.args.list.now) _ (omega arith) zeros)

pub returns : goal.returns
returns g c =
    let s = c.args.self.now in
    let zeros : ◌≡◌ {A = List ℕ} c.fill.new.self (replicate (length c.args.list.now) 0) = search rules in
    let n = c.fill.auto.self in
    let m = c.len-count.ensures.value in
    let w : c.write_numbers.new.list ≡ map (λ (e : Entry). e.number) s.table.items ++ drop (length s.table.items) (replicate (length c.args.list.now) 0) = rw (sym c.as_slice.ensures.value, sym zeros) c.write_numbers.ensures in
    held_all _ _ (state s) (length c.args.list.now) c.write_numbers.new.list (search (rules, arith)) (omega arith) w
