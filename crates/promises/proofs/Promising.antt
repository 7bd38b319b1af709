-- The defined outcomes keep the promises. Assumes nothing.
use Rattle.std.proofs.Common.{◌≡◌, ℕ, ◌≤◌, List, [], IsSomeAnd, Some, Option, Ordering, sym, subst}
use Rattle.order.specs.Total.{TotalOrder}
use Rattle.model.specs.Calls.{Asked, held, report, Outcome, Setting, setting, held_after, outcomes}
use Rattle.promises.specs.Promises.{Answered, Promised, Promises}
use Rattle.promises.proofs.Anew.{fresh}
use Rattle.promises.proofs.Fitting.{fits_after}
use Rattle.promises.proofs.Reporting.{report_told}
use Rattle.promises.proofs.Telling.{answered, held_told}

told : {X : Type 0} (P : X → Type 0) (r : Option X) (x : X) → r ≡ Some x → P x → IsSomeAnd r P
told P r x e h = subst (λ s. IsSomeAnd s P) (sym e) h

module _ {V : Type 0} (st : Setting V) (o : TotalOrder st.scheme.cmp) (low : 1 ≤ st.scheme.k) (fits : st.scheme.k ≤ st.scheme.t) where
  pub promised : (cs : List Asked) (os : List Outcome) → Answered st cs os → Promised st cs os
  promised cs os h = record {
    reports = λ before rest n room e. told _ _ _ (h.each before rest (report n room) e) (report_told st o low fits (held_after st [] before) n room (fits_after st before).distinct);
    held = λ before rest room e. told _ _ _ (h.each before rest (held room) e) (held_told st (held_after st [] before) room (fits_after st before).distinct);
    fits = λ before rest e. fits_after st before;
    fresh = λ before rest e. fresh st o low (held_after st [] before) (fits_after st before);
  }

pub promises : {V : Type 0} (hash : List ℕ → V) (cmp : V → V → Ordering) → TotalOrder cmp → Promises hash cmp
promises hash cmp o k t tokens index low fits cs =
    let st = setting hash cmp k t tokens index in
    promised st o low fits cs (outcomes st [] cs) (answered st cs)
