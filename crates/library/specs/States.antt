-- What a store stands for. Assumes nothing.
use Rattle.library.specs.declared.store.Store.{Store}
use Rattle.library.specs.Stores.{State, Shape, Shaped}

-- whatever its hash says of itself
abbrev pub state : {H V : Type 0} {hash : _} {ord : _} {eq : _} {partial : _} → Store H V hash ord eq partial → State V
state s = record { tokens = s.tokens; used = s.used; table = s.table.items; index = s.index; prints = s.prints; k = s.plan.k; t = s.plan.t }

-- what the ghost fields of a store and of its plan say
pub shape_of : {H V : Type 0} {hash : _} {ord : _} {eq : _} {partial : _} (s : Store H V hash ord eq partial) → Shape (state s)
shape_of s =
    record {
      few = s.few;
      full = s.full;
      within = s.within;
      room = s.room;
      places = s.places;
      indexed = s.indexed;
      low = s.plan.low;
      high = s.plan.high;
      least = s.plan.least;
      most = s.plan.most;
    }

-- both, as clauses see them of a library
abbrev pub shaped : {H V : Type 0} {hash : _} {ord : _} {eq : _} {partial : _} → Store H V hash ord eq partial → Shaped V
shaped s = record { state = state s; shape = shape_of s }
