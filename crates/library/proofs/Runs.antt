-- A list of calls, turn by turn.
use Rattle.std.proofs.Common.{◌≡◌, ℕ, true, List, [], ◌∷◌, ◌++◌, map, Ordering, sym, refl, ◌∙◌, append_assoc, append-nil}
use Rattle.std.specs.List.{AllByRecursion}
use Rattle.std.proofs.lemmas.List.{map_push}
use Rattle.model.specs.declared.calls.Answer.{Answer}
use Rattle.model.specs.Calls.{Asked, Outcome, answer, after, held_after, outcomes, quiet, shown}
use Rattle.library.specs.Stores.{State, Sound, Same, Kept, Step, Steps, files, setting}
use Rattle.library.proofs.Stays.{kept_self, same_self}

module _ {V : Type 0} where
  kept_on : (s t u : State V) → Kept s t → Kept t u → Kept s u
  kept_on s t u a b =
      record {
        gram = b.gram ∙ a.gram;
        run = b.run ∙ a.run;
        room = b.room ∙ a.room;
        places = b.places ∙ a.places;
        tokens = b.tokens ∙ a.tokens;
        index = b.index ∙ a.index;
      }

  same_on : (s t u : State V) → Same s t → Same t u → Same s u
  same_on s t u a b =
      record {
        tokens = b.tokens ∙ a.tokens;
        index = b.index ∙ a.index;
        table = b.table ∙ a.table;
        used = b.used ∙ a.used;
        prints = b.prints ∙ a.prints;
      }

all_front : {X : Type 0} (P : X → Type 0) (xs : List X) (x : X) → AllByRecursion P (xs ++ x ∷ []) → AllByRecursion P xs × P x
all_front P [] x h = (tt, h.0)
all_front P (y ∷ ys) x h = let r = all_front P ys x h.1 in ((h.0, r.0), r.1)

module _ {V : Type 0} (value : List ℕ → V) (cmp : V → V → Ordering) where
  pub setting_kept : (s t : State V) → Kept s t → setting value cmp t ≡ setting value cmp s
  setting_kept s t k i =
      record { scheme = record { cmp = cmp; hash = value; k = k.gram i; t = k.run i }; tokens = k.room i; index = k.places i }

  -- after some of the calls `all`: the store is s, `done` are their outcomes, and `left` is left
  pub record Underway (s₀ s : State V) (all : List Asked) (done : List Outcome) (left : List Asked) : Type 0 where
    pub sound : Sound value cmp s₀ → Sound value cmp s
    pub joined : Sound value cmp s₀ → done ++ outcomes (setting value cmp s₀) (files s) left ≡ outcomes (setting value cmp s₀) (files s₀) all
    pub then : Sound value cmp s₀ → held_after (setting value cmp s₀) (files s) left ≡ held_after (setting value cmp s₀) (files s₀) all
    pub unchanged : Sound value cmp s₀ → AllByRecursion (λ o. quiet o ≡ true) done → Same s₀ s
    pub kept : Kept s₀ s

  begun : (s : State V) (cs : List Asked) → Underway s s cs [] cs
  begun s cs = record { sound = λ q. q; joined = λ _. refl; then = λ _. refl; unchanged = λ _ _. same_self s; kept = kept_self s }

  turn : (s₀ s t : State V) (all : List Asked) (done : List Outcome) (c : Asked) (left : List Asked) (o : Outcome) → Underway s₀ s all done (c ∷ left) → Step value cmp s t c o → Underway s₀ t all (done ++ o ∷ []) left
  turn s₀ s t all done c left o h p =
      let st = setting value cmp s₀ in
      let e = setting_kept s₀ s h.kept in
      record {
        sound = λ q. (p.told (h.sound q)).sound;
        joined = λ q.
            let told = p.told (h.sound q) in
            let a : o ≡ answer (setting value cmp s₀) (files s) c = rw e at told.answers in
            let b : files t ≡ after (setting value cmp s₀) (files s) c = rw e at told.leaves in
            rw (a, b, append_assoc) (h.joined q);
        then = λ q.
            let told = p.told (h.sound q) in
            let b : files t ≡ after (setting value cmp s₀) (files s) c = rw e at told.leaves in
            rw b (h.then q);
        unchanged = λ q all_quiet.
            let parts = all_front (λ x. quiet x ≡ true) done o all_quiet in
            same_on s₀ s t (h.unchanged q parts.0) ((p.told (h.sound q)).unchanged parts.1);
        kept = kept_on s₀ s t h.kept p.kept;
      }

  ended : (s₀ s : State V) (all : List Asked) (done : List Outcome) → Underway s₀ s all done [] → Steps value cmp s₀ s all done
  ended s₀ s all done h =
      record {
        told = λ q. record { answers = sym (append-nil done) ∙ h.joined q; leaves = h.then q; sound = h.sound q; unchanged = h.unchanged q };
        kept = h.kept;
      }

  -- ---- the same, over the lists that the code holds

  module _ {X : Type 0} (ask : X → Asked) (s₀ : State V) (all : List Asked) where
    pub begun_of : (old : List Answer) (xs : List X) → old ≡ [] → map ask xs ≡ all → Underway s₀ s₀ all (map shown old) (map ask xs)
    begun_of old xs e f = rw (e, f) (begun s₀ all)

    pub turn_of : (s t : State V) (xs ys : List X) (x : X) (old new : List Answer) (a : Answer) → xs ≡ x ∷ ys → new ≡ old ++ a ∷ [] → Underway s₀ s all (map shown old) (map ask xs) → Step value cmp s t (ask x) (shown a) → Underway s₀ t all (map shown new) (map ask ys)
    turn_of s t xs ys x old new a e d h p =
        let left : Underway s₀ s all (map shown old) (ask x ∷ map ask ys) = rw e at h in
        rw (d, map_push) (turn s₀ s t all (map shown old) (ask x) (map ask ys) (shown a) left p)

    pub end_of : (s : State V) (xs : List X) (old : List Answer) → xs ≡ [] → Underway s₀ s all (map shown old) (map ask xs) → Steps value cmp s₀ s all (map shown old)
    end_of s xs old e h = let left : Underway s₀ s all (map shown old) [] = rw e at h in ended s₀ s all (map shown old) left
