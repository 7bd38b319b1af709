-- What a file's fingerprints are, for those who call. Assumes nothing.
use Rattle.std.proofs.Common.{◌≡◌, ℕ, ◌+◌, ◌<◌, ◌≤◌, leb, List, [], ◌∷◌, map, length, filter, Ordering, sym, refl, ap, ◌∙◌, subst, inl, arith}
use Rattle.std.specs.List.{range_with_len}
use Rattle.std.proofs.lemmas.List.FromFn.{length-range_with_len}
use Rattle.std.proofs.lemmas.List.{length-map}
use Rattle.order.specs.Total.{TotalOrder}
use Rattle.order.specs.Listed.{In, ListsExactly}
use Rattle.order.proofs.Members.{kept_few, in_map, map_in}
use Rattle.prints.specs.declared.window.Placed.{Placed}
use Rattle.prints.specs.Choice.{Chosen, NoWindow, is_picked, chosen, at_place}
use Rattle.prints.specs.Walk.{grams, value_at, winnowed, winnowed_from}
use Rattle.prints.proofs.Walks.{kept_whole}
use Rattle.prints.proofs.Picks.{agrees, chosen_in, in_chosen}
use Rattle.std.specs.Ordering.{nat_cmp}

-- there are no more chosen places than codes
pub winnowed_few : {V : Type 0} (hash : List ℕ → V) (cmp : V → V → Ordering) (k w : ℕ) (cs : List ℕ) → 1 ≤ k → length (winnowed hash cmp k w cs) ≤ length cs
unfolding winnowed
winnowed_few hash cmp k w cs low =
    let at = value_at hash k cs in
    let n = grams k cs in
    let a = length-map (chosen cmp w at n) (at_place at) in
    let b = kept_few (is_picked cmp w at n) (range_with_len 0 n) in
    let c = length-range_with_len 0 n in
    omega arith

-- nor from a place on
pub winnowed_from_few : {V : Type 0} (hash : List ℕ → V) (cmp : V → V → Ordering) (k w : ℕ) (cs : List ℕ) (from : ℕ) → 1 ≤ k → length (winnowed_from hash cmp k w cs from) ≤ length cs
unfolding winnowed_from
winnowed_from_few hash cmp k w cs from low =
    let at = value_at hash k cs in
    let n = grams k cs in
    let all = chosen cmp w at n in
    let a = length-map (filter (leb from) all) (at_place at) in
    let b = kept_few (leb from) all in
    let c = kept_few (is_picked cmp w at n) (range_with_len 0 n) in
    let d = length-range_with_len 0 n in
    omega arith

-- those from the first place on are all
pub from_start : {V : Type 0} (hash : List ℕ → V) (cmp : V → V → Ordering) (k w : ℕ) (cs : List ℕ) → winnowed_from hash cmp k w cs 0 ≡ winnowed hash cmp k w cs
unfolding winnowed winnowed_from
from_start hash cmp k w cs = ap (map (at_place (value_at hash k cs))) (kept_whole 0 (chosen cmp w (value_at hash k cs) (grams k cs)) (λ y i. omega arith))

-- ---- all fingerprints

places_of : {V : Type 0} (at : ℕ → V) (ps : List ℕ) → map (λ m. m.place) (map (at_place at) ps) ≡ ps
places_of at [] = refl
places_of at (p ∷ ps) = ap (λ l. p ∷ l) (places_of at ps)

none_in : {X : Type 0} (xs : List X) → ((x : X) → In x xs → ⊥) → xs ≡ []
none_in [] h = refl
none_in (x ∷ xs) h = absurd (h x (inl refl))

pub no_window : (V : Type 0) → NoWindow V
no_window V cmp o w at n lt = none_in (chosen cmp w at n) (λ p i. let c = chosen_in o at w n p (omega arith) i in let fits = c.1 in omega arith)

module _ {V : Type 0} (hash : List ℕ → V) {cmp : V → V → Ordering} (o : TotalOrder cmp) (k w : ℕ) (pos : 0 < w) (cs : List ℕ) where
  -- its places are exactly the chosen ones
  pub winnowed_exact : ListsExactly nat_cmp (map (λ m. m.place) (winnowed hash cmp k w cs)) (Chosen cmp w (value_at hash k cs) (grams k cs))
  unfolding winnowed
  winnowed_exact = subst (λ l. ListsExactly nat_cmp l (Chosen cmp w (value_at hash k cs) (grams k cs))) (sym (places_of (value_at hash k cs) (chosen cmp w (value_at hash k cs) (grams k cs)))) (agrees V cmp o w pos (value_at hash k cs) (grams k cs))

  -- each with its value
  pub winnowed_in : (m : Placed V) → In m (winnowed hash cmp k w cs) → Chosen cmp w (value_at hash k cs) (grams k cs) m.place × (m.value ≡ value_at hash k cs m.place)
  unfolding winnowed
  winnowed_in m i =
      let at = value_at hash k cs in
      let h = map_in (at_place at) (chosen cmp w at (grams k cs)) m i in
      let place : h.0 ≡ m.place = ap (λ x. x.place) h.2 in
      (subst (Chosen cmp w at (grams k cs)) place (chosen_in o at w (grams k cs) h.0 pos h.1), sym (ap (λ x. x.value) h.2) ∙ ap at place)

  pub in_winnowed : (p : ℕ) → Chosen cmp w (value_at hash k cs) (grams k cs) p → In (at_place (value_at hash k cs) p) (winnowed hash cmp k w cs)
  unfolding winnowed
  in_winnowed p c = in_map (at_place (value_at hash k cs)) (chosen cmp w (value_at hash k cs) (grams k cs)) p (in_chosen o (value_at hash k cs) w (grams k cs) p pos c)

  -- fewer codes than a window spans
  pub winnowed_short : length cs + 1 < k + w → winnowed hash cmp k w cs ≡ []
  unfolding winnowed
  winnowed_short lt = ap (map (at_place (value_at hash k cs))) (no_window V cmp o w (value_at hash k cs) (grams k cs) (omega arith))

  -- its gram lies within the codes
  pub winnowed_within : 1 ≤ k → (m : Placed V) → In m (winnowed hash cmp k w cs) → m.place + k ≤ length cs
  winnowed_within low m i =
      let c = (winnowed_in m i).0 in
      let fits = c.1 in
      let below = c.2.below in
      omega arith
