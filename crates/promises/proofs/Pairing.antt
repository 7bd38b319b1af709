-- The pairs of two files are the pairs of chosen places with one value. Assumes nothing.
use Rattle.std.proofs.Common.{◌≡◌, ℕ, ◌<◌, Bool, true, List, [], ◌∷◌, map, filter, Ordering, Less, sym, refl, ap, ◌∙◌, subst, ap₂, arith}
use Rattle.std.specs.Ordering.{is_eq, ordering_then, nat_cmp}
use Rattle.std.specs.List.{flat_map}
use Rattle.order.specs.Total.{TotalOrder, by_both, by_key}
use Rattle.order.specs.Listed.{In, Rising}
use Rattle.order.specs.Compared.{is_equal}
use Rattle.order.proofs.Joins.{in_joined, joined_in, rising_append}
use Rattle.order.proofs.Members.{in_kept, kept_in, kept_passes, in_map, map_in}
use Rattle.order.specs.Orders.{numbers}
use Rattle.order.proofs.Rises.{rising_kept}
use Rattle.prints.specs.Choice.{at_place}
use Rattle.prints.proofs.Winnowed.{winnowed_exact, winnowed_in, in_winnowed}
use Rattle.runs.specs.Passages.{Scheme, codes, width, row, Print, print_list, Pair}
use Rattle.model.specs.declared.fingerprint.Fingerprint.{Fingerprint}
use Rattle.model.specs.Files.{File}
use Rattle.model.specs.Passages.{paired, pairs}
use Rattle.model.specs.Prints.{filed, file_prints}
use Rattle.promises.specs.Reports.{PairsCounted}

module _ {V : Type 0} (S : Scheme V) where
  -- a fingerprint of a file
  pub record PrintOf (f : File) (a : Fingerprint V) : Type 0 where
    pub file : a.file ≡ f.0
    pub print : Print S f.1 a.place
    pub value : a.value ≡ row S f.1 a.place

  -- the one at a place
  abbrev pub print_at : File → ℕ → Fingerprint V
  print_at f p = filed f.0 (at_place (row S f.1) p)

  -- a pair of two files
  pub record PairOf (f g : File) (p : Fingerprint V × Fingerprint V) : Type 0 where
    pub left : p.0.file ≡ f.0
    pub right : p.1.file ≡ g.0
    pub pair : Pair S f.1 g.1 p.0.place p.1.place

  abbrev tied : Fingerprint V → Fingerprint V → Bool
  tied a b = is_eq (S.cmp b.value a.value)

module _ {V : Type 0} (S : Scheme V) (o : TotalOrder S.cmp) where
  some_width : 0 < width S
  some_width = omega arith

  pub prints_in : (f : File) (a : Fingerprint V) → In a (file_prints S f) → PrintOf S f a
  prints_in f a m =
      let h = map_in (filed f.0) (print_list S f.1) a m in
      let w = winnowed_in S.hash o S.k (width S) some_width (codes f.1) h.0 h.1 in
      subst (PrintOf S f) h.2 (record { file = refl; print = w.0; value = w.1 })

  pub in_prints : (f : File) (p : ℕ) → Print S f.1 p → In (print_at S f p) (file_prints S f)
  in_prints f p c = in_map (filed f.0) (print_list S f.1) (at_place (row S f.1) p) (in_winnowed S.hash o S.k (width S) some_width (codes f.1) p c)

  pub pairs_in : (f g : File) (p : Fingerprint V × Fingerprint V) → In p (pairs S f g) → PairOf S f g p
  pairs_in f g p m =
      let h = joined_in (λ a. paired S.cmp a (file_prints S g)) (file_prints S f) p m in
      let a = h.0 in
      let i = map_in (λ b. (a, b)) (filter (tied S a) (file_prints S g)) p h.2 in
      let b = i.0 in
      let x = prints_in f a h.1 in
      let y = prints_in g b (kept_in (tied S a) (file_prints S g) b i.1) in
      let same : b.value ≡ a.value = o.equal b.value a.value (is_equal _ (kept_passes (tied S a) (file_prints S g) b i.1)) in
      subst (PairOf S f g) i.2
      (record { left = x.file; right = y.file; pair = record { here = x.print; there = y.print; alike = sym x.value ∙ sym same ∙ y.value } })

  pub in_pairs : (f g : File) (p q : ℕ) → Pair S f.1 g.1 p q → In (print_at S f p, print_at S g q) (pairs S f g)
  in_pairs f g p q h =
      let a = print_at S f p in
      let b = print_at S g q in
      let same : tied S a b ≡ true = ap is_eq (ap (λ v. S.cmp v a.value) (sym h.alike) ∙ o.itself a.value) in
      in_joined (λ c. paired S.cmp c (file_prints S g)) (file_prints S f) a (a, b) (in_prints f p h.here)
      (in_map (λ c. (a, c)) (filter (tied S a) (file_prints S g)) b (in_kept (tied S a) (file_prints S g) b (in_prints g q h.there) same))

-- ---- they rise by their places

module _ {X Y : Type 0} (key : X → Y) (cmp : Y → Y → Ordering) where
  rising_map : (xs : List X) → Rising (by_key key cmp) xs → Rising cmp (map key xs)
  rising_map [] c = tt
  rising_map (x ∷ xs) c = (λ y m. let h = map_in key xs y m in subst (λ z. cmp (key x) z ≡ Less) h.2 (c.0 h.0 h.1), rising_map xs c.1)

  map_rising : (xs : List X) → Rising cmp (map key xs) → Rising (by_key key cmp) xs
  map_rising [] c = tt
  map_rising (x ∷ xs) c = (λ y m. c.0 (key y) (in_map key xs y m), map_rising xs c.1)

-- a with each of a list that rises
rising_with : {A B : Type 0} (place : A → ℕ) (after : B → ℕ) (a : A) (bs : List B) → Rising (by_key after nat_cmp) bs →
    Rising (by_key (λ (p : A × B). (place p.0, after p.1)) (by_both nat_cmp nat_cmp)) (map (λ b. (a, b)) bs)
rising_with place after a [] c = tt
rising_with {A} {B} place after a (b ∷ bs) c = (
  λ q m.
      let h = map_in (λ (x : B). (a, x)) bs q m in
      subst (λ (r : A × B). by_both nat_cmp nat_cmp (place a, after b) (place r.0, after r.1) ≡ Less) h.2
      (ap₂ ordering_then (numbers.itself (place a)) (c.0 h.0 h.1)),
  rising_with place after a bs c.1,
)

module _ {V : Type 0} (cmp : V → V → Ordering) where
  abbrev places : Fingerprint V × Fingerprint V → ℕ × ℕ
  places p = (p.0.place, p.1.place)

  -- pairs of one fingerprint have its place
  paired_first : (a : Fingerprint V) (bs : List (Fingerprint V)) (p : Fingerprint V × Fingerprint V) → In p (paired cmp a bs) → a ≡ p.0
  paired_first a bs p m = let h = map_in (λ (b : Fingerprint V). (a, b)) (filter (λ b. is_eq (cmp b.value a.value)) bs) p m in ap (λ q. q.0) h.2

  rising_pairs : (as' bs : List (Fingerprint V)) → Rising (by_key (λ a. a.place) nat_cmp) as' → Rising (by_key (λ b. b.place) nat_cmp) bs → Rising (by_key places (by_both nat_cmp nat_cmp)) (flat_map (λ a. paired cmp a bs) as')
  rising_pairs [] bs f g = tt
  rising_pairs (a ∷ as') bs f g =
      rising_append (by_key places (by_both nat_cmp nat_cmp)) (paired cmp a bs) (flat_map (λ c. paired cmp c bs) as')
      (rising_with (λ (c : Fingerprint V). c.place) (λ (c : Fingerprint V). c.place) a _ (rising_kept (by_key (λ b. b.place) nat_cmp) (λ b. is_eq (cmp b.value a.value)) bs g))
      (rising_pairs as' bs f.1 g)
      (λ x y m n.
      let h = joined_in (λ c. paired cmp c bs) as' y n in
      let first : nat_cmp x.0.place y.0.place ≡ Less = ap₂ (λ b c. nat_cmp b.place c.place) (sym (paired_first a bs x m)) (sym (paired_first h.0 bs y h.2)) ∙ f.0 h.0 h.1 in
      ap (λ r. ordering_then r (nat_cmp x.1.place y.1.place)) first)

-- so each is counted once
module _ {V : Type 0} (S : Scheme V) (o : TotalOrder S.cmp) where
  prints_rise : (f : File) → Rising (by_key (λ a. a.place) nat_cmp) (file_prints S f)
  prints_rise f =
      let rise = map_rising (λ m. m.place) nat_cmp (print_list S f.1) (winnowed_exact S.hash o S.k (width S) (omega arith) (codes f.1)).rises in
      rising_map (filed f.0) (by_key (λ a. a.place) nat_cmp) (print_list S f.1) rise

  pub pairs_counted : (f g : File) → PairsCounted S f g
  pairs_counted f g = record {
    rises = rising_map (places S.cmp) (by_both nat_cmp nat_cmp) (pairs S f g) (rising_pairs S.cmp (file_prints S f) (file_prints S g) (prints_rise f) (prints_rise g));
    only = λ pq m. let h = map_in (places S.cmp) (pairs S f g) pq m in subst (λ (r : ℕ × ℕ). Pair S f.1 g.1 r.0 r.1) h.2 (pairs_in S o f g h.0 h.1).pair;
    every = λ pq h. in_map (places S.cmp) (pairs S f g) (print_at S f pq.0, print_at S g pq.1) (in_pairs S o f g pq.0 pq.1 h);
  }
