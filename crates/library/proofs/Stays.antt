-- Calls that leave a store as it is.
use Rattle.std.proofs.Common.{◌≡◌, ℕ, ◌-◌, ◌<◌, ◌≤◌, true, false, leb, List, ◌++◌, map, length, drop, replicate, Ok, Err, Ordering, sym, refl, ap, ◌∙◌, arith, le-leb}
use borrow.Author.Tests.{lt-leb}
use Rattle.std.proofs.lemmas.List.{drop-replicate, length-map}
use Rattle.model.specs.declared.refusal.Reason.TheVariants.{HeldShort}
use Rattle.model.specs.declared.table.Entry.{Entry}
use Rattle.model.specs.Files.{File}
use Rattle.model.specs.Refusals.{plain}
use Rattle.model.specs.Calls.{Asked, Outcome, held, listed, answer, after, padded, numbers}
use Rattle.model.proofs.Tabled.{length_cut, numbers_cut}
use Rattle.library.specs.Stores.{State, Sound, Same, Kept, Step, files, setting}

module _ {V : Type 0} where
  pub kept_self : (s : State V) → Kept s s
  kept_self s = record { gram = refl; run = refl; room = refl; places = refl; tokens = refl; index = refl }

  pub same_self : (s : State V) → Same s s
  same_self s = record { tokens = refl; index = refl; table = refl; used = refl; prints = refl }

  -- a call that leaves the store, and the held files, as they are
  pub stays : (value : List ℕ → V) (cmp : V → V → Ordering) (s : State V) (c : Asked) (o : Outcome) → after (setting value cmp s) (files s) c ≡ files s → (Sound value cmp s → o ≡ answer (setting value cmp s) (files s) c) → Step value cmp s s c o
  stays value cmp s c o e h = record { told = λ q. record { answers = h q; leaves = sym e; sound = q; unchanged = λ _. same_self s }; kept = kept_self s }

  -- ---- the held numbers

  pub file_count : (s : State V) → length (files s) ≡ length s.table
  file_count s = length_cut s.table s.tokens.now

  module _ (value : List ℕ → V) (cmp : V → V → Ordering) (s : State V) (m : ℕ) (xs : List ℕ) where
    pub held_short : m < length s.table → xs ≡ replicate m 0 → Step value cmp s s (held m) (listed (Err (plain HeldShort)) xs)
    held_short l e =
        let b : leb (length (files s)) m ≡ false = lt-leb _ _ (let c = file_count s in omega arith) in
        stays value cmp s (held m) (listed (Err (plain HeldShort)) xs) refl (λ _. rw (b, e) refl)

    pub held_all : {count : ℕ} → count ≡ length s.table → length s.table ≤ m → xs ≡ map (λ (e : Entry). e.number) s.table ++ drop (length s.table) (replicate m 0) → Step value cmp s s (held m) (listed (Ok count) xs)
    held_all {count} is l e =
        let c = file_count s in
        let b : leb (length (files s)) m ≡ true = le-leb _ _ (omega arith) in
        let ns : numbers (files s) ≡ map (λ (x : Entry). x.number) s.table = numbers_cut s.table s.tokens.now in
        let n : length s.table ≡ length (numbers (files s)) = sym c ∙ sym (length-map (files s) (λ (f : File). f.0)) in
        let list : xs ≡ padded (numbers (files s)) m 0 =
        e ∙ ap (λ (z : List ℕ). map (λ (x : Entry). x.number) s.table ++ z) (drop-replicate (length s.table) m 0)
        ∙ ap (λ (z : List ℕ). z ++ replicate (m - length s.table) 0) (sym ns) ∙ ap (λ (z : ℕ). numbers (files s) ++ replicate (m - z) 0) n in
        stays value cmp s (held m) (listed (Ok count) xs) refl (λ _. rw (is, b, c, list) refl)
