-- The table of held files, and the files that it makes of a token list. Assumes nothing.
use Rattle.std.specs.Prelude.{◌≡◌, ℕ, ◌<◌, List, [], ◌∷◌, length, take, drop, sum_by, ◌≢◌, slice_index_or}
use Rattle.tokens.specs.declared.token.Token.{Token}
use Rattle.model.specs.declared.table.Entry.{Entry}
use Rattle.model.specs.declared.table.Spot.{Spot}
use Rattle.model.specs.Files.{Files}

-- how many tokens the files have together
abbrev pub extent : List Entry → ℕ
extent es = sum_by (λ e. e.len) es

-- the files, whose tokens lie end to end in the list
abbrev pub cut : List Entry → List Token → Files
cut [] ts = []
cut (e ∷ es) ts = (e.number, take e.len ts) ∷ cut es (drop e.len ts)

-- stands past a table's end; no fact below looks there
abbrev pub no_entry : Entry
no_entry = record { number = 0; len = 0 }

-- no file has the number n
abbrev pub Absent : ℕ → List Entry → Type 0
Absent n es = (i : ℕ) → i < length es → (slice_index_or es i no_entry).number ≢ n

-- the first file of number n stands there
pub record At (n : ℕ) (es : List Entry) (p : Spot) : Type 0 where
  pub within : p.slot < length es
  pub is : (slice_index_or es p.slot no_entry).number ≡ n
  pub long : p.len ≡ (slice_index_or es p.slot no_entry).len
  pub starts : p.start ≡ extent (take p.slot es)
  pub first : (i : ℕ) → i < p.slot → (slice_index_or es i no_entry).number ≢ n
