-- How readers and layers are written.
use Rattle.std.specs.Prelude.{ℕ, ◌+◌, ◌-◌, ◌*◌, Bool, true, cond, ◌&&◌, List, [], ◌∷◌, length, take, drop, Some, None, Ok, Err, codes, fold, Option, Result, nat_le}
use Rattle.std.specs.Str.{bytes_eq}
use Rattle.tokens.specs.Bytes.{is_digit, between}
use Rattle.piles.specs.declared.pile.Reader.{Reader}
use Rattle.piles.specs.declared.pile.Reader.TheVariants.{Prose, Clike}
use Rattle.piles.specs.declared.pile.Layer.{Layer}
use Rattle.piles.specs.declared.pile.Layer.TheVariants.{Case, Drop, Names}
use Rattle.piles.specs.declared.words.Unread.{Unread}
use Rattle.piles.specs.declared.words.Unread.TheVariants.{UnknownWord, BadClass}

abbrev pub all_digits : List ℕ → Bool
all_digits [] = true
all_digits (d ∷ ds) = is_digit d && all_digits ds

abbrev pub decimal_value : List ℕ → ℕ
decimal_value ds = fold (λ n d. 10 * n + (d - 48)) 0 ds

-- the number that one to three digits write, if a byte can hold it
abbrev pub class_of : List ℕ → Option ℕ
class_of ds = cond (between 1 3 (length ds) && (all_digits ds && nat_le (decimal_value ds) 255)) (Some (decimal_value ds)) None

abbrev pub dropping : Option ℕ → Result Layer Unread
dropping None = Err BadClass
dropping (Some class) = Ok (Drop class)

-- `case`, `names`, or `drop=` and a class
abbrev pub layer_of : List ℕ → Result Layer Unread
layer_of word =
    cond (bytes_eq word (codes "case")) (Ok Case)
    (cond (bytes_eq word (codes "names")) (Ok Names)
    (cond (bytes_eq (take 5 word) (codes "drop=")) (dropping (class_of (drop 5 word)))
    (Err UnknownWord)))

-- `prose` or `clike`
abbrev pub reader_of : List ℕ → Option Reader
reader_of word = cond (bytes_eq word (codes "prose")) (Some Prose) (cond (bytes_eq word (codes "clike")) (Some Clike) None)
