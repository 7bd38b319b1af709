-- Worked cases of C-like files.
use Rattle.std.specs.Prelude.{◌≡◌, ℕ, [], ◌∷◌, map, length, Some, codes}
use Rattle.std.specs.Option.{option_map}
use Rattle.tokens.specs.declared.token.Token.{Token}
use Rattle.tokens.specs.declared.token.Fault.{Fault}
use Rattle.tokens.specs.Tokens.{class_number, cause_number}
use Rattle.layers.specs.Names.{named}
use Rattle.clike.specs.Clikes.{clike_tokens, clike_ending}

-- code, class, from, to
abbrev pub numbers : Token → ℕ × ℕ × ℕ × ℕ
numbers t = (t.code, class_number t.class, t.from, t.to)

-- cause, place, depth
abbrev pub fault_numbers : Fault → ℕ × ℕ × ℕ
fault_numbers f = (cause_number f.cause, f.place, f.depth)

pub record WorkedCases : Type 0 where
  pub if_ab : map numbers (named (clike_tokens (codes "if(ab)"))) ≡ (271, 4, 0, 2) ∷ ((40, 7, 2, 3) ∷ ((300, 10, 3, 5) ∷ ((41, 7, 5, 6) ∷ [])))
  pub open_tokens : length (clike_tokens (codes "a/*/")) ≡ 4
  pub open_ending : option_map fault_numbers (clike_ending (codes "a/*/")) ≡ Some (3, 1, 0)
