use Rattle.std.proofs.Common.{◌≡◌, ℕ, ◌+◌, ◌-◌, ◌<◌, ◌≤◌, List, ◌∷◌, length, get_or, take, drop, Some, None, Option, sym, refl, ap, ◌∙◌, arith}
use Rattle.std.proofs.lemmas.List.{take_rest, length-take}
use Rattle.std.specs.Option.{option_or}
use Rattle.tokens.specs.declared.token.Class.TheVariants.{Comment}
use Rattle.tokens.specs.declared.token.Cause.TheVariants.{OpenComment}
use Rattle.tokens.specs.declared.token.Token.{Token}
use Rattle.tokens.specs.declared.token.Fault.{Fault}
use Rattle.tokens.specs.Texts.{readable, file_fault}
use Rattle.clike.specs.Texts.{text_at}
use Rattle.clike.specs.declared.lexeme.Lexeme.{Lexeme}
use Rattle.clike.specs.declared.state.Clike.{Clike}
use Rattle.clike.specs.declared.state.Sort.{Sort}
use Rattle.clike.specs.declared.state.Sort.TheVariants as sort
use Rattle.clike.specs.Lexemes.{Kind, Piece, read, blank, comment, open_comment, quoted, name, keyword, number, mark, first_lexeme}
use Rattle.clike.specs.Cutting.{lexeme_of, seen}
use Rattle.clike.specs.Clikes.{byte_token, spelled, kind_tokens, keyword_token, fault_of}
use Rattle.clike.specs.States.{sort_first, sort_further, IsLeft, NextByte, clike_left, ending_left}
use Rattle.clike.proofs.Readings.{text_read_on, some_read, text_inside, text_byte, text_length}
use Rattle.clike.proofs.Steps.{follows, lexeme_at, some_lexeme, spell_token, spell_ends, open_ends, keyword_step}
use Rattle.clike.proofs.state.Clike.begin.Goals as goal

-- what is required, and what the cut says: a lexeme that is seen as p begins at the next byte
record Begins (a : Clike) (p : Option Piece) : Type 0 where
  pub byte : NextByte a.file.now a.at
  pub some : get_or a.file.now a.at 0 ≡ 0 → ⊥
  pub new : a.begun ≡ None
  pub cut : p ≡ first_lexeme (drop a.at (text_at a.file.now a.at))

begins : (a : Clike) (p : Option Piece) (l : Lexeme) → NextByte a.file.now a.at → (get_or a.file.now a.at 0 ≡ 0 → ⊥) → a.begun ≡ None
    → seen l ≡ p → seen l ≡ first_lexeme (read (take (length a.file.now - a.at) (drop a.at a.file.now))) → Begins a p
begins a p l byte some new is cut =
    record { byte = byte; some = some; new = new; cut = sym is ∙ cut ∙ ap (λ xs. first_lexeme (read xs)) (take_rest a.file.now a.at) ∙ ap first_lexeme (text_read_on a.file.now a.at byte.short) }

inside : (a : Clike) (p : Option Piece) → Begins a p → a.at < length (text_at a.file.now a.at)
inside a p g = text_inside a.file.now a.at g.byte.short g.byte.within g.some

-- a lexeme that gives one token a byte: its first token, what is left, and the ending
spell_step : (a b : Clike) (r : Token) (k : Kind) (s : Sort) (run : List ℕ) → Begins a (lexeme_of k run)
    → ((at : ℕ) → kind_tokens at k run ≡ spelled at (sort_first s) (sort_further s) run)
    → b.file ≡ a.file → b.at ≡ a.at + 1 → IsLeft s (length run - 1) b.begun → r ≡ byte_token a.at (sort_first s) (get_or a.file.now a.at 0)
    → (clike_left a ≡ r ∷ clike_left b)
    × (((e : Option Fault) → fault_of a.at k e ≡ e) → b.unclosed ≡ a.unclosed → ending_left b ≡ ending_left a)
    × (k ≡ open_comment → b.unclosed ≡ option_or a.unclosed (Some (file_fault OpenComment a.at)) → ending_left b ≡ ending_left a)
spell_step a b r k s run g spells file at left token =
    let in-text = inside a (lexeme_of k run) g in
    let on = follows a b 1 file at (some_read a.file.now a.at g.byte.short g.byte.within g.some) in
    let byte = token ∙ ap (byte_token a.at (sort_first s)) (sym (text_byte a.file.now a.at g.byte.short g.byte.within g.some)) in (
      spell_token a b r k s run in-text g.new g.cut on left (spells a.at) byte,
      spell_ends a b r k s run in-text g.new g.cut on left,
      open_ends a b r k s run in-text g.new g.cut on left,
    )

pub unreachable-requires : goal.unreachable-requires
unreachable-requires c =
    let self = c.args.self.now in
    let g = begins self None _ c.requires.byte c.requires.some c.requires.new (ap seen c.in-Nothing.is) c.cut.ensures.first in
    some_lexeme (text_at self.file.now self.at) self.at (inside self None g) g.cut

pub returns-in-Blank : goal.returns-in-Blank
returns-in-Blank c =
    let self = c.args.self.now in
    let g = begins self _ _ c.requires.byte c.requires.some c.requires.new (ap seen c.in-Blank.is) c.cut.ensures.first in
    let e = c.spell.ensures in
    let step = spell_step self c.spell.new.self c.spell.result blank sort.Blank _ g (λ _. refl) e.file e.at e.left e.token in
    record { token = step.0; ends = step.1 (λ _. refl) e.unclosed }

pub returns-in-Comment : goal.returns-in-Comment
returns-in-Comment c =
    let self = c.args.self.now in
    let g = begins self _ _ c.requires.byte c.requires.some c.requires.new (ap seen c.in-Comment.is) c.cut.ensures.first in
    let e = c.spell-in-Comment.ensures in
    let step = spell_step self c.spell-in-Comment.new.self c.spell-in-Comment.result comment sort.Comment _ g (λ _. refl) e.file e.at e.left e.token in
    record { token = step.0; ends = step.1 (λ _. refl) e.unclosed }

pub returns-in-Quoted : goal.returns-in-Quoted
returns-in-Quoted c =
    let self = c.args.self.now in
    let g = begins self _ _ c.requires.byte c.requires.some c.requires.new (ap seen c.in-Quoted.is) c.cut.ensures.first in
    let e = c.spell-in-Quoted.ensures in
    let step = spell_step self c.spell-in-Quoted.new.self c.spell-in-Quoted.result quoted sort.Quoted _ g (λ _. refl) e.file e.at e.left e.token in
    record { token = step.0; ends = step.1 (λ _. refl) e.unclosed }

pub returns-in-Name : goal.returns-in-Name
returns-in-Name c =
    let self = c.args.self.now in
    let g = begins self _ _ c.requires.byte c.requires.some c.requires.new (ap seen c.in-Name.is) c.cut.ensures.first in
    let e = c.spell-in-Name.ensures in
    let step = spell_step self c.spell-in-Name.new.self c.spell-in-Name.result name sort.Name _ g (λ _. refl) e.file e.at e.left e.token in
    record { token = step.0; ends = step.1 (λ _. refl) e.unclosed }

pub returns-in-Number : goal.returns-in-Number
returns-in-Number c =
    let self = c.args.self.now in
    let g = begins self _ _ c.requires.byte c.requires.some c.requires.new (ap seen c.in-Number.is) c.cut.ensures.first in
    let e = c.spell-in-Number.ensures in
    let step = spell_step self c.spell-in-Number.new.self c.spell-in-Number.result number sort.Number _ g (λ _. refl) e.file e.at e.left e.token in
    record { token = step.0; ends = step.1 (λ _. refl) e.unclosed }

pub returns-in-Mark : goal.returns-in-Mark
returns-in-Mark c =
    let self = c.args.self.now in
    let g = begins self _ _ c.requires.byte c.requires.some c.requires.new (ap seen c.in-Mark.is) c.cut.ensures.first in
    let e = c.spell-in-Mark.ensures in
    let step = spell_step self c.spell-in-Mark.new.self c.spell-in-Mark.result mark sort.Mark _ g (λ _. refl) e.file e.at e.left e.token in
    record { token = step.0; ends = step.1 (λ _. refl) e.unclosed }

pub returns-in-OpenComment : goal.returns-in-OpenComment
returns-in-OpenComment c =
    let self = c.args.self.now in
    let g = begins self _ _ c.requires.byte c.requires.some c.requires.new (ap seen c.in-OpenComment.is) c.cut.ensures.first in
    let e = c.spell-in-OpenComment.ensures in
    let f = c.note_open.ensures in
    let token = e.token ∙ ap (λ n. byte_token n Comment (get_or c.note_open.new.self.file.now n 0)) f.at ∙ ap (λ x. byte_token self.at Comment (get_or x.now self.at 0)) f.file in
    let step = spell_step self c.spell-in-OpenComment.new.self c.spell-in-OpenComment.result open_comment sort.Comment _ g (λ _. refl) (e.file ∙ f.file) (e.at ∙ ap (λ n. n + 1) f.at) e.left token in
    record { token = step.0; ends = step.2 refl (e.unclosed ∙ f.unclosed) }

pub overflow_cast-result-in-Keyword : goal.overflow_cast-result-in-Keyword
overflow_cast-result-in-Keyword c =
    let self = c.args.self.now in
    let file = self.file.now in
    let run = c.in-Keyword.run'.now in
    let g = begins self _ _ c.requires.byte c.requires.some c.requires.new (ap seen c.in-Keyword.is) c.cut.ensures.first in
    let fits = (lexeme_at (text_at file self.at) self.at (keyword c.in-Keyword.number) run (inside self _ g) g.cut).fits in
    let most = length-take (self.at + readable file self.at) file in
    let within : length file ≤ 1048576 = c.requires.byte.short in
    omega (arith, fits, most, within)

pub returns-in-Keyword : goal.returns-in-Keyword
returns-in-Keyword c =
    let self = c.args.self.now in
    let file = self.file.now in
    let run = c.in-Keyword.run'.now in
    let next : Clike = record { file = self.file; at = self.at + length run; begun = self.begun; unclosed = self.unclosed; bytes = self.bytes } in
    let g = begins self _ _ c.requires.byte c.requires.some c.requires.new (ap seen c.in-Keyword.is) c.cut.ensures.first in
    let fits = (lexeme_at (text_at file self.at) self.at (keyword c.in-Keyword.number) run (inside self _ g) g.cut).fits in
    let size = text_length file self.at (some_read file self.at c.requires.byte.short c.requires.byte.within c.requires.some) in
    let few : length run ≤ readable file self.at = omega (arith, fits, size) in
    let step = keyword_step self next c.in-Keyword.number run (inside self _ g) c.requires.new g.cut (follows self next (length run) refl refl few) refl refl in
    record { token = step.0 ∙ ap (λ n. keyword_token self.at n (length run) ∷ clike_left next) (sym c.from.ensures); ends = step.1 }
