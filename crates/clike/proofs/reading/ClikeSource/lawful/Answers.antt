use Rattle.std.proofs.Common.{◌≡◌, ℕ, ◌≤◌, true, List, length, drop, Some, None, Option, sym, subst, ⊎_elim, add-zero, arith}
use Rattle.std.proofs.lemmas.Bool.{cases_eq}
use Rattle.std.specs.Int.NonZero.{non_zero_usize_get}
use Rattle.tokens.specs.declared.token.Class.TheVariants as class
use Rattle.tokens.specs.Tokens.{limit, class_number, Placed}
use Rattle.tokens.specs.Texts.{readable}
use Rattle.tokens.proofs.Texts.{reads_within}
use Rattle.clike.specs.Texts.{text_at}
use Rattle.clike.specs.declared.state.Sort.{Sort}
use Rattle.clike.specs.declared.state.Sort.TheVariants.{Blank, Comment, Quoted, Name, Number, Mark}
use Rattle.clike.specs.declared.state.Begun.{Begun}
use Rattle.clike.specs.Lexemes.{lexemes}
use Rattle.clike.specs.Clikes.{tokens_of}
use Rattle.clike.specs.States.{sort_further, tokens_at}
use Rattle.clike.proofs.Plain.{plain}
use Rattle.clike.proofs.Chains.{placed_at}
use Rattle.clike.proofs.Readings.{text_plain, text_ends, text_length}
use Rattle.clike.proofs.Steps.{done}
use Rattle.clike.proofs.reading.ClikeSource.lawful.Goals as goal

classed : (s : Sort) → 1 ≤ class_number (sort_further s)
classed Blank = omega arith
classed Comment = omega arith
classed Quoted = omega arith
classed Name = omega arith
classed Number = omega arith
classed Mark = omega arith

placed : (text : List ℕ) (at : ℕ) (begun : Option Begun) → plain (drop at text) ≡ true → length text ≤ limit → Placed (tokens_at text at begun)
placed text at None p short = subst (λ n. Placed (tokens_of n (lexemes (drop n text)))) (add-zero at) (placed_at text at 0 class.Blank (omega arith) p short)
placed text at (Some b) p short = placed_at text at (non_zero_usize_get b.left) (sort_further b.sort) (classed b.sort) p short

pub returns-clause-placed : goal.returns-clause-placed
returns-clause-placed c =
    let self = c.args.self.now in
    let file = self.file.now in
    let at = self.at in
    let text = text_at file at in
    ⊎_elim
    (λ none. subst Placed (sym (done text at self.begun (text_ends file at none))) tt)
    (λ ne.
    let within = reads_within file at (omega (arith, ne)) in
    let size = text_length file at (omega (arith, ne)) in
    let short : length text ≤ limit = omega (arith, size, within.0, within.1) in
    placed text at self.begun (text_plain file at self.bytes) short)
    (cases_eq (readable file at) 0)
