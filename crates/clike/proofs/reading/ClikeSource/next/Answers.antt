use Rattle.std.proofs.Common.{◌≡◌, ◌+◌, ◌-◌, ◌<◌, [], ◌∷◌, length, get_or, Some, None, Ok, Err, Option, Result, MatchOption, sym, refl, ap, ◌∙◌, subst, arith}
use Rattle.std.specs.Int.NonZero.{non_zero_usize_get}
use Rattle.std.specs.Option.{option_or}
use Rattle.tokens.specs.declared.token.Token.{Token}
use Rattle.tokens.specs.declared.token.Fault.{Fault}
use Rattle.tokens.specs.Tokens.{first, rest}
use Rattle.tokens.specs.Texts.{readable, text_ending}
use Rattle.tokens.proofs.Texts.{long_none, long_ends, past_none, past_ends, zero_none, zero_ends}
use Rattle.clike.specs.declared.state.Clike.{Clike}
use Rattle.clike.specs.Texts.{text_at}
use Rattle.clike.specs.Clikes.{byte_token}
use Rattle.clike.specs.States.{IsLeft, bytes_left, tokens_at, open_at, clike_left, ending_left, sort_further}
use Rattle.clike.proofs.Readings.{text_ends, text_inside, text_byte, some_read}
use Rattle.clike.proofs.Steps.{follows, done, ended, further_tokens, further_ending, same_left, same_ending}
use Rattle.clike.proofs.reading.ClikeSource.next.Goals as goal

-- where nothing is read nothing is taken off, and the answer is the file's own fault or that of an open comment
record Stops (s : Clike) (own : Option Fault) : Type 0 where
  pub answer : first (clike_left s) (ending_left s) ≡ first [] (option_or own s.unclosed)
  pub left : clike_left s ≡ rest (clike_left s)

stops : (s : Clike) (own : Option Fault) → readable s.file.now s.at ≡ 0 → text_ending s.file.now s.at ≡ own → Stops s own
stops s own none e =
    let text = text_at s.file.now s.at in
    let ends = text_ends s.file.now s.at none in
    let list : clike_left s ≡ [] = done text s.at s.begun ends in
    record {
      answer = ap (λ ts. first ts (ending_left s)) list ∙ ap (λ x. first [] (option_or x (open_at text s.at (bytes_left s.begun) s.unclosed))) e
          ∙ ap (λ x. first [] (option_or own x)) (ended text s.at (bytes_left s.begun) s.unclosed ends);
      left = list ∙ sym (ap rest list);
    }

pub returns-then-self-gt-LIMIT : goal.returns-then-self-gt-LIMIT
returns-then-self-gt-LIMIT c =
    let self = c.args.self.now in
    let long = c.if-self-gt-LIMIT.true in
    let end = stops self _ (long_none self.file.now self.at long) (long_ends self.file.now self.at long) in
    record { answer = ap Err c.in_file.ensures ∙ sym end.answer; left = end.left; ends = refl; stays = refl }

answered : (o : Option Fault) (r : Result (Option Token) Fault) → MatchOption o (r ≡ Ok None) (λ f. r ≡ Err f) → r ≡ first [] o
answered None r e = e
answered (Some f) r e = e

pub returns-in_default : goal.returns-in_default
returns-in_default c =
    let self = c.args.self.now in
    let short = c.if-self-gt-LIMIT.false in
    let end = stops self None (past_none self.file.now self.at short (grind arith)) (past_ends self.file.now self.at short (grind arith)) in
    record { answer = answered self.unclosed _ c.map_or.ensures ∙ sym end.answer; left = end.left; ends = refl; stays = refl }

pub returns-then-b-eq0 : goal.returns-then-b-eq0
returns-then-b-eq0 c =
    let self = c.args.self.now in
    let short = c.if-self-gt-LIMIT.false in
    let inside : self.at < length self.file.now = grind arith in
    let is : get_or self.file.now self.at 0 ≡ 0 = grind arith in
    let end = stops self _ (zero_none self.file.now self.at short inside is) (zero_ends self.file.now self.at short inside is) in
    record { answer = ap Err c.in_file-then-b-eq0.ensures ∙ sym end.answer; left = end.left; ends = refl; stays = refl }

pub returns : goal.returns
returns c =
    let self = c.args.self.now in
    let file = self.file.now in
    let at = self.at in
    let b = c.in-Some-begun.begun in
    let xs = text_at file at in
    let class = sort_further b.sort in
    let next : Clike = record { file = self.file; at = at + 1; begun = c.of-self.result; unclosed = self.unclosed; bytes = self.bytes } in
    let within : at < length file = grind arith in
    let full : get_or file at 0 ≡ 0 → ⊥ = λ z. grind arith in
    let some : 0 < non_zero_usize_get b.left = b.left.ok in
    let left : IsLeft b.sort (non_zero_usize_get b.left - 1) c.of-self.result = subst (λ n. IsLeft b.sort n c.of-self.result) (omega arith) c.of-self.ensures in
    let inside = text_inside file at c.if-self-gt-LIMIT.false within full in
    let on = follows self next 1 refl refl (some_read file at c.if-self-gt-LIMIT.false within full) in
    let started : clike_left self ≡ tokens_at xs at (Some b) = same_left self xs at (Some b) refl refl c.in-Some-begun.is in
    let list : clike_left self ≡ byte_token at class (get_or xs at 0) ∷ clike_left next = started ∙ further_tokens xs at b c.of-self.result inside some left ∙ ap (λ ts. byte_token at class (get_or xs at 0) ∷ ts) (sym (same_left next xs (at + 1) c.of-self.result on.text refl refl)) in
    let token : c.byte_token-token.result ≡ byte_token at class (get_or xs at 0) =
    c.byte_token-token.ensures ∙ ap (λ k. byte_token at k (get_or file at 0)) c.further.ensures
    ∙ ap (byte_token at class) (sym (text_byte file at c.if-self-gt-LIMIT.false within full)) in
    let own = text_ending file at in
    record {
      answer = sym (ap (λ x. first x (ending_left self)) list ∙ ap (λ t. Ok (Some t)) (sym token));
      left = sym (ap rest list);
      ends = same_ending next xs own (at + 1) c.of-self.result self.unclosed on.own on.text refl refl refl
          ∙ ap (option_or own) (further_ending xs at b c.of-self.result inside some left self.unclosed)
          ∙ sym (same_ending self xs own at (Some b) self.unclosed refl refl refl c.in-Some-begun.is refl);
      stays = refl;
    }
