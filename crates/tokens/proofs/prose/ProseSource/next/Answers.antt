use Rattle.std.proofs.Common.{◌≡◌, ◌+◌, ◌∷◌, get_or, sym, refl, ap, ◌∙◌}
use Rattle.tokens.specs.Tokens.{first, rest}
use Rattle.tokens.specs.Texts.{text_ending}
use Rattle.tokens.specs.Proses.{prose_token, prose_from}
use Rattle.tokens.proofs.Proses.{prose_more}
use Rattle.tokens.proofs.Texts.{reads_more, ends_more}
use Rattle.tokens.proofs.prose.ProseSource.next.Goals as goal

pub returns : goal.returns
returns c =
    let file = c.args.self.now.file.now in
    let i = c.args.self.now.at in
    let byte = c.in-Some.ensures.lookup.3 in
    let b = byte.1 0 in
    let some : get_or file i 0 ≡ 0 → ⊥ = λ z. c.if-b-eq0.false (b ∙ z) in
    let list : prose_from file i ≡ prose_token file i ∷ prose_from file (i + 1) = prose_more file i (reads_more file i c.if-self-gt-LIMIT.false byte.0 some) in
    let code = c.from.ensures in
    let class = c.class_at.ensures in
    record {
      answer = cc (ap (λ x. first x (text_ending file i)) list);
      left = sym (ap rest list);
      ends = ends_more file i c.if-self-gt-LIMIT.false byte.0 some;
      stays = refl;
    }
