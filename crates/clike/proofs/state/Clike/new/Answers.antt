use Rattle.std.proofs.Common.{◌≡◌, ◌+◌, ◌≤◌, true, length, sym, ap, ◌∙◌, subst, zero-add, arith, ℕ, get_or}
use Rattle.std.specs.Option.{option_or}
use Rattle.tokens.specs.Tokens.{limit}
use Rattle.tokens.specs.Texts.{text_ending}
use Rattle.clike.specs.Texts.{text_read, text_at}
use Rattle.clike.specs.Lexemes.{lexemes}
use Rattle.clike.specs.Clikes.{tokens_of, open_fault, clike_tokens}
use Rattle.clike.specs.Covering.{EndToEnd}
use Rattle.clike.proofs.Plain.{plain}
use Rattle.clike.proofs.Chains.{chain_text, chain_end_to_end}
use Rattle.clike.proofs.Covered.{covers_once}
use Rattle.clike.proofs.Readings.{text_start, text_plain, text_short}
use Rattle.clike.proofs.state.Clike.new.Goals as goal

pub returns : goal.returns
returns c =
    let file = c.args.file.now in
    let text = text_read file in
    let start = text_start file in
    let bytes : (k : ℕ) → get_or file k 0 ≤ 255 = λ k. let byte = c.type_inv.file k in omega (arith, byte.fits) in
    let whole : plain text ≡ true = ap plain (sym start) ∙ text_plain file 0 bytes in
    let short : 0 + length text ≤ limit = omega (arith, text_short file) in
    let chain : EndToEnd 0 (clike_tokens text) (length text) = subst (EndToEnd 0 (clike_tokens text)) (zero-add (length text)) (chain_end_to_end 0 (0 + length text) (clike_tokens text) (chain_text 0 text whole short)) in
    let tokens : tokens_of 0 (lexemes (text_at file 0)) ≡ clike_tokens text = ap (λ xs. tokens_of 0 (lexemes xs)) start in
    record {
      tokens = tokens;
      ending = ap (λ xs. option_or (text_ending file 0) (open_fault 0 (lexemes xs))) start;
      chained = subst (λ ts. EndToEnd 0 ts (length text)) (sym tokens) chain;
      once = covers_once _ _ (subst (λ ts. EndToEnd 0 ts (length text)) (sym tokens) chain);
    }
