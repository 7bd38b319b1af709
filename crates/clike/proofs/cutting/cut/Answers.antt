use Rattle.std.proofs.Common.{◌≡◌, ◌+◌, ◌<◌, ◌≤◌, true, false, eqb, length, get_or, take, drop, refl, sym, ap, ◌∙◌, subst, arith}
use Rattle.std.proofs.lemmas.List.{take_rest}
use Rattle.std.proofs.lemmas.Bool.{ltb-false, both_ways}
use Rattle.std.proofs.lemmas.Bool.Decides.{nat_tests}
use Rattle.tokens.specs.Bytes.{is_blank, is_digit}
use Rattle.clike.specs.Keywords.{keyword_number}
use Rattle.clike.specs.Lexemes.{read, blank, quoted, number, mark, is_quote, begins_word, in_word, in_number, word_kind, quoted_on, shape}
use Rattle.clike.specs.Cutting.{lexeme_of, seen}
use Rattle.clike.proofs.Shapes.{cuts, blank_rule, quote_rule, word_read, number_read, mark_rule}
use Rattle.clike.proofs.cutting.cut.Goals as goal

pub returns-in-34 : goal.returns-in-34
returns-in-34 c =
    let bytes = c.args.bytes.now in
    let b = get_or bytes 0 0 in
    let some : 0 < length bytes = omega arith in
    let quote : is_quote b ≡ true = let h = c.in-34.is in grind (arith, nat_tests) in
    let ne : b ≡ 0 → ⊥ = λ z. let h = c.in-34.is in grind (arith, nat_tests) in
    let count = c.quoted_length.ensures.count ∙ ap (λ xs. quoted_on b false (read xs)) (take_rest bytes 1) in
    let made = c.cut_at.ensures.lexeme in
    cuts bytes _ _ quoted (1 + c.quoted_length.result) some ne (quote_rule b (read (drop 1 bytes)) quote ∙ ap (λ n. shape quoted (1 + n)) (sym count)) (ap seen made.1 ∙ ap (lexeme_of quoted) made.2) c.cut_at.ensures.rest

pub returns-in-A-to-Z : goal.returns-in-A-to-Z
returns-in-A-to-Z c =
    let bytes = c.args.bytes.now in
    let b = get_or bytes 0 0 in
    let n = c.length_while-in-A-to-Z.result in
    let some : 0 < length bytes = omega arith in
    let letter : begins_word b ≡ true = grind (arith, nat_tests) in
    let made = c.cut_at-in-A-to-Z.ensures.lexeme in
    cuts bytes _ _ (word_kind (keyword_number (take n bytes))) n some (λ z. both_ways (begins_word 0) refl (subst (λ x. begins_word x ≡ true) z letter))
    (word_read bytes n some letter (c.length_while-in-A-to-Z.ensures.count in_word (λ b r e. e))) (made.1 ∙ ap (λ run. lexeme_of (word_kind (keyword_number run)) run) made.2) c.cut_at-in-A-to-Z.ensures.rest

pub returns-in-0-to-9 : goal.returns-in-0-to-9
returns-in-0-to-9 c =
    let bytes = c.args.bytes.now in
    let b = get_or bytes 0 0 in
    let some : 0 < length bytes = omega (arith, ltb-false) in
    let low : 48 ≤ b = omega arith in
    let high : b ≤ 57 = omega arith in
    let run = c.length_while in
    let digit : is_digit b ≡ true = grind (arith, nat_tests) in
    let made = c.cut_at-in-0-to-9.ensures.lexeme in
    cuts bytes _ _ number run.result some (λ z. omega arith) (number_read bytes run.result some digit (run.ensures.count in_number (λ b r e. e)))
    (ap seen made.1 ∙ ap (lexeme_of number) made.2) c.cut_at-in-0-to-9.ensures.rest

pub returns-in_default-2 : goal.returns-in_default-2
returns-in_default-2 c =
    let bytes = c.args.bytes.now in
    let b = get_or bytes 0 0 in
    let some : 0 < length bytes = omega arith in
    let ne : b ≡ 0 → ⊥ = λ z. grind (arith, nat_tests) in
    let not-blank : is_blank b ≡ false = grind (arith, nat_tests) in
    let not-slash : eqb b 47 ≡ false = grind (arith, nat_tests) in
    let not-quote : is_quote b ≡ false = grind (arith, nat_tests) in
    let not-word : begins_word b ≡ false = grind (arith, nat_tests) in
    let not_digit : is_digit b ≡ false = grind (arith, nat_tests) in
    let made = c.cut_at-in_default-2.ensures.lexeme in
    cuts bytes _ _ mark 1 some ne (mark_rule b (read (drop 1 bytes)) not-blank not-slash not-quote not-word not_digit) (ap seen made.1 ∙ ap (lexeme_of mark) made.2) c.cut_at-in_default-2.ensures.rest

pub returns-in-9-to-13 : goal.returns-in-9-to-13
returns-in-9-to-13 c =
    let bytes = c.args.bytes.now in
    let b = get_or bytes 0 0 in
    let some : 0 < length bytes = omega arith in
    let is : is_blank b ≡ true = grind (arith, nat_tests) in
    let made = c.cut_at-in-9-to-13.ensures.lexeme in
    cuts bytes _ _ blank 1 some (λ z. both_ways (is_blank b) (ap is_blank z) is) (blank_rule b (read (drop 1 bytes)) is) (ap seen made.1 ∙ ap (lexeme_of blank) made.2) c.cut_at-in-9-to-13.ensures.rest
