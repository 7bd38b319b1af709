use Rattle.std.proofs.Common.{◌≡◌, ◌+◌, ◌≤◌, length, get_or, drop, Ok, Err, sym, ap, ◌∙◌, arith}
use Rattle.std.proofs.lemmas.List.{take_rest}
use Rattle.std.proofs.lemmas.Bool.{ltb-true}
use Rattle.clike.specs.Lexemes.{read, comment, open_comment, mark, in_line, shape, first_shape}
use Rattle.clike.specs.Cutting.{lexeme_of, seen}
use Rattle.clike.specs.Scans.{comment_end}
use Rattle.clike.proofs.Shapes.{cuts, closed_read, open_read, line_read, slash_read}
use Rattle.clike.proofs.cutting.cut_slash.Goals as goal
use Rattle.clike.proofs.cutting.cut_slash.Goals.{in_default-via-then-bytes-lt2, in_default-via-else-bytes-lt2+in-47+in_default-1, in_default-via-else-bytes-lt2+in_default-1}

pub returns-in-Ok : goal.returns-in-Ok
returns-in-Ok c =
    let bytes = c.args.bytes.now in
    let n = c.in-Ok.n in
    let two : 2 ≤ length bytes = omega arith in
    let star : get_or bytes 1 0 ≡ 42 = omega arith in
    let end : Ok n ≡ comment_end (read (drop 2 bytes)) = sym c.in-Ok.is ∙ c.comment_end.ensures.ends ∙ ap (λ xs. comment_end (read xs)) (take_rest bytes 2) in
    let made = c.cut_at.ensures.lexeme in
    cuts bytes _ _ comment (2 + n) c.requires.some (λ z. omega arith) (closed_read bytes n two c.requires.slash star end) (ap seen made.1 ∙ ap (lexeme_of comment) made.2) c.cut_at.ensures.rest

pub returns-in-Err : goal.returns-in-Err
returns-in-Err c =
    let bytes = c.args.bytes.now in
    let n = c.in-Err.n in
    let two : 2 ≤ length bytes = omega arith in
    let star : get_or bytes 1 0 ≡ 42 = omega arith in
    let end : Err n ≡ comment_end (read (drop 2 bytes)) = sym c.in-Err.is ∙ c.comment_end.ensures.ends ∙ ap (λ xs. comment_end (read xs)) (take_rest bytes 2) in
    let made = c.cut_at-in-Err.ensures.lexeme in
    cuts bytes _ _ open_comment (2 + n) c.requires.some (λ z. omega arith) (open_read bytes n two c.requires.slash star end) (ap seen made.1 ∙ ap (lexeme_of open_comment) made.2) c.cut_at-in-Err.ensures.rest

pub returns-in-47-2 : goal.returns-in-47-2
returns-in-47-2 c =
    let bytes = c.args.bytes.now in
    let n = c.length_while.result in
    let slash : get_or bytes 1 0 ≡ 47 = omega arith in
    let made = c.cut_at-in-47-2.ensures.lexeme in
    cuts bytes _ _ comment n c.requires.some (λ z. omega arith) (line_read bytes n c.in-47-2.len_at_least c.requires.slash slash (c.length_while.ensures.count in_line (λ b r e. e)))
    (ap seen made.1 ∙ ap (lexeme_of comment) made.2) c.cut_at-in-47-2.ensures.rest

pub returns-in_default : goal.returns-in_default
returns-in_default c =
    let bytes = c.args.bytes.now in
    let pre = c.requires.slash in
    let shape_is : first_shape (get_or bytes 0 0) (read (drop 1 bytes)) ≡ shape mark 1 = elim c.in_default.branch [
      | in_default-via-then-bytes-lt2 w ↦ slash_read bytes pre (λ h. absurd (omega (arith, ltb-true))) (λ h. absurd (omega (arith, ltb-true)))
      | in_default-via-else-bytes-lt2+in-47+in_default-1 w ↦ slash_read bytes pre (λ h e. omega arith) (λ h e. omega arith)
      | in_default-via-else-bytes-lt2+in_default-1 w ↦ absurd (omega arith)
    ] in
    let made = c.cut_at-in_default.ensures.lexeme in
    cuts bytes _ _ mark 1 c.requires.some (λ z. omega arith) shape_is (ap seen made.1 ∙ ap (lexeme_of mark) made.2) c.cut_at-in_default.ensures.rest
