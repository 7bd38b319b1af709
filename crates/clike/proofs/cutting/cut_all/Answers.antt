use Rattle.std.proofs.Common.{◌≡◌, [], ◌∷◌, ◌++◌, map, Some, vec_items, sym, ap, ◌∙◌}
use Rattle.std.proofs.lemmas.List.{append_assoc, append-nil, map_push}
use Rattle.clike.specs.Lexemes.{read, lexemes}
use Rattle.clike.specs.Cutting.{seen}
use Rattle.clike.proofs.Rows.{cut_more, cut_none, joined_whole}
use Rattle.clike.proofs.cutting.cut_all.Goals as goal

pub loop-list-preserved : goal.loop-list-preserved
loop-list-preserved c =
    let l = c.cut.result.0 in
    let items = vec_items c.loop-list.list in
    let new = map Some (lexemes (read c.cut.result.1.now)) in
    let split = (cut_more c.loop-list.left.now c.cut.result.1.now l c.cut.ensures c.in_default.not-Nothing).0 in
    ap (λ xs. map seen xs ++ new) c.in_ok-push.ensures.items ∙ ap (λ xs. xs ++ new) (map_push seen items l) ∙ append_assoc (map seen items) (seen l ∷ []) new
    ∙ ap (λ xs. map seen items ++ xs) (sym split) ∙ c.loop-list.invariant

pub returns-in-Nothing : goal.returns-in-Nothing
returns-in-Nothing c =
    let items = vec_items c.loop-list.list in
    let none = cut_none c.loop-list.left.now c.cut.result.1.now c.cut.result.0 c.cut.ensures c.in-Nothing.is in
    let all : map seen items ≡ map Some (lexemes (read c.args.bytes.now)) = sym (append-nil (map seen items)) ∙ ap (λ xs. map seen items ++ xs) (sym none) ∙ c.loop-list.invariant in
    record { lexemes = all; whole = joined_whole items (read c.args.bytes.now) all }
