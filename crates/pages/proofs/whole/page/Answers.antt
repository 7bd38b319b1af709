use Rattle.std.proofs.Common.{◌≡◌, map, length, Some, vec_items, vec_len, sym, ap, ◌∙◌, arith}
use Rattle.std.specs.Option.{option_map}
use Rattle.model.specs.Calls.{shown}
use Rattle.pages.proofs.Told.{whole_page}
use Rattle.pages.proofs.whole.page.Goals as goal

pub returns : goal.returns
returns c =
    let l = c.in-Some-Some.left in
    let r = c.in-Some-Some.right in
    let m : length c.as_slice.result.now ≡ vec_len l = c.as_slice.ensures.len in
    let n : length c.as_slice-2.result.now ≡ vec_len r = c.as_slice-2.ensures.len in
    let a = c.len.ensures in
    let b = c.len-else-len-gt-MOST.ensures in
    c.in_ok-page_of.ensures
    ∙ whole_page (option_map vec_items c.args.left) (option_map vec_items c.args.right) c.as_slice.result.now c.as_slice-2.result.now (map shown (vec_items c.in_ok-answers.answers)) (ap (option_map vec_items) c.in-Some-Some.is-0 ∙ ap Some (sym c.as_slice.ensures.value)) (ap (option_map vec_items) c.in-Some-Some.is-1 ∙ ap Some (sym c.as_slice-2.ensures.value)) (omega arith) (omega arith) c.in_ok-answers.ensures
