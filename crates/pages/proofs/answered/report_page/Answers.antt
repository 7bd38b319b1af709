use Rattle.std.proofs.Common.{◌≡◌, ◌-◌, ◌++◌, take, vec_items, refl, ap, ◌∙◌, ap₂, arith}
use Rattle.std.specs.List.{flat_map}
use Rattle.std.proofs.lemmas.Slice.{pushed}
use Rattle.pages.specs.Pages.{counts_line, passage_line}
use Rattle.pages.proofs.Fronts.{take_capped}
use Rattle.pages.proofs.answered.report_page.Goals as goal

pub returns : goal.returns
returns c =
    let list = c.args.list.now in
    let n = c.args.counts.passages in
    let first : vec_items c.push_row.new.out ≡ counts_line c.args.counts = pushed (counts_line c.args.counts) c.new-out.ensures.items c.in_ok-push_row.was c.push_row.ensures in
    let then : vec_items c.push_passages.new.out ≡ vec_items c.push_row.new.out ++ flat_map passage_line (take (c.min-end.result - 0) list) = c.in_ok-push_passages.ensures refl in
    then ∙ ap₂ ◌++◌ first (ap (flat_map passage_line) (take_capped n (c.min-end.result - 0) list (let m = c.min-end.ensures in omega arith)))
