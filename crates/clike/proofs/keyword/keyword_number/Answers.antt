use Rattle.std.proofs.Common.{rules}
use Rattle.clike.specs.Keywords.{keywords, keyword_number}
use Rattle.clike.proofs.keyword.keyword_number.Goals as goal

pub returns : goal.returns
unfolding keywords keyword_number
returns c = search (rules, c.place_among.ensures.place)
