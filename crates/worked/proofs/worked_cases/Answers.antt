use Rattle.std.proofs.Common.{refl}
use Rattle.clike.specs.Keywords.{keywords, keyword_number}
use Rattle.clike.specs.Lexemes.{block_comment, first_shape, lexemes_in}
use Rattle.worked.proofs.worked_cases.Goals as goal

pub returns : goal.returns
unfolding keywords keyword_number block_comment first_shape lexemes_in
returns c = (
  refl,
  record { if_ab = refl; open_tokens = refl; open_ending = refl },
  record { abcd = refl; ones = refl; two_one = refl; one_thousand = refl; winnowed = refl; fives = refl },
)
