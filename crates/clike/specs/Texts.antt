-- What is read of a file, as a part of it.
use Rattle.std.specs.Prelude.{ℕ, ◌+◌, List, take}
use Rattle.tokens.specs.Texts.{readable}

-- the bytes before the first zero byte; nothing of a file over the limit
abbrev pub text_read : List ℕ → List ℕ
text_read file = take (readable file 0) file

-- the file up to where reading from place i on ends
abbrev pub text_at : List ℕ → ℕ → List ℕ
text_at file i = take (i + readable file i) file
