-- The keywords of C89, in alphabetical order.
use Rattle.std.specs.Prelude.{ℕ, List, [], ◌∷◌, codes, position, Option}
use Rattle.std.specs.Str.{bytes_eq}

unfoldable pub keywords : List (List ℕ)
keywords =
    codes "auto" ∷ codes "break" ∷ codes "case" ∷ codes "char" ∷ codes "const" ∷ codes "continue" ∷ codes "default" ∷ codes "do"
    ∷ codes "double" ∷ codes "else" ∷ codes "enum" ∷ codes "extern" ∷ codes "float" ∷ codes "for" ∷ codes "goto" ∷ codes "if"
    ∷ codes "int" ∷ codes "long" ∷ codes "register" ∷ codes "return" ∷ codes "short" ∷ codes "signed" ∷ codes "sizeof" ∷ codes "static"
    ∷ codes "struct" ∷ codes "switch" ∷ codes "typedef" ∷ codes "union" ∷ codes "unsigned" ∷ codes "void" ∷ codes "volatile" ∷ codes "while" ∷ []

-- a run's number among the keywords, from 0
unfoldable pub keyword_number : List ℕ → Option ℕ
keyword_number run = position (bytes_eq run) keywords
