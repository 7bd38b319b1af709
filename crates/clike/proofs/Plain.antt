-- Texts of bytes above 0 alone.
use Rattle.std.proofs.Common.{◌≡◌, ℕ, zero, suc, ◌<◌, Bool, true, ◌&&◌, ltb, List, [], ◌∷◌, length, get_or, take, drop, refl}
use Rattle.std.proofs.ByRecursion.{All-from_get_or, Decides-by_and}
use Rattle.std.proofs.lemmas.Bool.{and_parts, and_from, ltb-true}
use Rattle.std.proofs.lemmas.Bool.Decides.{Decides-and, Decides-ltb}

-- each number is a byte, and none is 0
abbrev pub plain : List ℕ → Bool
plain [] = true
plain (b ∷ bs) = (ltb 0 b && ltb b 256) && plain bs

pub plain_head : (b : ℕ) (bs : List ℕ) → plain (b ∷ bs) ≡ true → (0 < b) × (b < 256) × (plain bs ≡ true)
plain_head b bs e =
    let parts = and_parts (ltb 0 b && ltb b 256) (plain bs) e in
    let byte = and_parts (ltb 0 b) (ltb b 256) parts.0 in
    (ltb-true 0 b byte.0, ltb-true b 256 byte.1, parts.1)

pub plain_drop : (n : ℕ) (xs : List ℕ) → plain xs ≡ true → plain (drop n xs) ≡ true
plain_drop zero xs e = e
plain_drop (suc n) [] e = e
plain_drop (suc n) (b ∷ bs) e = plain_drop n bs (plain_head b bs e).2

pub plain_take : (n : ℕ) (xs : List ℕ) → plain xs ≡ true → plain (take n xs) ≡ true
plain_take zero xs e = refl
plain_take (suc n) [] e = refl
plain_take (suc n) (b ∷ bs) e =
    let parts = and_parts (ltb 0 b && ltb b 256) (plain bs) e in
    and_from (ltb 0 b && ltb b 256) (plain (take n bs)) parts.0 (plain_take n bs parts.1)

pub plain_from : (xs : List ℕ) → ((k : ℕ) → k < length xs → (0 < get_or xs k 0) × (get_or xs k 0 < 256)) → plain xs ≡ true
plain_from xs each =
    (Decides-by_and (λ b. ltb 0 b && ltb b 256) (λ b. (0 < b) × (b < 256)) plain
    (λ b. Decides-and (ltb 0 b) (ltb b 256) (Decides-ltb 0 b) (Decides-ltb b 256)) refl (λ _ _. refl) xs).1 (All-from_get_or (λ b. (0 < b) × (b < 256)) xs 0 each)
