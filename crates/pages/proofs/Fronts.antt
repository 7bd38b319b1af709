-- The front of a list, as far as it goes.
use Rattle.std.proofs.Common.{◌≡◌, ℕ, ◌<◌, ◌≤◌, min, List, length, take, sym, ap, ◌∙◌, ⊎_elim, arith}
use Rattle.std.proofs.lemmas.List.{take_all}
use Rattle.std.proofs.lemmas.Bool.{cases_lt}

pub take_capped : {X : Type 0} (n m : ℕ) (xs : List X) → m ≡ min n (length xs) → take m xs ≡ take n xs
take_capped n m xs e =
    ⊎_elim (λ (l : n < length xs). let k : m ≡ n = omega arith in ap (λ i. take i xs) k)
    (λ (l : length xs ≤ n). take_all m xs (omega arith) ∙ sym (take_all n xs l)) (cases_lt n (length xs))
