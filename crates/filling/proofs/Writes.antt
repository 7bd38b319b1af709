-- A list written into another from its first entry on.
use Rattle.std.proofs.Common.{◌≡◌, ℕ, ◌+◌, ◌-◌, ◌<◌, ◌≤◌, List, [], ◌∷◌, ◌++◌, map, length, get_or, take, drop, set, replicate, sym, refl, ap, ◌∙◌, subst, inl, arith}
use Rattle.std.proofs.lemmas.List.{append_assoc, append-nil, length-append, length_push, length-map, length-drop, take_rest, drop_all, drop_more, set_at, map_push}
use Rattle.order.specs.Listed.{In}
use Rattle.order.proofs.Joins.{in_right}
use borrow.Rule.Slice.PartMut.{put_mid}

-- one entry more behind those that are written
pub write_more : {X : Type 0} (front xs : List X) (i : ℕ) (x : X) → length front ≡ i → i < length xs → set (front ++ drop i xs) i x ≡ front ++ x ∷ [] ++ drop (i + 1) xs
write_more front xs i x n l =
    ap (λ (ys : List _). set (front ++ ys) i x) (drop_more xs i x l) ∙ set_at front (get_or xs i x) (drop (i + 1) xs) x i n
    ∙ sym (append_assoc front (x ∷ []) (drop (i + 1) xs))

-- what f makes of those of `all` before `left` stands in the first n entries
pub record Underway {X Y : Type 0} (f : X → Y) (before now : List Y) (all left : List X) (n : ℕ) : Type 0 where
  pub done : List X
  pub split : done ++ left ≡ all
  pub reach : length done ≡ n
  pub fits : n ≤ length before
  pub parts : now ≡ map f done ++ drop n before

module _ {X Y : Type 0} {f : X → Y} {before now : List Y} {all left : List X} {n : ℕ} (h : Underway f before now all left n) where
  pub underway_long : length now ≡ length before
  underway_long =
      let a = ap length h.parts ∙ length-append (map f h.done) (drop n before) in
      let b = length-map h.done f in
      let c = length-drop n before in
      let d = h.reach in
      let e = h.fits in
      omega arith

  pub underway_count : n + length left ≡ length all
  underway_count = let a = sym (length-append h.done left) ∙ ap length h.split in let b = h.reach in omega arith

  pub one_more : {x : X} {more : List X} → left ≡ x ∷ more → n < length before → Underway f before (set now n (f x)) all more (n + 1)
  one_more {x} {more} e l =
      record {
        done = h.done ++ x ∷ [];
        split = append_assoc h.done (x ∷ []) more ∙ ap (λ (xs : List X). h.done ++ xs) (sym e) ∙ h.split;
        reach = length_push h.done x ∙ ap (λ (k : ℕ). k + 1) h.reach;
        fits = omega arith;
        parts =
            ap (λ (ys : List Y). set ys n (f x)) h.parts ∙ write_more (map f h.done) before n (f x) (length-map h.done f ∙ h.reach) l
            ∙ ap (λ (ys : List Y). ys ++ drop (n + 1) before) (sym (map_push f h.done x));
      }

  -- the next one is one of all
  pub next_in : {x : X} {more : List X} → left ≡ x ∷ more → In x all
  next_in {x} {more} e = subst (In x) (ap (λ (xs : List X). h.done ++ xs) (sym e) ∙ h.split) (in_right h.done (x ∷ more) x (inl refl))

  module _ (none : left ≡ []) where
    done_all : h.done ≡ all
    done_all = sym (append-nil h.done) ∙ ap (λ (xs : List X). h.done ++ xs) (sym none) ∙ h.split

    pub finished_count : n ≡ length all
    finished_count = sym h.reach ∙ ap length done_all

    pub finished : now ≡ map f all ++ drop (length all) before
    finished = h.parts ∙ ap (λ (xs : List X). map f xs ++ drop n before) done_all ∙ ap (λ (k : ℕ). map f all ++ drop k before) finished_count

-- all entries from `from` on hold x
pub rest_filled : {X : Type 0} (xs ys : List X) (from : ℕ) (x : X) → from ≤ length xs → ys ≡ replicate (length (take (length xs - from) (drop from xs))) x → put_mid from (length xs - from) xs ys ≡ take from xs ++ replicate (length xs - from) x
rest_filled {X} xs ys from x l e =
    let n : length (take (length xs - from) (drop from xs)) ≡ length xs - from = ap length (take_rest xs from) ∙ length-drop from xs in
    let none : drop (length xs - from) (drop from xs) ≡ [] = drop_all (length xs - from) (drop from xs) (let m = length-drop from xs in omega arith) in
    ap (λ (zs : List X). take from xs ++ (ys ++ zs)) none ∙ ap (λ (zs : List X). take from xs ++ zs) (append-nil ys ∙ e ∙ ap (λ (k : ℕ). replicate k x) n)
