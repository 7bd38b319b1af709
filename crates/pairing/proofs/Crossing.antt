-- The fingerprints of the reported file in a group, met one after the other.
use Rattle.std.proofs.Common.{◌≡◌, ℕ, ◌+◌, ◌<◌, List, [], ◌∷◌, ◌++◌, length, get_or, take, drop, sym, refl, ap, ◌∙◌, subst, append_assoc}
use Rattle.std.specs.List.{flat_map}
use Rattle.std.proofs.lemmas.List.{take_more, flat_map_more, take-append-drop}
use Rattle.model.specs.declared.answers.Reported.{Reported}
use Rattle.model.specs.declared.fingerprint.Fingerprint.{Fingerprint}
use Rattle.model.specs.declared.passage.Passage.{Passage}
use Rattle.model.specs.Files.{Files}
use Rattle.pairing.specs.Groups.{Pairs, with_each, crossed}
use Rattle.pairing.specs.Tallies.{Tallied, Overfull}
use Rattle.pairing.proofs.Tallying.{tallied_more, overfull_later, overfull_more}

pub joined_append : {X Y : Type 0} (f : X → List Y) (xs ys : List X) → flat_map f (xs ++ ys) ≡ flat_map f xs ++ flat_map f ys
joined_append f [] ys = refl
joined_append f (x ∷ xs) ys = ap (λ l. f x ++ l) (joined_append f xs ys) ∙ sym (append_assoc (f x) (flat_map f xs) (flat_map f ys))

module _ {V : Type 0} (k : ℕ) (fs : Files) (before own after : List (Fingerprint V)) (a : Fingerprint V) (i : ℕ) (within : i < length own) (is : a ≡ get_or own i a) {list now : List Passage} {t u : Reported} (h : Tallied k fs (crossed before (take i own) after) list t now u) where
  abbrev met : Fingerprint V → Pairs V
  met x = with_each x before ++ with_each x after

  next_own : crossed before (take (i + 1) own) after ≡ crossed before (take i own) after ++ met a
  next_own =
      ap (flat_map met) (take_more own i a within ∙ ap (λ (x : Fingerprint V). take i own ++ x ∷ []) (sym is))
      ∙ sym (flat_map_more met [] (take i own) a)

  rest_own : crossed before (take (i + 1) own) after ++ crossed before (drop (i + 1) own) after ≡ crossed before own after
  rest_own = sym (joined_append met (take (i + 1) own) (drop (i + 1) own)) ∙ ap (flat_map met) (take-append-drop (i + 1) own)

  full_here : Overfull k fs (met a) now u → Overfull k fs (crossed before own after) list t
  full_here o =
      let some : Overfull k fs (crossed before (take (i + 1) own) after) list t =
      subst (λ (ps : Pairs V). Overfull k fs ps list t) (sym next_own) (overfull_later k fs (met a) h o) in
      subst (λ (ps : Pairs V). Overfull k fs ps list t) rest_own (overfull_more k fs (crossed before (drop (i + 1) own) after) some)

  -- the list is full at those before
  pub full_before : Overfull k fs (with_each a before) now u → Overfull k fs (crossed before own after) list t
  full_before o = full_here (overfull_more k fs (with_each a after) o)

  module _ {mid : List Passage} {v : Reported} (first : Tallied k fs (with_each a before) now u mid v) where
    -- or at those after
    pub full_after : Overfull k fs (with_each a after) mid v → Overfull k fs (crossed before own after) list t
    full_after o = full_here (overfull_later k fs (with_each a after) first o)

    pub own_more : {end : List Passage} {w : Reported} → Tallied k fs (with_each a after) mid v end w → Tallied k fs (crossed before (take (i + 1) own) after) list t end w
    own_more {end} {w} second =
        subst (λ (ps : Pairs V). Tallied k fs ps list t end w) (sym next_own)
        (tallied_more k fs (met a) h (tallied_more k fs (with_each a after) first second))
