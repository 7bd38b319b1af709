-- Held tells the held files, and each outcome is the defined one. Assumes nothing.
use Rattle.std.proofs.Common.{◌≡◌, ℕ, suc, leb, List, [], ◌∷◌, ◌++◌, length, Some, Ok, sym, refl, ap, ◌∙◌, subst}
use Rattle.std.specs.List.{slice_get}
use Rattle.std.proofs.lemmas.List.{length-map}
use Rattle.std.proofs.lemmas.Bool.{le-leb, lt-leb, cond-true, cond-false}
use Rattle.order.specs.Listed.{In}
use Rattle.order.proofs.Members.{in_map, map_in}
use Rattle.tokens.specs.declared.token.Token.{Token}
use Rattle.model.specs.Calls.{Asked, held, Setting, listed, numbers, padded, answer, after, held_after, outcomes}
use Rattle.model.specs.Files.{File, Files, Distinct}
use Rattle.model.proofs.Held.{unknown_in}
use Rattle.promises.specs.Counts.{EachOnce}
use Rattle.promises.specs.Holding.{HeldTold}
use Rattle.promises.specs.Promises.{Answered}

-- ---- Held

numbers_in : (fs : Files) (n : ℕ) → In n (numbers fs) → (ts : List Token) × In (n, ts) fs
numbers_in fs n m = let h = map_in (λ (f : File). f.0) fs n m in (h.0.1, subst (λ (v : ℕ). In (v, h.0.1) fs) h.2 h.1)

numbers_once : (fs : Files) → Distinct fs → EachOnce (numbers fs)
numbers_once [] d = tt
numbers_once (f ∷ fs) d = (λ m. let h = numbers_in fs f.0 m in unknown_in fs f.0 h.0 d.0 h.1, numbers_once fs d.1)

pub held_told : {V : Type 0} (st : Setting V) (fs : Files) (room : ℕ) → Distinct fs → HeldTold fs room (answer st fs (held room))
held_told st fs room d =
    record {
      short = λ l. cond-false (leb (length fs) room) _ _ (lt-leb (length fs) room l);
      enough = λ l. record {
        ns = numbers fs;
        only = numbers_in fs;
        every = λ n ts. in_map (λ (f : File). f.0) fs (n, ts);
        once = numbers_once fs d;
        is = cond-true (leb (length fs) room) _ _ (le-leb (length fs) room l) ∙ ap (λ n. listed (Ok n) (padded (numbers fs) room 0)) (sym (length-map fs (λ f. f.0)));
      };
    }

-- ---- all outcomes

module _ {V : Type 0} (st : Setting V) where
  length_outcomes : (fs : Files) (cs : List Asked) → length (outcomes st fs cs) ≡ length cs
  length_outcomes fs [] = refl
  length_outcomes fs (c ∷ cs) = ap suc (length_outcomes (after st fs c) cs)

  outcome_at : (fs : Files) (before rest : List Asked) (c : Asked) → slice_get (outcomes st fs (before ++ c ∷ rest)) (length before) ≡ Some (answer st (held_after st fs before) c)
  outcome_at fs [] rest c = refl
  outcome_at fs (b ∷ before) rest c = outcome_at (after st fs b) before rest c

  pub answered : (cs : List Asked) → Answered st cs (outcomes st [] cs)
  answered cs = record { count = length_outcomes [] cs; each = λ before rest c e. rw e (outcome_at [] before rest c) }
