-- Outcomes that are answered one by one are the defined ones.
use Rattle.std.proofs.Common.{◌≡◌, ℕ, ◌≤◌, Bool, false, cond, ◌||◌, ltb, List, [], ◌∷◌, ◌++◌, length, Some, Option, sym, refl, ap, ◌∙◌, ap₂, arith, le-ltb}
use Rattle.std.specs.List.{slice_get}
use Rattle.prints.specs.Hashes.{polynomial}
use Rattle.model.specs.declared.refusal.Reason.TheVariants.{FileUnread}
use Rattle.model.specs.Files.{Files}
use Rattle.model.specs.Refusals.{plain}
use Rattle.model.specs.Calls.{Setting, Asked, Outcome, answer, after, held_after, outcomes}
use Rattle.library.specs.Running.{setting_over}
use Rattle.promises.specs.Promises.{Answered}
use Rattle.pages.specs.Pages.{plan, calls, refusal_line, lines, unread, bytes, page}
use Rattle.std.specs.Ordering.{nat_cmp}

all_outcomes : {V : Type 0} (st : Setting V) (fs : Files) (cs : List Asked) (os : List Outcome) → length os ≡ length cs →
    ((before rest : List Asked) (c : Asked) → cs ≡ before ++ c ∷ rest → slice_get os (length before) ≡ Some (answer st (held_after st fs before) c)) → os ≡ outcomes st fs cs
all_outcomes st fs [] [] n h = refl
all_outcomes st fs [] (o ∷ os) n h = absurd (omega arith)
all_outcomes st fs (c ∷ cs) [] n h = absurd (omega arith)
all_outcomes st fs (c ∷ cs) (o ∷ os) n h =
    let first : o ≡ answer st fs c = let e : Some o ≡ Some (answer st fs c) = h [] cs c refl in cc in
    ap₂ ◌∷◌ first (all_outcomes st (after st fs c) cs os (omega arith) (λ before rest d e. h (c ∷ before) rest d (ap (λ (xs : List Asked). c ∷ xs) e)))

pub told : (left right : List ℕ) (k t m n : ℕ) (cs : List Asked) (os : List Outcome) → k ≡ 3 → t ≡ 5 → m ≡ 4096 → n ≡ 4096 → cs ≡ calls left right → Answered (setting_over polynomial nat_cmp k t m n) cs os → os ≡ outcomes plan [] (calls left right)
told left right k t m n cs os a b c d e h =
    let h' : Answered plan (calls left right) os = rw (a, b, c, d, e) at h in
    all_outcomes plan [] (calls left right) os h'.count h'.each

-- where both files are read, the page is that of what was answered
pub whole_page : (l r : Option (List ℕ)) (x y : List ℕ) (os : List Outcome) → l ≡ Some x → r ≡ Some y → length x ≤ 2048 → length y ≤ 2048 → os ≡ outcomes plan [] (calls x y) → lines os ≡ page l r
whole_page l r x y os a b m n e =
    let p : ltb 2048 (length x) ≡ false = le-ltb _ _ m in
    let q : ltb 2048 (length y) ≡ false = le-ltb _ _ n in
    let u : unread l ≡ false = ap unread a ∙ p in
    let v : unread r ≡ false = ap unread b ∙ q in
    let w : (unread l || unread r) ≡ false = ap₂ ◌||◌ u v in
    let read : outcomes plan [] (calls x y) ≡ outcomes plan [] (calls (bytes l) (bytes r)) = ap₂ (λ (s t : List ℕ). outcomes plan [] (calls s t)) (ap bytes (sym a)) (ap bytes (sym b)) in
    ap lines (e ∙ read) ∙ sym (ap (λ (c : Bool). cond c (refusal_line (plain FileUnread)) (lines (outcomes plan [] (calls (bytes l) (bytes r))))) w)
