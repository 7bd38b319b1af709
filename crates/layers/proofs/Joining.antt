-- Names: how far one goes, and that a list with its names joined is well placed.
use Rattle.std.proofs.Common.{◌≡◌, ℕ, ◌+◌, ◌<◌, ◌≤◌, Bool, true, false, cond, ◌&&◌, leb, List, [], ◌∷◌, ◌++◌, drop, Some, None, Option, sym, refl, ap, ◌∙◌, subst, ⊎_elim, one-add, arith}
use Rattle.std.specs.List.{prefix_len}
use Rattle.std.proofs.lemmas.Bool.{cond_both, cond-true, cond-false, and_parts, and_from, and_left, and_right, leb-true, le-leb, le-ltb, lt-ltb, ltb-false, eqb-true, ne_eqb, cases_Bool}
use Rattle.tokens.specs.declared.token.Token.{Token}
use Rattle.tokens.specs.declared.token.Fault.{Fault}
use Rattle.tokens.specs.Tokens.{limit, class_number, Sound, sound, PlacedFrom}
use Rattle.layers.specs.Names.{starts_name, goes_on, too_many, name_end, whole_name, named_after, named, named_ending}
use Rattle.layers.specs.Naming.{fits_before, ahead, unless_stopped}
use Rattle.tokens.proofs.Placing.{placed_weaker, sound_from, sound_means}

-- ---- how far a name goes

-- what is known of the front of a list at which a name has come to `to`
pub record Front (to : ℕ) (ts : List Token) (n end : ℕ) (behind : List Token) : Type 0 where
  pub count : prefix_len goes_on ts ≡ n
  pub ends : name_end to ts ≡ end
  pub after : drop (prefix_len goes_on ts) ts ≡ behind

pub front_on : (to : ℕ) (t : Token) (ts : List Token) → goes_on t ≡ true → Front to (t ∷ ts) (1 + prefix_len goes_on ts) (name_end t.to ts) (drop (prefix_len goes_on ts) ts)
front_on to t ts e =
    let more : prefix_len goes_on (t ∷ ts) ≡ 1 + prefix_len goes_on ts = cond-true (goes_on t) _ _ e in
    record {
      count = more;
      ends = cond-true (goes_on t) _ _ e;
      after = ap (λ n. drop n (t ∷ ts)) (more ∙ one-add (prefix_len goes_on ts));
    }

pub front_off : (to : ℕ) (t : Token) (ts : List Token) → goes_on t ≡ false → Front to (t ∷ ts) 0 to (t ∷ ts)
front_off to t ts e =
    let none : prefix_len goes_on (t ∷ ts) ≡ 0 = cond-false (goes_on t) _ _ e in
    record { count = none; ends = cond-false (goes_on t) _ _ e; after = ap (λ n. drop n (t ∷ ts)) none }

-- ---- a token that is read ahead

pub fits_from : (reached : ℕ) (t : Token) → Sound t → t.to ≤ reached → ahead reached (Some t) ≡ t ∷ []
fits_from reached t s h = cond-true (fits_before reached t) _ _ (and_from (sound t) (leb t.to reached) (sound_from t s) (le-leb t.to reached h))

fits_means : (reached : ℕ) (t : Token) → fits_before reached t ≡ true → Sound t × (t.to ≤ reached)
fits_means reached t e = let h = and_parts (sound t) (leb t.to reached) e in (sound_means t h.0, leb-true t.to reached h.1)

-- ---- what is joined

-- a token that goes on does not start a name
not_both : (t : Token) → goes_on t ≡ true → starts_name t ≡ false
not_both t e = let three = eqb-true (class_number t.class) 3 e in ne_eqb (class_number t.class) 2 (λ two. omega arith)

-- past the tokens that go on, it does not matter whether a name came before
pub named_behind : (ts : List Token) → named_after true ts ≡ named (drop (prefix_len goes_on ts) ts)
named_behind [] = refl
named_behind (t ∷ ts) =
    let Goal : Bool → Type 0 = λ b. goes_on t ≡ b → named_after true (t ∷ ts) ≡ named (drop (prefix_len goes_on (t ∷ ts)) (t ∷ ts)) in
    let on : Goal true = λ e.
    cond-false (starts_name t) _ _ (not_both t e) ∙ cond-true (goes_on t) _ _ e ∙ named_behind ts ∙ sym (ap named (front_on 0 t ts e).after) in
    let off : Goal false = λ e.
    let start = cond (too_many ts) [] (whole_name t ts ∷ named_after true ts) in
    ap (λ b. cond (starts_name t) start (cond b (named_after true ts) (t ∷ named_after false ts))) e ∙ sym (ap named (front_off 0 t ts e).after) in
    elim (goes_on t) as Goal [ true ↦ on | false ↦ off ] refl

pub ending_behind : (depth : ℕ) (e : Option Fault) (ts : List Token) → named_ending depth ts e ≡ named_ending depth (drop (prefix_len goes_on ts) ts) e
ending_behind depth e [] = refl
ending_behind depth e (t ∷ ts) =
    let Goal : Bool → Type 0 = λ b. goes_on t ≡ b → named_ending depth (t ∷ ts) e ≡ named_ending depth (drop (prefix_len goes_on (t ∷ ts)) (t ∷ ts)) e in
    let on : Goal true = λ h.
    cond-false (starts_name t && too_many ts) _ _ (and_left _ _ (not_both t h)) ∙ ending_behind depth e ts ∙ sym (ap (λ xs. named_ending depth xs e) (front_on 0 t ts h).after) in
    let off : Goal false = λ h. sym (ap (λ xs. named_ending depth xs e) (front_off 0 t ts h).after) in
    elim (goes_on t) as Goal [ true ↦ on | false ↦ off ] refl

not_too_many : (ts : List Token) → prefix_len goes_on ts ≤ 254 → too_many ts ≡ false
not_too_many ts h = le-ltb 255 (1 + prefix_len goes_on ts) (omega arith)

pub some_end : (to end : ℕ) (ts : List Token) → prefix_len goes_on ts ≤ 254 → end ≡ name_end to ts → Some end ≡ cond (too_many ts) None (Some (name_end to ts))
some_end to end ts few e = ap Some e ∙ sym (cond-false (too_many ts) _ _ (not_too_many ts few))

pub no_end : (to : ℕ) (ts : List Token) → 254 < prefix_len goes_on ts → None ≡ cond (too_many ts) None (Some (name_end to ts))
no_end to ts many = sym (cond-true (too_many ts) _ _ (lt-ltb 255 (1 + prefix_len goes_on ts) (omega arith)))

-- where a name has an end
pub end_told : (to end : ℕ) (ts : List Token) → Some end ≡ cond (too_many ts) None (Some (name_end to ts)) → (prefix_len goes_on ts ≤ 254) × (end ≡ name_end to ts)
end_told to end ts e =
    ⊎_elim
    (λ many. let z : ◌≡◌ {A = Option ℕ} (Some end) None = e ∙ cond-true (too_many ts) _ _ many in let no : ◌≡◌ {A = ℕ} 0 1 = cc in absurd (omega arith))
    (λ few.
    let some : Some end ≡ Some (name_end to ts) = e ∙ cond-false (too_many ts) _ _ few in
    let most = ltb-false 255 (1 + prefix_len goes_on ts) few in
    (omega (arith, most), cc))
    (cases_Bool (too_many ts))

-- a name that is not too long is one token, and the list goes on behind it
pub named_joined : (t : Token) (ts : List Token) → starts_name t ≡ true → prefix_len goes_on ts ≤ 254 → named (t ∷ ts) ≡ whole_name t ts ∷ named (drop (prefix_len goes_on ts) ts)
named_joined t ts s few =
    cond-true (starts_name t) _ _ s ∙ cond-false (too_many ts) _ _ (not_too_many ts few) ∙ ap (λ xs. whole_name t ts ∷ xs) (named_behind ts)

pub ending_joined : (depth : ℕ) (e : Option Fault) (t : Token) (ts : List Token) → prefix_len goes_on ts ≤ 254 → named_ending depth (t ∷ ts) e ≡ named_ending depth (drop (prefix_len goes_on ts) ts) e
ending_joined depth e t ts few =
    cond-false (starts_name t && too_many ts) _ _ (and_right (starts_name t) (too_many ts) (not_too_many ts few)) ∙ ending_behind depth e ts

-- ---- that it is well placed

name_end_placed : (to : ℕ) (ts : List Token) → to ≤ limit → PlacedFrom to ts → (to ≤ name_end to ts) × (name_end to ts ≤ limit)
name_end_placed to [] h p = (omega arith, h)
name_end_placed to (t ∷ ts) h p =
    let after = p.1 in
    let covers = p.0.covers in
    let more = name_end_placed t.to ts p.0.within p.2 in
    cond_both (goes_on t) (name_end t.to ts) to (λ x. (to ≤ x) × (x ≤ limit)) (λ _. (omega (arith, more.0), more.1)) (λ _. (omega arith, h))

-- both at once: with what a list begins, and behind a name that has come to `to`
record PlacedJoined (ts : List Token) : Type 0 where
  pub all : (inside : Bool) (a : ℕ) → PlacedFrom a ts → PlacedFrom a (named_after inside ts)
  pub behind : (to : ℕ) → PlacedFrom to ts → PlacedFrom (name_end to ts) (named_after true ts)

placed_joined : (ts : List Token) → PlacedJoined ts
placed_joined [] = record { all = λ inside a p. tt; behind = λ to p. tt }
placed_joined (t ∷ ts) =
    let more = placed_joined ts in
    let front : (inside : Bool) (a : ℕ) → PlacedFrom a (t ∷ ts) → PlacedFrom a (named_after inside (t ∷ ts)) = λ inside a p.
    let s = p.0 in
    let after = p.1 in
    let covers = s.covers in
    let end = name_end_placed t.to ts s.within p.2 in
    let whole : Sound (whole_name t ts) = record { code_from = omega arith; code_to = omega arith; class_from = omega arith; covers = omega (arith, end.0); within = end.1 } in
    cond_both (starts_name t) (cond (too_many ts) [] (whole_name t ts ∷ named_after true ts)) (cond (inside && goes_on t) (named_after true ts) (t ∷ named_after false ts)) (PlacedFrom a)
    (λ _. cond_both (too_many ts) [] (whole_name t ts ∷ named_after true ts) (PlacedFrom a) (λ _. tt) (λ _. (whole, after, more.behind t.to p.2)))
    (λ _. cond_both (inside && goes_on t) (named_after true ts) (t ∷ named_after false ts) (PlacedFrom a)
    (λ _. placed_weaker t.to a (named_after true ts) (omega arith) (more.all true t.to p.2))
    (λ _. (s, after, more.all false t.to p.2))) in
    record {
      all = front;
      behind = λ to p.
          let Goal : Bool → Type 0 = λ b. goes_on t ≡ b → PlacedFrom (name_end to (t ∷ ts)) (named_after true (t ∷ ts)) in
          let on : Goal true = λ e.
          let list : named_after true (t ∷ ts) ≡ named_after true ts = cond-false (starts_name t) _ _ (not_both t e) ∙ cond-true (goes_on t) _ _ e in
          let end : name_end to (t ∷ ts) ≡ name_end t.to ts = cond-true (goes_on t) _ _ e in
          subst (λ x. PlacedFrom x (named_after true (t ∷ ts))) (sym end) (subst (PlacedFrom (name_end t.to ts)) (sym list) (more.behind t.to p.2)) in
          let off : Goal false = λ e.
          let end : name_end to (t ∷ ts) ≡ to = cond-false (goes_on t) _ _ e in
          subst (λ x. PlacedFrom x (named_after true (t ∷ ts))) (sym end) (front true to p) in
          elim (goes_on t) as Goal [ true ↦ on | false ↦ off ] refl;
    }

pub placed_named : (a : ℕ) (ts : List Token) → PlacedFrom a ts → PlacedFrom a (named ts)
placed_named a ts p = (placed_joined ts).all false a p

-- ---- the state of the layer

pub placed_pending : (reached : ℕ) (held : Option Token) (ts : List Token) → PlacedFrom reached ts → PlacedFrom 0 (ahead reached held ++ ts)
placed_pending reached None ts p = placed_weaker reached 0 ts (omega arith) p
placed_pending reached (Some t) ts p =
    cond_both (fits_before reached t) (t ∷ []) [] (λ xs. PlacedFrom 0 (xs ++ ts))
    (λ e. let h = fits_means reached t e in (h.0, omega arith, placed_weaker reached t.to ts h.1 p))
    (λ _. placed_weaker reached 0 ts (omega arith) p)

pub placed_unless : (stopped : Option Fault) (xs : List Token) → PlacedFrom 0 xs → PlacedFrom 0 (unless_stopped stopped xs [])
placed_unless None xs p = p
placed_unless (Some f) xs p = tt

pub going : {X : Type 0} (stopped : Option Fault) (x y : X) → stopped ≡ None → unless_stopped stopped x y ≡ x
going stopped x y e = ap (λ s. unless_stopped s x y) e
