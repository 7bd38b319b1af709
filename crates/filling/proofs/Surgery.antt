-- What becomes of the files of a table when a file is added or removed.
use Rattle.std.proofs.Common.{◌≡◌, ℕ, zero, suc, ◌+◌, ◌-◌, ◌<◌, ◌≤◌, true, false, eqb, List, [], ◌∷◌, ◌++◌, length, get_or, take, drop, sym, refl, ap, ◌∙◌, arith}
use Rattle.std.proofs.lemmas.List.Sums.{sum_by_push, sum_by-append}
use Rattle.std.proofs.lemmas.List.{append_assoc, drop-drop, drop-take, drop_more, take-take, take_at, drop_at, take-append-drop, length-take-le, length-drop}
use Rattle.std.proofs.lemmas.Bool.{eq-eqb, ne_eqb, both_ways}
use Rattle.tokens.specs.declared.token.Token.{Token}
use Rattle.model.specs.declared.table.Entry.{Entry}
use Rattle.model.specs.Files.{Files, known, without, Distinct}
use Rattle.model.specs.Tables.{extent, cut, no_entry}
use Rattle.model.proofs.Held.{without_none}
use Rattle.model.proofs.Tabled.{extent_cons, length_cut, known_place}

-- ---- the files of a table in two parts

pub cut_append : (xs ys : List Entry) (ts : List Token) → cut (xs ++ ys) ts ≡ cut xs ts ++ cut ys (drop (extent xs) ts)
cut_append [] ys ts = refl
cut_append (x ∷ xs) ys ts =
    ap (λ (fs : Files). (x.number, take x.len ts) ∷ fs)
    (cut_append xs ys (drop x.len ts) ∙ ap (λ (us : List Token). cut xs (drop x.len ts) ++ cut ys us) (drop-drop (extent xs) x.len ts ∙ ap (λ (n : ℕ). drop n ts) (sym (extent_cons x xs))))

-- the files depend on the first tokens alone
pub cut_front : (es : List Entry) (m : ℕ) (ts us : List Token) → extent es ≤ m → take m ts ≡ take m us → cut es ts ≡ cut es us
cut_front [] m ts us l h = refl
cut_front (e ∷ es) m ts us l h =
    let both = extent_cons e es in
    let k : e.len + (m - e.len) ≡ m = omega arith in
    let part : (vs : List Token) → take (m - e.len) (drop e.len vs) ≡ drop e.len (take m vs) = λ vs. sym (drop-take e.len (m - e.len) vs) ∙ ap (λ (n : ℕ). drop e.len (take n vs)) k in
    let here : take e.len ts ≡ take e.len us = sym (take-take e.len m ts (omega arith)) ∙ ap (take e.len) h ∙ take-take e.len m us (omega arith) in
    let there : take (m - e.len) (drop e.len ts) ≡ take (m - e.len) (drop e.len us) = part ts ∙ ap (drop e.len) h ∙ sym (part us) in
    let more = cut_front es (m - e.len) (drop e.len ts) (drop e.len us) (omega arith) there in
    cc

-- ---- a file added

pub extent_added : (es : List Entry) (e : Entry) → extent (es ++ e ∷ []) ≡ extent es + e.len
extent_added es e = sum_by_push (λ x. x.len) es e

module _ (es : List Entry) (old new ts rest : List Token) (n : ℕ) (within : extent es ≤ length old) (is : new ≡ take (extent es) old ++ (ts ++ rest)) where
  front_long : length (take (extent es) old) ≡ extent es
  front_long = length-take-le (extent es) old within

  pub cut_added : cut (es ++ (record { number = n; len = length ts }) ∷ []) new ≡ cut es old ++ (n, ts) ∷ []
  cut_added =
      let front : take (extent es) new ≡ take (extent es) old = ap (take (extent es)) is ∙ take_at (take (extent es) old) (ts ++ rest) (extent es) front_long in
      let behind : take (length ts) (drop (extent es) new) ≡ ts =
      ap (λ (us : List Token). take (length ts) (drop (extent es) us)) is ∙ ap (take (length ts)) (drop_at (take (extent es) old) (ts ++ rest) (extent es) front_long)
      ∙ take_at ts rest (length ts) refl in
      cut_append es (record { number = n; len = length ts } ∷ []) new
      ∙ ap (λ (fs : Files). fs ++ (n, take (length ts) (drop (extent es) new)) ∷ []) (cut_front es (extent es) new old (omega arith) front)
      ∙ ap (λ (us : List Token). cut es old ++ (n, us) ∷ []) behind

-- ---- the file at place i removed

module _ (es : List Entry) (i : ℕ) (l : i < length es) where
  abbrev gone : Entry
  gone = get_or es i no_entry

  abbrev start : ℕ
  start = extent (take i es)

  split : es ≡ take i es ++ get_or es i no_entry ∷ drop (i + 1) es
  split = sym (take-append-drop i es) ∙ ap (λ (xs : List Entry). take i es ++ xs) (drop_more es i no_entry l)

  in_parts : extent es ≡ extent (take i es) + ((get_or es i no_entry).len + extent (drop (i + 1) es))
  in_parts =
      ap extent split ∙ sum_by-append (λ x. x.len) (take i es) (get_or es i no_entry ∷ drop (i + 1) es)
      ∙ ap (λ (n : ℕ). extent (take i es) + n) (extent_cons (get_or es i no_entry) (drop (i + 1) es))

  pub extent_removed : extent (take i es ++ drop (i + 1) es) + (get_or es i no_entry).len ≡ extent es
  extent_removed = omega (arith, in_parts, sum_by-append (λ x. x.len) (take i es) (drop (i + 1) es))

  files_split : (old : List Token) → cut es old ≡ cut (take i es) old ++ (gone.number, take gone.len (drop start old)) ∷ cut (drop (i + 1) es) (drop (start + gone.len) old)
  files_split old =
      ap (λ (xs : List Entry). cut xs old) split ∙ cut_append (take i es) (gone ∷ drop (i + 1) es) old
      ∙ ap (λ (us : List Token). cut (take i es) old ++ (gone.number, take gone.len (drop start old)) ∷ cut (drop (i + 1) es) us) (drop-drop gone.len start old)

  files_long : (old : List Token) → length (cut (take i es) old) ≡ i
  files_long old = length_cut (take i es) old ∙ length-take-le i es (omega arith)

  files_before : (old : List Token) → take i (cut es old) ≡ cut (take i es) old
  files_before old = ap (take i) (files_split old) ∙ take_at (cut (take i es) old) _ i (files_long old)

  files_behind : (old : List Token) → drop (i + 1) (cut es old) ≡ cut (drop (i + 1) es) (drop (start + gone.len) old)
  files_behind old =
      sym (drop-drop 1 i (cut es old)) ∙ ap (λ (fs : Files). drop 1 (drop i fs)) (files_split old) ∙ ap (drop 1) (drop_at (cut (take i es) old) _ i (files_long old))

  module _ (old new more : List Token) (within : extent es ≤ length old)
      (is : new ≡ take (extent (take i es)) old ++ take (extent es - (extent (take i es) + (get_or es i no_entry).len)) (drop (extent (take i es) + (get_or es i no_entry).len) old) ++ more) where
    pub cut_removed : cut (take i es ++ drop (i + 1) es) new ≡ take i (cut es old) ++ drop (i + 1) (cut es old)
    cut_removed =
        let n : ℕ = extent es - (start + gone.len) in
        let rest : List Token = drop (start + gone.len) old in
        let all = in_parts in
        let rest-long : length (drop (start + gone.len) old) ≡ length old - (start + gone.len) = length-drop (start + gone.len) old in
        let parts : new ≡ take start old ++ (take n rest ++ more) = is ∙ append_assoc (take start old) (take n rest) more in
        let front_long : length (take start old) ≡ start = length-take-le start old (omega arith) in
        let kept-long : length (take n rest) ≡ n = length-take-le n rest (omega arith) in
        let front : take start new ≡ take start old = ap (take start) parts ∙ take_at (take start old) (take n rest ++ more) start front_long in
        let back : take n (drop start new) ≡ take n rest =
        ap (λ (us : List Token). take n (drop start us)) parts ∙ ap (take n) (drop_at (take start old) (take n rest ++ more) start front_long) ∙ take_at (take n rest) more n kept-long in
        cut_append (take i es) (drop (i + 1) es) new
        ∙ ap (λ (fs : Files). fs ++ cut (drop (i + 1) es) (drop start new)) (cut_front (take i es) start new old (omega arith) front ∙ sym (files_before old))
        ∙ ap (λ (fs : Files). take i (cut es old) ++ fs) (cut_front (drop (i + 1) es) n (drop start new) rest (omega arith) back ∙ sym (files_behind old))

-- where no number is there twice, the files without that of a place are those without its number
pub without_at : (es : List Entry) (old : List Token) (i : ℕ) → Distinct (cut es old) → i < length es → without (get_or es i no_entry).number (cut es old) ≡ take i (cut es old) ++ drop (i + 1) (cut es old)
without_at [] old i d l = absurd (omega arith)
without_at (e ∷ es) old zero d l = rw (eq-eqb e.number e.number refl) (without_none e.number (cut es (drop e.len old)) d.0)
without_at (e ∷ es) old (suc i) d l =
    let n : ℕ = (get_or es i no_entry).number in
    let here : known n (cut es (drop e.len old)) ≡ true = known_place n es (drop e.len old) i (omega arith) refl in
    let other : eqb e.number n ≡ false =
    ne_eqb e.number n (λ (q : e.number ≡ n). both_ways (known n (cut es (drop e.len old))) (ap (λ (m : ℕ). known m (cut es (drop e.len old))) (sym q) ∙ d.0) here) in
    let k : suc i + 1 ≡ suc (i + 1) = omega arith in
    rw (other, k) (ap (λ (fs : Files). (e.number, take e.len old) ∷ fs) (without_at es (drop e.len old) i d.1 (omega arith)))
