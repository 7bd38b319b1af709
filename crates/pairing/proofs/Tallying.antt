-- Pairs that are met one after the other.
use Rattle.std.proofs.Common.{◌≡◌, ℕ, ◌+◌, ◌-◌, ◌^◌, ◌<◌, ◌≤◌, min, true, false, not, List, [], ◌∷◌, ◌++◌, map, length, get_or, take, drop, filter, Ordering, Less, Equal, Greater, sym, refl, ap, ◌∙◌, subst, inl, inr, ⊎_elim, arith}
use mathlib.Core.List.{map-append}
use Rattle.std.proofs.lemmas.List.{length-append, length-take-le, get_or-take, drop-drop, map_more, take-append-drop}
use Rattle.std.proofs.lemmas.List.Elements.{filter-append}
use Rattle.order.specs.Total.{TotalOrder}
use Rattle.order.specs.Listed.{In}
use Rattle.order.specs.Compared.{by_answer}
use Rattle.order.proofs.Members.{kept_few}
use Rattle.order.proofs.Bridges.{in_at}
use Rattle.order.proofs.Joins.{append_in, in_left, in_right}
use Rattle.tokens.specs.declared.token.Token.{Token}
use Rattle.runs.specs.Shares.{gram_same}
use Rattle.ordered.specs.Edited.{PutIn, Already, Missed}
use Rattle.model.specs.declared.answers.Reported.{Reported}
use Rattle.model.specs.declared.fingerprint.Fingerprint.{Fingerprint}
use Rattle.model.specs.declared.passage.Passage.{Passage}
use Rattle.model.specs.Files.{Files, tokens_of}
use Rattle.model.specs.Gathering.{put}
use Rattle.model.specs.Passages.{by_eight, passage, grown, alike, around, marked, differing}
use Rattle.model.specs.Totals.{eight_total}
use Rattle.model.proofs.Gathers.{put_only, put_rises}
use Rattle.pairing.specs.Groups.{Pairs, with_each}
use Rattle.pairing.specs.Tallies.{Ready, Due, Tallied, Overfull}

-- what is put in where it is not yet makes the list longer
put_longer : {X : Type 0} {cmp : X → X → Ordering} (o : TotalOrder cmp) (x : X) (ys : List X) → (In x ys → ⊥) → length (put cmp x ys) ≡ length ys + 1
put_longer o x [] h = refl
put_longer {X} {cmp} o x (y ∷ ys) h =
    by_answer (cmp x y) (λ (e : cmp x y ≡ Less). rw e (omega arith)) (λ (e : cmp x y ≡ Equal). absurd (h (inl (sym (o.equal x y e)))))
    (λ (e : cmp x y ≡ Greater). rw e (let l = put_longer o x ys (λ i. h (inr i)) in omega arith))

-- lists that are the same from u on are the same from further on
drop_further : {X : Type 0} (u v : ℕ) (xs ys : List X) → u ≤ v → drop u xs ≡ drop u ys → drop v xs ≡ drop v ys
drop_further {X} u v xs ys l e =
    let s : v ≡ u + (v - u) = omega arith in
    ap (λ (n : ℕ). drop n xs) s ∙ sym (drop-drop (v - u) u xs) ∙ ap (drop (v - u)) e ∙ drop-drop (v - u) u ys ∙ ap (λ (n : ℕ). drop n ys) (sym s)

module _ {V : Type 0} (k : ℕ) (fs : Files) where
  marked_append : (ps qs : Pairs V) → marked k fs (ps ++ qs) ≡ marked k fs ps ++ marked k fs qs
  marked_append ps qs = ap (map (around k fs)) (filter-append (alike k fs) ps qs) ∙ map-append (around k fs) (filter (alike k fs) ps) (filter (alike k fs) qs)

  differing_append : (ps qs : Pairs V) → differing k fs (ps ++ qs) ≡ differing k fs ps + differing k fs qs
  differing_append ps qs =
      ap length (filter-append (λ (p : Fingerprint V × Fingerprint V). not (alike k fs p)) ps qs)
      ∙ length-append (filter (λ (p : Fingerprint V × Fingerprint V). not (alike k fs p)) ps) (filter (λ (p : Fingerprint V × Fingerprint V). not (alike k fs p)) qs)

  differing_few : (ps : Pairs V) → differing k fs ps ≤ length ps
  differing_few ps = kept_few (λ (p : Fingerprint V × Fingerprint V). not (alike k fs p)) ps

  pub tallied_none : (list : List Passage) (t : Reported) → Ready list t → Tallied {V = V} k fs [] list t list t
  tallied_none list t h =
      record {
        met = λ l. omega arith;
        differ = λ l. omega arith;
        more = omega arith;
        room = h.room;
        long = refl;
        rest = refl;
        lists = record { rises = h.rises; only = λ x m. inl m; every = λ x m. ⊎_elim (λ (i : In x (take t.passages list)). i) (λ (i : ⊥). absurd i) m };
      }

  pub ready_after : {ps : Pairs V} {list after : List Passage} {t u : Reported} → Tallied k fs ps list t after u → Ready after u
  ready_after h = record { room = let a = h.room in let b = h.long in omega arith; rises = h.lists.rises }

  module _ {ps : Pairs V} (qs : Pairs V) {list after : List Passage} {t u : Reported} (h : Tallied k fs ps list t after u) where
    -- what is due after the first pairs is due after all
    due_later : (x : Passage) → Due k fs qs after u x → Due k fs (ps ++ qs) list t x
    due_later x m =
        ⊎_elim
        (λ (i : In x (take u.passages after)).
        ⊎_elim (λ (a : In x (take t.passages list)). inl a) (λ (b : In x (marked k fs ps)). inr (subst (In x) (sym (marked_append ps qs)) (in_left (marked k fs ps) (marked k fs qs) x b))) (h.lists.only x i))
        (λ (j : In x (marked k fs qs)). inr (subst (In x) (sym (marked_append ps qs)) (in_right (marked k fs ps) (marked k fs qs) x j)))
        m

    due_sooner : (x : Passage) → Due k fs (ps ++ qs) list t x → Due k fs qs after u x
    due_sooner x m =
        ⊎_elim
        (λ (a : In x (take t.passages list)). inl (h.lists.every x (inl a)))
        (λ (j : In x (marked k fs (ps ++ qs))).
        ⊎_elim (λ (b : In x (marked k fs ps)). inl (h.lists.every x (inr b))) (λ (b : In x (marked k fs qs)). inr b)
        (append_in (marked k fs ps) (marked k fs qs) x (subst (In x) (marked_append ps qs) j)))
        m

    pub tallied_more : {end : List Passage} {v : Reported} → Tallied k fs qs after u end v → Tallied k fs (ps ++ qs) list t end v
    tallied_more {end} {v} g =
        let n = length-append ps qs in
        let d = differing_append ps qs in
        let f = differing_few ps in
        record {
          met = λ l. let a = h.met (omega arith) in let b = g.met (omega arith) in omega arith;
          differ = λ l. let a = h.differ (omega arith) in let b = g.differ (omega arith) in omega arith;
          more = let a = h.more in let b = g.more in omega arith;
          room = let a = h.long in let b = g.room in omega arith;
          long = g.long ∙ h.long;
          rest = g.rest ∙ drop_further u.passages v.passages after list g.more h.rest;
          lists = record { rises = g.lists.rises; only = λ x m. due_later x (g.lists.only x m); every = λ x m. g.lists.every x (due_sooner x m) };
        }

    pub overfull_later : Overfull k fs qs after u → Overfull k fs (ps ++ qs) list t
    overfull_later g =
        record { due = g.due; many = let a = h.long in let b = g.many in omega arith; rises = g.rises; only = λ x m. due_later x (g.only x m) }

  pub overfull_more : {ps : Pairs V} (qs : Pairs V) {list : List Passage} {t : Reported} → Overfull k fs ps list t → Overfull k fs (ps ++ qs) list t
  overfull_more {ps} qs {list} {t} g =
      record {
        due = g.due;
        many = g.many;
        rises = g.rises;
        only = λ x m.
            ⊎_elim (λ (a : In x (take t.passages list)). inl a) (λ (b : In x (marked k fs ps)). inr (subst (In x) (sym (marked_append ps qs)) (in_left (marked k fs ps) (marked k fs qs) x b)))
            (g.only x m);
      }

  -- what is tallied, under other names
  pub tallied_same : {ps : Pairs V} {list list' after after' : List Passage} {t t' u u' : Reported} → list ≡ list' → t ≡ t' → after' ≡ after → u' ≡ u → Tallied k fs ps list t after u → Tallied k fs ps list' t' after' u'
  tallied_same a b c d h = rw (sym a, sym b, c, d) h

-- ---- one pair

module _ {V : Type 0} (k : ℕ) (fs : Files) (p : Fingerprint V × Fingerprint V) (list : List Passage) (t : Reported) (ready : Ready list t) where
  abbrev one : Pairs V
  one = p ∷ []

  -- its grams differ
  pub tallied_differs : {m d : ℕ} → alike k fs p ≡ false → m ≡ min (t.pairs + 1) (2 ^ 64 - 1) → d ≡ min (t.differing + 1) (2 ^ 64 - 1) → Tallied k fs (p ∷ []) list t list (record { passages = t.passages; pairs = m; differing = d })
  tallied_differs {m} {d} no-gram em ed =
      let none : marked k fs (p ∷ []) ≡ [] = rw no-gram refl in
      let all : differing k fs (p ∷ []) ≡ 1 = rw no-gram refl in
      record {
        met = λ l. omega (arith, em);
        differ = λ l. omega (arith, ed, all);
        more = omega arith;
        room = ready.room;
        long = refl;
        rest = refl;
        lists = record {
          rises = ready.rises;
          only = λ x i. inl i;
          every = λ x i. ⊎_elim (λ (a : In x (take t.passages list)). a) (λ (b : In x (marked k fs (p ∷ []))). absurd (subst (In x) none b)) i;
        };
      }

  module _ (gram : alike k fs p ≡ true) where
    marks : marked k fs (p ∷ []) ≡ around k fs p ∷ []
    marks = rw gram refl

    none_differs : differing k fs (p ∷ []) ≡ 0
    none_differs = rw gram refl

    -- its passage is put in
    pub tallied_put : {after : List Passage} {i m : ℕ} → m ≡ min (t.pairs + 1) (2 ^ 64 - 1) → length after ≡ length list → PutIn by_eight list after t.passages i (around k fs p) → Tallied k fs (p ∷ []) list t after (record { passages = t.passages + 1; pairs = m; differing = t.differing })
    tallied_put {after} {i} {m} em long h =
        let e = h.lists ready.rises in
        record {
          met = λ l. omega (arith, em);
          differ = λ l. omega (arith, none_differs);
          more = omega arith;
          room = let r = h.room in omega arith;
          long = long;
          rest = h.rest;
          lists = record {
            rises = e.rises;
            only = λ x j. ⊎_elim (λ (a : around k fs p ≡ x). inr (subst (In x) (sym marks) (inl a))) (λ (b : In x (take t.passages list)). inl b) (e.only x j);
            every = λ x j.
                e.every x (⊎_elim (λ (a : In x (take t.passages list)). inr a) (λ (b : In x (marked k fs (p ∷ []))). ⊎_elim (λ (c : around k fs p ≡ x). inl c) (λ (c : ⊥). absurd c) (subst (In x) marks b)) j);
          };
        }

    -- its passage is listed already
    pub tallied_already : {after : List Passage} {i m : ℕ} → m ≡ min (t.pairs + 1) (2 ^ 64 - 1) → Already list after t.passages i (around k fs p) → Tallied k fs (p ∷ []) list t after (record { passages = t.passages; pairs = m; differing = t.differing })
    tallied_already {after} {i} {m} em h =
        let x = around k fs p in
        let front : List Passage = take t.passages list in
        let long : length front ≡ t.passages = length-take-le t.passages list ready.room in
        let there : In x front = subst (λ (z : Passage). In z front) (get_or-take t.passages list i x h.place ∙ h.is x) (in_at front i x (let l = h.place in omega arith)) in
        record {
          met = λ l. omega (arith, em);
          differ = λ l. omega (arith, none_differs);
          more = omega arith;
          room = ready.room;
          long = ap length h.same;
          rest = ap (drop t.passages) h.same;
          lists = rw h.same (record {
            rises = ready.rises;
            only = λ x j. inl j;
            every = λ x j.
                ⊎_elim (λ (a : In x (take t.passages list)). a) (λ (b : In x (marked k fs (p ∷ []))). ⊎_elim (λ (c : around k fs p ≡ x). subst (λ (z : Passage). In z (take t.passages list)) c there) (λ (c : ⊥). absurd c) (subst (In x) marks b)) j;
          });
        }

    -- it has no free entry
    pub overfull_one : {after : List Passage} → t.passages ≡ length list → Missed by_eight list after t.passages (around k fs p) → Overfull k fs (p ∷ []) list t
    overfull_one {after} full h =
        let x = around k fs p in
        let front : List Passage = take t.passages list in
        let long : length front ≡ t.passages = length-take-le t.passages list ready.room in
        let longer = put_longer eight_total x front (h.none ready.rises) in
        record {
          due = put by_eight x front;
          many = omega arith;
          rises = put_rises eight_total x front ready.rises;
          only = λ y i. ⊎_elim (λ (a : x ≡ y). inr (subst (In y) (sym marks) (inl a))) (λ (b : In y front). inl b) (put_only eight_total x front y i);
        }

-- ---- one pair, its passage x put in with the counts w

module _ {V : Type 0} (k : ℕ) (fs : Files) (p : Fingerprint V × Fingerprint V) (list : List Passage) (t : Reported) (ready : Ready list t) (gram : alike k fs p ≡ true) (m : ℕ) (counted : m ≡ min (t.pairs + 1) (2 ^ 64 - 1)) (w : Reported) (kept : w ≡ record { passages = t.passages; pairs = m; differing = t.differing }) (x : Passage) (marks : x ≡ around k fs p) where
  counts : w.passages ≡ t.passages
  counts = ap (λ (z : Reported). z.passages) kept

  pub met_at : {after : List Passage} {i : ℕ} {u : Reported} → length after ≡ length list → PutIn by_eight list after w.passages i x → u ≡ record { passages = w.passages + 1; pairs = w.pairs; differing = w.differing } → Tallied k fs (p ∷ []) list t after u
  met_at {after} {i} {u} long h e =
      let at : PutIn by_eight list after t.passages i (around k fs p) = subst (λ (n : ℕ). PutIn by_eight list after n i (around k fs p)) counts (subst (λ (z : Passage). PutIn by_eight list after w.passages i z) marks h) in
      let u-is = e ∙ ap (λ (z : Reported). record { passages = z.passages + 1; pairs = z.pairs; differing = z.differing }) kept in
      subst (λ (z : Reported). Tallied k fs (p ∷ []) list t after z) (sym u-is) (tallied_put k fs p list t ready gram counted long at)

  pub met_present : {after : List Passage} {i : ℕ} {u : Reported} → Already list after w.passages i x → u ≡ w → Tallied k fs (p ∷ []) list t after u
  met_present {after} {i} {u} h e =
      let at : Already list after t.passages i (around k fs p) = subst (λ (n : ℕ). Already list after n i (around k fs p)) counts (subst (λ (z : Passage). Already list after w.passages i z) marks h) in
      subst (λ (z : Reported). Tallied k fs (p ∷ []) list t after z) (sym (e ∙ kept)) (tallied_already k fs p list t ready gram counted at)

  pub met_none : {after : List Passage} → w.passages ≡ length list → Missed by_eight list after w.passages x → Overfull k fs (p ∷ []) list t
  met_none {after} full h =
      let at : Missed by_eight list after t.passages (around k fs p) = subst (λ (n : ℕ). Missed by_eight list after n (around k fs p)) counts (subst (λ (z : Passage). Missed by_eight list after w.passages z) marks h) in
      overfull_one k fs p list t ready gram (sym counts ∙ full) at

-- ---- a pair as the walk has it: the tokens of both files, and the places

module _ {V : Type 0} (k : ℕ) (fs : Files) (a b : Fingerprint V) {own other : List Token} {i j : ℕ} (here : own ≡ tokens_of a.file fs) (there : other ≡ tokens_of b.file fs) (left : i ≡ a.place) (right : j ≡ b.place) where
  pub alike_is : gram_same k own other i j ≡ alike k fs (a, b)
  alike_is = rw (here, there, left, right) refl

  pub around_is : passage b.file own other (grown k own other i j) ≡ around k fs (a, b)
  around_is = rw (here, there, left, right) refl

-- ---- one fingerprint with its partners

module _ {V : Type 0} (k : ℕ) (fs : Files) (a b : Fingerprint V) (bs : List (Fingerprint V)) (n : ℕ) (within : n < length bs) (is : b ≡ get_or bs n b) {list after : List Passage} {t u : Reported} (h : Tallied k fs (with_each a (take n bs)) list t after u) where
  one_more : with_each a (take (n + 1) bs) ≡ with_each a (take n bs) ++ (a, b) ∷ []
  one_more = map_more (λ (z : Fingerprint V). (a, z)) bs n b within ∙ ap (λ (z : Fingerprint V). with_each a (take n bs) ++ (a, z) ∷ []) (sym is)

  pub met_more : {end : List Passage} {v : Reported} → Tallied k fs ((a, b) ∷ []) after u end v → Tallied k fs (with_each a (take (n + 1) bs)) list t end v
  met_more {end} {v} g = subst (λ (ps : Pairs V). Tallied k fs ps list t end v) (sym one_more) (tallied_more k fs ((a, b) ∷ []) h g)

  pub met_full : Overfull k fs ((a, b) ∷ []) after u → Overfull k fs (with_each a bs) list t
  met_full g =
      let some : Overfull k fs (with_each a (take (n + 1) bs)) list t = subst (λ (ps : Pairs V). Overfull k fs ps list t) (sym one_more) (overfull_later k fs ((a, b) ∷ []) h g) in
      let all : with_each a (take (n + 1) bs) ++ with_each a (drop (n + 1) bs) ≡ with_each a bs = sym (map-append (λ (z : Fingerprint V). (a, z)) (take (n + 1) bs) (drop (n + 1) bs)) ∙ ap (with_each a) (take-append-drop (n + 1) bs) in
      subst (λ (ps : Pairs V). Overfull k fs ps list t) all (overfull_more k fs (with_each a (drop (n + 1) bs)) some)
