-- What the lists hold after any list of calls.
use Rattle.std.proofs.Common.{◌≡◌, ℕ, ◌-◌, ◌≤◌, min, List, [], ◌++◌, length, take, drop, replicate, Ordering, sym, ap, ◌∙◌, subst, ap₂, append-nil, arith}
use Rattle.std.proofs.lemmas.List.{take-append-drop, length-take-le, length-replicate, drop_at, drop_all, take_all, take-append-le, length-take}
use Rattle.order.specs.Total.{TotalOrder}
use Rattle.order.specs.Listed.{In, ListsExactly}
use Rattle.order.proofs.Joins.{in_joined, joined_in}
use Rattle.tokens.specs.declared.token.Token.{Token}
use Rattle.tokens.specs.Tokens.{limit}
use Rattle.runs.specs.Shares.{unused}
use Rattle.runs.specs.Passages.{Scheme, scheme}
use Rattle.model.specs.declared.fingerprint.Fingerprint.{Fingerprint}
use Rattle.model.specs.Files.{Files, held_tokens}
use Rattle.model.specs.Prints.{by_fields, file_prints, all_prints, print_count, index_of}
use Rattle.model.specs.Calls.{Setting, Asked, Outcome, padded, held_after, outcomes}
use Rattle.model.proofs.Tabled.{held_cut}
use Rattle.indexing.proofs.Index.{index_exactly}
use Rattle.indexing.proofs.Counts.{index_count}
use Rattle.promises.specs.Promises.{Answered}
use Rattle.promises.proofs.Pairing.{print_at, prints_in, in_prints}
use Rattle.promises.proofs.Promising.{promised}
use Rattle.promises.proofs.Telling.{answered}
use Rattle.library.specs.Stores.{State, Bounds, Sound, Opened, Steps, files, setting}
use Rattle.library.specs.Running.{setting_over, IsPrint, Ran}

-- ---- a fingerprint of the held files is a chosen place of one of them with its value

module _ {V : Type 0} (S : Scheme V) (o : TotalOrder S.cmp) (fs : Files) where
  is_print : (e : Fingerprint V) → In e (all_prints S fs) → IsPrint S fs e
  is_print e m =
      let h = joined_in (file_prints S) fs e m in
      let p = prints_in S o h.0 e h.2 in
      record {
        tokens = h.0.1;
        held = subst (λ (n : ℕ). In (n, h.0.1) fs) (sym p.file) h.1;
        chosen = p.print;
        value = p.value;
      }

  print_is : (e : Fingerprint V) → IsPrint S fs e → In e (all_prints S fs)
  print_is e p =
      let same : print_at S (e.file, p.tokens) e.place ≡ e = λ i. record { value = sym p.value i; file = e.file; place = e.place } in
      in_joined (file_prints S) fs (e.file, p.tokens) e p.held
      (subst (λ (x : Fingerprint V). In x (file_prints S (e.file, p.tokens))) same (in_prints S o (e.file, p.tokens) e.place p.chosen))

  prints_listed : ListsExactly (by_fields S.cmp) (index_of S fs) (IsPrint S fs)
  prints_listed =
      let h = index_exactly S o fs in
      record { rises = h.rises; only = λ e m. is_print e (h.only e m); every = λ e p. h.every e (print_is e p) }

-- ---- the lists

module _ {V : Type 0} (value : List ℕ → V) {cmp : V → V → Ordering} (o : TotalOrder cmp) (s : State V) (h : Bounds s) (q : Sound value cmp s) where
  abbrev S : Scheme V
  S = scheme value cmp s.k s.t

  held_front : held_tokens (files s) ≡ take s.used s.tokens.now
  held_front = held_cut s.table s.tokens.now ∙ ap (λ (n : ℕ). take n s.tokens.now) (sym h.full)

  pub tokens_are : s.tokens.now ≡ padded (held_tokens (files s)) (length s.tokens.now) unused
  tokens_are =
      let long : length (held_tokens (files s)) ≡ s.used = ap length held_front ∙ length-take-le s.used s.tokens.now h.within in
      sym (take-append-drop s.used s.tokens.now) ∙ ap₂ ◌++◌ (sym held_front) (q.clear ∙ ap (λ (n : ℕ). replicate (length s.tokens.now - n) unused) (sym long))

  pub prints_are : print_count S (files s) ≡ s.prints
  prints_are = sym (index_count S o (files s) q.distinct) ∙ ap length (sym q.index) ∙ length-take-le s.prints s.index.now h.indexed

  pub index_is : take (print_count S (files s)) s.index.now ≡ index_of S (files s)
  index_is = ap (λ (n : ℕ). take n s.index.now) prints_are ∙ q.index

  pub index_lists : ListsExactly (by_fields cmp) (take (print_count S (files s)) s.index.now) (IsPrint S (files s))
  index_lists = subst (λ (l : List (Fingerprint V)). ListsExactly (by_fields cmp) l (IsPrint S (files s))) (sym index_is) (prints_listed S o (files s))

  pub index_long : length (take (print_count S (files s)) s.index.now) ≡ print_count S (files s)
  index_long = ap length index_is ∙ index_count S o (files s) q.distinct

-- ---- a run

-- over lists that are used whole
module _ {V : Type 0} (value : List ℕ → V) {cmp : V → V → Ordering} (o : TotalOrder cmp) (s t : State V) (cs : List Asked) (os : List Outcome)
    (low : 1 ≤ s.k) (least : s.k ≤ s.t) (few-tokens : length s.tokens.now ≤ limit) (few-places : length s.index.now ≤ limit)
    (sound : Sound value cmp s) (none : files s ≡ []) (shape : Bounds t) (steps : Steps value cmp s t cs os) where
  abbrev st : Setting V
  st = setting value cmp s

  outcomes_are : os ≡ outcomes st [] cs
  outcomes_are = (steps.told sound).answers ∙ ap (λ (fs : Files). outcomes st fs cs) none

  files_are : files t ≡ held_after st [] cs
  files_are = (steps.told sound).leaves ∙ ap (λ (fs : Files). held_after st fs cs) none

  all_answered : Answered st cs os
  all_answered = subst (Answered st cs) (sym outcomes_are) (answered st cs)

  pub ran : (tokens : List Token) → length tokens ≡ length s.tokens.now → Ran st cs os tokens t.tokens.now s.index.now t.index.now
  ran tokens long =
      let k = steps.kept in
      let q = (steps.told sound).sound in
      let past : drop (length s.tokens.now) tokens ≡ [] = drop_all (length s.tokens.now) tokens (omega arith) in
      let ts = tokens_are value o t shape q in
      record {
        answered = all_answered;
        promised = promised st o low least cs os all_answered;
        token_list =
            ts ∙ ap₂ (λ (fs : Files) (n : ℕ). padded (held_tokens fs) n unused) files_are k.room
            ∙ sym (append-nil (padded (held_tokens (held_after st [] cs)) (length s.tokens.now) unused))
            ∙ ap (λ (l : List Token). padded (held_tokens (held_after st [] cs)) (length s.tokens.now) unused ++ l) (sym past);
        index_list =
            record {
              lists = rw (← files_are, ← k.gram, ← k.run) (index_lists value o t shape q);
              count = rw (← files_are, ← k.gram, ← k.run) (index_long value o t shape q);
              beyond = drop_all (length s.index.now) t.index.now (let p = k.places in omega arith) ∙ sym (drop_all (length s.index.now) s.index.now (omega arith));
            };
        unchanged = λ all. ((steps.told sound).unchanged all).index;
      }

-- a library that was opened over lists that it uses whole
module _ {V : Type 0} (value : List ℕ → V) {cmp : V → V → Ordering} (o : TotalOrder cmp) (s t : State V) (cs : List Asked) (os : List Outcome) (k r : ℕ) (tokens : List Token) (index : List (Fingerprint V))
    (low : 1 ≤ k) (least : k ≤ r) (few-tokens : length tokens ≤ limit) (few-places : length index ≤ limit)
    (opened : Opened value cmp k r tokens index s) (shape : Bounds t) (steps : Steps value cmp s t cs os) where
  long : length tokens ≡ length s.tokens.now
  long = let l = ap length opened.tokens ∙ length-replicate (min (length tokens) limit) unused in omega arith

  whole_index : s.index.now ≡ index
  whole_index = opened.index ∙ take_all (min (length index) limit) index (omega arith)

  same_setting : setting_over value cmp k r (length tokens) (length index) ≡ setting value cmp s
  same_setting =
      let a : min (length tokens) limit ≡ length s.tokens.now = let l = long in omega arith in
      let b : min (length index) limit ≡ length s.index.now = let l = ap length whole_index in omega arith in
      λ i. record { scheme = scheme value cmp (sym opened.gram i) (sym opened.run i); tokens = a i; index = b i }

  -- us and js are the lists that the caller has then
  pub ran_over : (us : List Token) (js : List (Fingerprint V)) → us ≡ t.tokens.now → js ≡ t.index.now → Ran (setting_over value cmp k r (length tokens) (length index)) cs os tokens us index js
  ran_over us js a b =
      let l = long in
      let i = ap length whole_index in
      let g = opened.gram in
      let h = opened.run in
      rw (a, b, same_setting, ← whole_index) (ran value o s t cs os (omega arith) (omega arith) (omega arith) (omega arith) opened.sound opened.none shape steps tokens long)

le_from_take : {X : Type 0} (n : ℕ) (xs : List X) → length (take n xs) ≡ n → n ≤ length xs
le_from_take n xs h = let l : length (take n xs) ≡ min n (length xs) = length-take n xs in omega arith

-- over the first r and p entries of lists, where as many are used
module _ {V : Type 0} (value : List ℕ → V) (cmp : V → V → Ordering) (k t : ℕ) (cs : List Asked) (os : List Outcome) (tokens ts : List Token) (index es : List (Fingerprint V)) (r p : ℕ)
    (room : r ≡ min (length tokens) limit) (places : p ≡ min (length index) limit) (long-tokens : length ts ≡ length (take r tokens)) (long-index : length es ≡ length (take p index)) where
  abbrev inner : Setting V
  inner = setting_over value cmp k t (length (take r tokens)) (length (take p index))

  abbrev outer : Setting V
  outer = setting_over value cmp k t (length tokens) (length index)

  front_tokens : length (take r tokens) ≡ r
  front_tokens = length-take-le r tokens (omega arith)

  front_index : length (take p index) ≡ p
  front_index = length-take-le p index (omega arith)

  one_setting : inner ≡ outer
  one_setting =
      let f = front_tokens in
      let g = front_index in
      let a : min (length (take r tokens)) limit ≡ min (length tokens) limit = omega arith in
      let b : min (length (take p index)) limit ≡ min (length index) limit = omega arith in
      λ i. record { scheme = scheme value cmp k t; tokens = a i; index = b i }

  pub widened : Ran inner cs os (take r tokens) ts (take p index) es → Ran outer cs os tokens (ts ++ drop r tokens) index (es ++ drop p index)
  widened h₀ =
      let h : Ran outer cs os (take r tokens) ts (take p index) es = subst (λ (st : Setting V). Ran st cs os (take r tokens) ts (take p index) es) one_setting h₀ in
      let fs : Files = held_after outer [] cs in
      let n : ℕ = print_count outer.scheme fs in
      let past : drop outer.tokens (take r tokens) ≡ [] = drop_all outer.tokens (take r tokens) (let f = front_tokens in omega arith) in
      let few : n ≤ length es = le_from_take n es h.index_list.count in
      let front : take n (es ++ drop p index) ≡ take n es = take-append-le n es (drop p index) few in
      record {
        answered = h.answered;
        promised = h.promised;
        token_list =
            ap (λ (l : List Token). l ++ drop r tokens) (h.token_list ∙ ap (λ (l : List Token). padded (held_tokens fs) outer.tokens unused ++ l) past ∙ append-nil (padded (held_tokens fs) outer.tokens unused))
            ∙ ap (λ (m : ℕ). padded (held_tokens fs) outer.tokens unused ++ drop m tokens) room;
        index_list =
            record {
              lists = subst (λ (l : List (Fingerprint V)). ListsExactly (by_fields cmp) l (IsPrint outer.scheme fs)) (sym front) h.index_list.lists;
              count = ap length front ∙ h.index_list.count;
              beyond = ap (λ (m : ℕ). drop m (es ++ drop p index)) (sym places) ∙ drop_at es (drop p index) p (long-index ∙ front_index) ∙ ap (λ (m : ℕ). drop m index) places;
            };
        unchanged = λ all. ap (λ (l : List (Fingerprint V)). l ++ drop p index) (h.unchanged all) ∙ take-append-drop p index;
      }
