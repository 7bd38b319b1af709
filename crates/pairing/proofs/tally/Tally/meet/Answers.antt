use Rattle.std.proofs.Common.{◌≡◌, ℕ, [], ◌∷◌, length, sym, refl, ap, ◌∙◌, arith}
use Rattle.std.proofs.lemmas.List.{take_all}
use Rattle.model.specs.Files.{tokens_of}
use Rattle.pairing.specs.declared.tally.Tally.{Tally}
use Rattle.pairing.specs.Scopes.{files}
use Rattle.pairing.specs.Tallies.{Tallied}
use Rattle.model.proofs.Tabled.{tokens_few}
use Rattle.pairing.proofs.Tallying.{ready_after, tallied_differs, alike_is, around_is, met_at, met_present, met_none, met_more, met_full}
use Rattle.pairing.proofs.tally.Tally.meet.Goals as goal
use Rattle.pairing.proofs.tally.Tally.meet.Goals.{in-At, in-Present}

pub tokens_next-other-requires : goal.tokens_next-other-requires
tokens_next-other-requires g c = c.loop-b.invariant.1

pub loop-b-preserved-then-not-same_grams : goal.loop-b-preserved-then-not-same_grams
loop-b-preserved-then-not-same_grams g c =
    let s = c.args.scope in
    let a = c.args.a in
    let b = c.b-item.result in
    let t = c.loop-b.self.counts in
    let list = c.loop-b.self.list.now in
    let own : s.own.now ≡ tokens_of a.file (files s) = s.own_is ∙ ap (λ (m : ℕ). tokens_of m (files s)) (sym c.requires) in
    let no-gram = sym (alike_is s.k (files s) a b own c.tokens_next-other.ensures refl refl) ∙ sym c.same_grams.ensures.test ∙ c.if-not-same_grams.true in
    let ready = ready_after s.k (files s) c.loop-b.invariant.0 in (
      met_more s.k (files s) a b c.args.partners.now c.loop-b.b-index (omega arith) c.b-item.is c.loop-b.invariant.0
          (tallied_differs s.k (files s) (a, b) list t ready no-gram c.saturating_add-self.ensures c.saturating_add-self-then-not-same_grams.ensures),
      c.tokens_next-other.ensures,
      c.loop-b.invariant.2,
    )

pub passage_around-found-requires-clause-few : goal.passage_around-found-requires-clause-few
passage_around-found-requires-clause-few g c =
    let s = c.args.scope in
    let ts = s.held.tokens.now in
    let few = s.held.few in
    let own = tokens_few s.number s.held.table.now ts in
    let other = tokens_few c.b-item.result.file s.held.table.now ts in
    (omega (arith, ap length s.own_is, own, few), omega (arith, ap length c.tokens_next-other.ensures, other, few))

pub returns-in-Full-clause-counted : goal.returns-in-Full-clause-counted
returns-in-Full-clause-counted g c =
    let s = c.args.scope in
    let a = c.args.a in
    let b = c.b-item.result in
    let t = c.loop-b.self.counts in
    let list = c.loop-b.self.list.now in
    let own : s.own.now ≡ tokens_of a.file (files s) = s.own_is ∙ ap (λ (m : ℕ). tokens_of m (files s)) (sym c.requires) in
    let gram = sym (alike_is s.k (files s) a b own c.tokens_next-other.ensures refl refl) ∙ sym c.same_grams.ensures.test ∙ c.if-not-same_grams.false in
    let marks = c.passage_around-found.ensures ∙ around_is s.k (files s) a b own c.tokens_next-other.ensures refl refl in
    let ready = ready_after s.k (files s) c.loop-b.invariant.0 in
    let h = c.in-Full.ensures in
    met_full s.k (files s) a b c.args.partners.now c.loop-b.b-index (omega arith) c.b-item.is c.loop-b.invariant.0
    (met_none s.k (files s) (a, b) list t ready gram c.saturating_add-self.result c.saturating_add-self.ensures _ refl c.passage_around-found.result marks h.0 h.1)

pub loop-b-preserved : goal.loop-b-preserved
loop-b-preserved g c =
    let s = c.args.scope in
    let a = c.args.a in
    let b = c.b-item.result in
    let t = c.loop-b.self.counts in
    let list = c.loop-b.self.list.now in
    let own : s.own.now ≡ tokens_of a.file (files s) = s.own_is ∙ ap (λ (m : ℕ). tokens_of m (files s)) (sym c.requires) in
    let gram = sym (alike_is s.k (files s) a b own c.tokens_next-other.ensures refl refl) ∙ sym c.same_grams.ensures.test ∙ c.if-not-same_grams.false in
    let marks = c.passage_around-found.ensures ∙ around_is s.k (files s) a b own c.tokens_next-other.ensures refl refl in
    let ready = ready_after s.k (files s) c.loop-b.invariant.0 in
    let one : Tallied s.k (files s) ((a, b) ∷ []) list t c.match-insert.self.list.now c.match-insert.self.counts =
    elim c.match-insert.branch [
      | in-At w ↦ rw (ap (λ (z : Tally). z.list.now) w.self-is, ap (λ (z : Tally). z.counts) w.self-is) (met_at s.k (files s) (a, b) list t ready gram c.saturating_add-self.result c.saturating_add-self.ensures _ refl c.passage_around-found.result marks c.insert.auto.list w.in-At.ensures refl)
      | in-Present w ↦ rw (ap (λ (z : Tally). z.list.now) w.self-is, ap (λ (z : Tally). z.counts) w.self-is) (met_present s.k (files s) (a, b) list t ready gram c.saturating_add-self.result c.saturating_add-self.ensures _ refl c.passage_around-found.result marks w.in-Present.ensures refl)
    ] in
    let name : c.match-insert.self.list.ghost_name ≡ c.loop-b.self.list.ghost_name =
    elim c.match-insert.branch [ in-At w ↦ ap (λ (z : Tally). z.list.ghost_name) w.self-is | in-Present w ↦ ap (λ (z : Tally). z.list.ghost_name) w.self-is ] in
    (met_more s.k (files s) a b c.args.partners.now c.loop-b.b-index (omega arith) c.b-item.is c.loop-b.invariant.0 one, c.tokens_next-other.ensures, name ∙ c.loop-b.invariant.2)

pub returns : goal.returns
returns g c =
    let all = take_all c.loop-b.b-index c.args.partners.now (omega arith) in
    let h = rw all at c.loop-b.invariant.0 in
    record { same_reference = c.loop-b.invariant.2; long = h.long; counted = h }
