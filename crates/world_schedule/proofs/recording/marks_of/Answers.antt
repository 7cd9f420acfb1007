use Rattle.std.proofs.Common.{◌≡◌, ◌<◌, ℕ, [], ◌∷◌, ◌++◌, length, map, take, get_or, refl, sym, ap, subst, ◌∙◌, arith}
use Rattle.std.specs.Prelude.{slice_get}
use Rattle.std.proofs.lemmas.List.{get_or-replicate, length-map, length-set, take_all}
use Rattle.session_meaning.specs.declared.ending.Outcome.{Outcome}
use Rattle.site_core.specs.Journals.{office_of}
use Rattle.world_schedule.specs.Readers.{mark_of}
use Rattle.world_schedule.proofs.Orders.{next_there, inside_at, seen_few, seen_next, listed_next}
use Rattle.world_schedule.proofs.recording.marks_of.Goals as goal

pub mark_at-requires : goal.mark_at-requires
mark_at-requires c =
    let t = c.requires.told.1 in
    let i = c.loop-office.office-index in
    let a : ℕ = c.index-a.result in
    let is : a ≡ get_or c.args.order.now i a = subst (λ (x : ℕ). x ≡ get_or c.args.order.now i x) (sym c.index-a.ensures) c.office-item.is in
    let inside = inside_at c.args.order.now (length c.args.offices.now) i a t.inside c.loop-office-test.true is in
    let few : a < 16 = omega (arith, inside, c.requires.few) in
    let n = next_there c.args.offices.now c.requires.told.0 c.args.order.now t i a c.index-offices-a.result c.loop-office-test.true is inside c.index-offices-a.is in
    (n.0, ap (slice_get (office_of c.index-offices-a.result).agenda.outcomes) (c.loop-office.invariant.seen a few) ∙ n.2)

pub overflow_add-seen : goal.overflow_add-seen
overflow_add-seen c =
    let a : ℕ = c.index-a.result in
    let i : ℕ = c.loop-office.office-index in
    let order = c.args.order.now in
    let is : a ≡ get_or order i a = subst (λ (x : ℕ). x ≡ get_or order i x) (sym c.index-a.ensures) c.office-item.is in
    let inside = inside_at order (length c.args.offices.now) i a c.requires.told.1.inside c.loop-office-test.true is in
    let few : a < 16 = omega (arith, inside, c.requires.few) in
    omega (arith, c.loop-office.invariant.seen a few, seen_few a i order, c.loop-office-test.true)

pub loop-office-init : goal.loop-office-init
loop-office-init c = record {
  places = refl;
  seen = λ a lt. get_or-replicate 16 a 0 0 lt;
  listed = λ os t. c.in_ok-marks.ensures.items;
}

pub loop-office-preserved : goal.loop-office-preserved
loop-office-preserved c =
    let k = c.loop-office.invariant in
    let i = c.loop-office.office-index in
    let a : ℕ = c.index-a.result in
    let order = c.args.order.now in
    let offices = c.args.offices.now in
    let s = c.index-offices-a.result in
    let is : a ≡ get_or order i a = subst (λ (x : ℕ). x ≡ get_or order i x) (sym c.index-a.ensures) c.office-item.is in
    let inside = inside_at order (length offices) i a c.requires.told.1.inside c.loop-office-test.true is in
    let few : a < 16 = omega (arith, inside, c.requires.few) in
    record {
      places = length-set c.loop-office.seen a _ ∙ k.places;
      seen = λ b lt. seen_next c.loop-office.seen order i a _ b k.places few refl c.loop-office-test.true is k.seen lt;
      listed = λ os t.
          let n = next_there offices os order t i a s c.loop-office-test.true is inside c.index-offices-a.is in
          let next = ap (slice_get (office_of s).agenda.outcomes) (k.seen a few) ∙ n.2 in
          listed_next os i n.0 c.loop-office.marks.items _ n.1 (c.in_ok-push.ensures.items ∙ ap (λ m. c.loop-office.marks.items ++ m ∷ []) (c.mark_at.ensures n.0 next)) (k.listed os t);
    }

pub returns : goal.returns
returns c os t =
    let size : length os ≡ length c.args.order.now = sym (length-map os (λ (o : Outcome). o.office)) ∙ ap length t.where_each in
    let all : take c.loop-office.office-index os ≡ os = take_all c.loop-office.office-index os (omega (arith, size, c.loop-office-test.false)) in
    c.loop-office.invariant.listed os t ∙ ap (map mark_of) all
