use Rattle.std.proofs.Common.{◌≡◌, ℕ, ◌≤◌, length, sym, ◌∙◌, subst, refl, Some, List}
use Rattle.std.specs.Prelude.{slice_get}
use Rattle.std.proofs.lemmas.Bool.{ltb-false}
use Rattle.std.proofs.lemmas.Option.{slice_get_read}
use Rattle.dining_core.specs.masks.Sets.{is_in128, IsLeast}
use Rattle.dining_core.specs.refinement.Tables.{diner_of}
use Rattle.drinking_core.specs.Drinkers.{GiveBottle, may}
use Rattle.drinking_core.specs.refinement.Bars.{drinker_of}
use Rattle.drinking_core.proofs.MaskUpdates.{none_left, none_within, first_left, left_fewer}
use Rattle.drinking_core.proofs.masked_bar.first_given_of.Goals as goal

pub returns-in_default-get : goal.returns-in_default-get
returns-in_default-get c =
    let d = drinker_of c.args.bar.now in
    let past : length d.records ≤ c.in-Some.k = subst (λ (l : List ℕ). length l ≤ c.in-Some.k) c.records.ensures (ltb-false _ _ (sym c.in_default-get.ensures.lookup.0)) in
    sym (none_within (λ r. may d (GiveBottle r (diner_of c.args.table.now).held)) d.records c.left.left c.in-Some.k c.requires.few c.left.invariant c.in-Some.ensures past)

pub returns-then-may_give_bottle : goal.returns-then-may_give_bottle
returns-then-may_give_bottle c =
    let d = drinker_of c.args.bar.now in
    let read : slice_get d.records c.in-Some.k ≡ Some c.in-Some-get.r.now = subst (λ (l : List ℕ). slice_get l c.in-Some.k ≡ Some c.in-Some-get.r.now) c.records.ensures (slice_get_read _ _ _ _ refl c.in-Some-get.ensures.lookup.3.0 c.in-Some-get.ensures.lookup.1) in
    sym (first_left (λ r. may d (GiveBottle r (diner_of c.args.table.now).held)) d.records c.left.left c.in-Some.k c.in-Some-get.r.now c.requires.few c.left.invariant c.in-Some.ensures read (sym c.may_give_bottle.ensures ∙ c.if-may_give_bottle.true))

pub returns : goal.returns
returns c =
    let d = drinker_of c.args.bar.now in
    sym (none_left (λ r. may d (GiveBottle r (diner_of c.args.table.now).held)) d.records c.left.left c.requires.few c.left.invariant
    (subst (λ o. IsLeast 128 (is_in128 c.left.left) o) c.in_default.is c.first.ensures))

pub left-preserved : goal.left-preserved
left-preserved c =
    let d = drinker_of c.args.bar.now in
    let read : slice_get d.records c.in-Some.k ≡ Some c.in-Some-get.r.now = subst (λ (l : List ℕ). slice_get l c.in-Some.k ≡ Some c.in-Some-get.r.now) c.records.ensures (slice_get_read _ _ _ _ refl c.in-Some-get.ensures.lookup.3.0 c.in-Some-get.ensures.lookup.1) in
    left_fewer (λ r. may d (GiveBottle r (diner_of c.args.table.now).held)) d.records c.left.left c.clear.new.self c.in-Some.k c.in-Some-get.r.now c.left.invariant c.clear.ensures.cleared read (sym c.may_give_bottle.ensures ∙ c.if-may_give_bottle.false)
