-- What the pairs of the code mean at the opening.
use Rattle.std.proofs.Common.{◌≡◌, ℕ, ◌<◌, ◌≤◌, Bool, true, false, cond, List, length, map, None, Some, refl, sym, ap, subst, ◌∙◌, arith, ⊎_elim}
use Rattle.std.specs.List.{range_with_len}
use Rattle.std.proofs.lemmas.Bool.{cases_lt}
use Rattle.std.proofs.Math.ListN.{get_or-eq_default}
use Rattle.std.proofs.lemmas.List.FromFn.{get_or-map-range_with_len, length-map-range_with_len}
use mathlib.Core.Path.{fun_ext}
use Rattle.office_map.specs.PlanValue.{PlanValue, are_neighbours}
use Rattle.office_map.specs.Consistency.{IsConsistent}
use Rattle.office_map.specs.NeighbourLaws.{near_within}
use Rattle.window_link.specs.Links.{resumed}
use Rattle.token_channel.specs.Opening.{OpensAsThePlanStarts}
use Rattle.token_channel.specs.Channels as channels
use Rattle.dining_core.specs.Diners as forks
use Rattle.drinking_core.specs.Drinkers as bottles
use Rattle.drinking_core.specs.Drinkers.{Drinker}
use Rattle.dining_core.specs.Diners.{Diner}
use Rattle.dining_core.specs.refinement.Tables.{TableValue, diner_of}
use Rattle.drinking_core.specs.refinement.Bars.{BarValue, drinker_of}
use Rattle.site_core.specs.neighbours.HeldLaws.{held_at_start}
use Rattle.site_core.specs.neighbours.Pairs.{held_by, opened}
use Rattle.site_core.specs.neighbours.refinement.PairsOfCode.{pairs_of, ArePairs}
use Rattle.site_core.proofs.neighbours_lemmas.PairUpdates.{pairs_value, pairs_are}
use Rattle.site_core.specs.neighbours.refinement.Slots.{Slot, slot_at, slot_at_start, link_in, links_of, IsSlotOf}

-- ---- the channels

abbrev slots : PlanValue → ℕ → List Slot
slots p me = map (slot_at_start p me) (range_with_len 0 (length p.offices))

slot_is : (p : PlanValue) (me v : ℕ) → IsConsistent p → slot_at (slots p me) v ≡ slot_at_start p me v
slot_is p me v h = ⊎_elim
    (λ lt. get_or-map-range_with_len (slot_at_start p me) 0 (length p.offices) v v None lt (omega arith))
    (λ le. get_or-eq_default (slots p me) None (too_short le) ∙ sym (stranger le))
    (cases_lt v (length p.offices))
  where
    too_short : length p.offices ≤ v → length (slots p me) ≤ v
    too_short le = omega (arith, le, length-map-range_with_len (slot_at_start p me) 0 (length p.offices))

    stranger : length p.offices ≤ v → slot_at_start p me v ≡ None
    stranger le = go (are_neighbours p me v) refl
      where
        go : (b : Bool) → are_neighbours p me v ≡ b → cond b (Some (channels.opened p me v)) None ≡ None
        go true e = absurd (omega (arith, le, near_within p me v h e))
        go false e = refl

pub slots_at_start : (p : PlanValue) (me v : ℕ) → OpensAsThePlanStarts → IsConsistent p → IsSlotOf p me v (held_by (forks.diner_at_start p me) (bottles.opened p me) v) (slot_at (slots p me) v)
slots_at_start p me v opens h = subst (IsSlotOf p me v (held_by (forks.diner_at_start p me) (bottles.opened p me) v)) (sym (slot_is p me v h)) (go (are_neighbours p me v) refl)
  where
    go : (b : Bool) → are_neighbours p me v ≡ b → IsSlotOf p me v (held_by (forks.diner_at_start p me) (bottles.opened p me) v) (cond b (Some (channels.opened p me v)) None)
    go true e = (
      e,
      record {
        shared = λ t. (opens p me v t h (grind (e, arith))).shared;
        held = λ t. (opens p me v t h (grind (e, arith))).held ∙ sym (held_at_start p me v t h);
      },
    )
    go false e = e

pub links_at_start : (p : PlanValue) (me : ℕ) → IsConsistent p → links_of p.run p.version me (slots p me) ≡ (λ v. resumed p.run me v 0 0 p.version)
links_at_start p me h = fun_ext (λ v. ap (link_in p.run p.version me v) (slot_is p me v h) ∙ go v (are_neighbours p me v))
  where
    go : (v : ℕ) (b : Bool) → link_in p.run p.version me v (cond b (Some (channels.opened p me v)) None) ≡ resumed p.run me v 0 0 p.version
    go v true = refl
    go v false = refl

-- ---- the whole

pub opening_pairs : (p : PlanValue) (me : ℕ) (table : TableValue) (bar : BarValue) (cs : List Slot) → OpensAsThePlanStarts → IsConsistent p → me < length p.offices →
    diner_of table ≡ forks.diner_at_start p me → drinker_of bar ≡ bottles.opened p me → cs ≡ map (slot_at_start p me) (range_with_len 0 (length p.offices)) → ArePairs (pairs_value p me table bar cs)
opening_pairs p me table bar cs opens h lt ed ek ec = record {
  consistent = h;
  office = lt;
  neighbours = ap (λ (x : Diner). x.neighbours) ed;
  records = ap (λ (x : Drinker). x.records) ek;
  peers = λ r. ap (λ (x : Drinker). x.peer r) ek;
  channels = λ v. subst (λ x. IsSlotOf p me v (held_by x (drinker_of bar) v) (slot_at cs v)) (sym ed) (subst (λ x. IsSlotOf p me v (held_by (forks.diner_at_start p me) x v) (slot_at cs v)) (sym ek) (subst (λ x. IsSlotOf p me v (held_by (forks.diner_at_start p me) (bottles.opened p me) v) (slot_at x v)) (sym ec) (slots_at_start p me v opens h)));
}

pub opened_pairs : (p : PlanValue) (me : ℕ) (table : TableValue) (bar : BarValue) (cs : List Slot) → IsConsistent p →
    diner_of table ≡ forks.diner_at_start p me → drinker_of bar ≡ bottles.opened p me → cs ≡ map (slot_at_start p me) (range_with_len 0 (length p.offices)) → pairs_of (pairs_value p me table bar cs) ≡ opened p me
opened_pairs p me table bar cs h ed ek ec = pairs_are p me table bar cs _ _ _ ed ek (ap (links_of p.run p.version me) ec ∙ links_at_start p me h)
