-- The pairs of the code after a rule or a frame.
use Rattle.std.proofs.Common.{◌≡◌, ℕ, Bool, List, sym, ap, subst, ◌∙◌}
use mathlib.Core.Path.{fun_ext}
use Rattle.office_map.specs.PlanValue.{PlanValue}
use Rattle.window_link.specs.Links.{LinkState}
use Rattle.token_channel.specs.declared.thing.Thing.{Thing}
use Rattle.dining_core.specs.Diners.{Diner}
use Rattle.dining_core.specs.refinement.Tables.{TableValue, diner_of}
use Rattle.drinking_core.specs.Drinkers.{Drinker}
use Rattle.drinking_core.specs.refinement.Bars.{BarValue, drinker_of}
use Rattle.site_core.specs.neighbours.Pairs.{Pairs, held_by}
use Rattle.site_core.specs.neighbours.refinement.Slots.{Slot, slot_at, links_of, IsSlotOf}
use Rattle.site_core.specs.neighbours.refinement.PairsOfCode.{PairsValue, pairs_of, ArePairs}

abbrev pub pairs_value : PlanValue → ℕ → TableValue → BarValue → List Slot → PairsValue
pairs_value plan me table bar channels = record { plan = plan; me = me; table = table; bar = bar; channels = channels }

-- with another table, bar or channels they are still an office's, where what is held agrees
pub still_pairs : (p : PairsValue) (table' : TableValue) (bar' : BarValue) (channels' : List Slot) (d : Diner) (k : Drinker) (h : ℕ → Thing → Bool) → ArePairs p →
    diner_of table' ≡ d → drinker_of bar' ≡ k → d.neighbours ≡ (pairs_of p).diner.neighbours → k.records ≡ (pairs_of p).drinker.records → k.peer ≡ (pairs_of p).drinker.peer →
    ((u : ℕ) (t : Thing) → held_by d k u t ≡ h u t) → ((u : ℕ) → IsSlotOf p.plan p.me u (h u) (slot_at channels' u)) → ArePairs (pairs_value p.plan p.me table' bar' channels')
still_pairs p table' bar' channels' d k h are ed ek en er ep eh slots = record {
  consistent = are.consistent;
  office = are.office;
  neighbours = ap (λ (x : Diner). x.neighbours) ed ∙ en ∙ are.neighbours;
  records = ap (λ (x : Drinker). x.records) ek ∙ er ∙ are.records;
  peers = λ r. ap (λ (x : Drinker). x.peer r) ek ∙ ap (λ f. f r) ep ∙ are.peers r;
  channels = λ v. subst (λ g. IsSlotOf p.plan p.me v g (slot_at channels' v)) (sym (fun_ext (λ t. ap (λ x. held_by x (drinker_of bar') v t) ed ∙ ap (λ x. held_by d x v t) ek ∙ eh v t))) (slots v);
}

-- pairs of these parts
abbrev pub made : Diner → Drinker → (ℕ → LinkState) → Pairs
made d k l = record { diner = d; drinker = k; link = l }

-- what the parts mean is what the pairs mean
pub pairs_are : (plan : PlanValue) (me : ℕ) (table : TableValue) (bar : BarValue) (channels : List Slot) (d : Diner) (k : Drinker) (l : ℕ → LinkState) →
    diner_of table ≡ d → drinker_of bar ≡ k → links_of plan.run plan.version me channels ≡ l → pairs_of (pairs_value plan me table bar channels) ≡ record { diner = d; drinker = k; link = l }
pairs_are plan me table bar channels d k l ed ek el =
    ap (λ x. made x (drinker_of bar) (links_of plan.run plan.version me channels)) ed ∙ ap (λ x. made d x (links_of plan.run plan.version me channels)) ek ∙ ap (λ x. made d k x) el
