use Rattle.std.proofs.Common.{ℕ, List, Some, get_or, sym, ap, ◌∙◌, subst, rules}
use Rattle.std.specs.Option.{option_copied}
use Rattle.drinking_core.specs.Drinkers.{started}
use Rattle.drinking_core.specs.refinement.Bars.{BarValue, drinker_of}
use Rattle.drinking_core.proofs.MaskUpdates.{AreOwn, AreBitsOf}
use Rattle.drinking_core.proofs.SessionUpdates.{session_starts, kept_start}
use Rattle.drinking_core.proofs.bar.Bar.start.Goals as goal
use Rattle.bottle_values.specs.Lists.{is_among}

pub invariant_of-self : goal.invariant_of-self
invariant_of-self c =
    let s = c.self.inside in
    let rs : List ℕ = c.in-Some.records.now in
    let own : AreOwn s.records.items rs = λ k d lt. ap (λ (b : BarValue). is_among b.records (get_or rs k d)) c.self.view_is ∙ c.requires c.in-Some.records c.in-Some.is k d lt in
    let bits : AreBitsOf s.spots.items rs c.mask_of-self-inside.result = subst (λ l. AreBitsOf l rs c.mask_of-self-inside.result) c.deref.ensures.value c.mask_of-self-inside.ensures in
    kept_start s.records.items s.spots.items rs s.needed c.mask_of-self-inside.result s.held s.places.items c.self.invariant own bits

pub returns : goal.returns
returns c =
    let s = c.self.inside in
    let rs : List ℕ = c.in-Some.records.now in
    let own : AreOwn s.records.items rs = λ k d lt. ap (λ (b : BarValue). is_among b.records (get_or rs k d)) c.self.view_is ∙ c.requires c.in-Some.records c.in-Some.is k d lt in
    let bits : AreBitsOf s.spots.items rs c.mask_of-self-inside.result = subst (λ l. AreBitsOf l rs c.mask_of-self-inside.result) c.deref.ensures.value c.mask_of-self-inside.ensures in
    record {
      not_now = search rules;
      done = session_starts s.records.items s.spots.items rs c.mask_of-self-inside.result s.places.items c.self.invariant.spotted own bits
          ∙ ap (λ (b : BarValue). started (drinker_of b) (Some rs)) c.self.view_is
          ∙ ap (λ x. started (drinker_of c.args.self.now) (option_copied x)) (sym c.in-Some.is);
      unchanged = search rules;
    }
