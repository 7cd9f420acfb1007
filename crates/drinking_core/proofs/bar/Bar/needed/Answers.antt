use Rattle.std.proofs.Common.{sym, subst}
use Rattle.drinking_core.specs.refinement.Bars.{BarValue, drinker_of}
use Rattle.drinking_core.specs.refinement.Masks.{Tells}
use Rattle.drinking_core.proofs.MaskUpdates.{told_bit}
use Rattle.drinking_core.proofs.bar.Bar.needed.Goals as goal

pub returns : goal.returns
returns c =
    let s = c.self.inside in
    subst (λ (b : BarValue). Tells b.records s.needed (drinker_of b).needed) c.self.view_is (λ k lt. sym (told_bit s.records.items s.spots.items c.self.invariant.spotted s.needed k lt))
