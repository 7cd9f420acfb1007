use Rattle.std.proofs.Common.{◌≡◌, ◌≤◌, ℕ, List, length, sym, ap, ◌∙◌, subst}
use Rattle.drinking_core.specs.Drinkers.{Drinker}
use Rattle.drinking_core.specs.refinement.Bars.{drinker_of}
use Rattle.drinking_core.specs.refinement.Masks.{Tells}
use Rattle.drinking_core.proofs.masked_bar.MaskedBar.open.Goals as goal

pub invariant_of-result : goal.invariant_of-result
invariant_of-result c =
    let d = drinker_of c.in_ok-bar.bar in
    let same : c.records_of.result.now ≡ d.records = c.records_of.ensures.all ∙ sym (ap (λ (x : Drinker). x.records) c.in_ok-bar.ensures) in
    record {
      few = subst (λ (l : List ℕ). length l ≤ 128) same c.records_of.ensures.few;
      requests = subst (λ l. Tells l c.tokens_in-tokens.result d.token) same c.tokens_in-tokens.ensures;
    }
