use Rattle.std.proofs.Common.{◌≡◌, ◌≤◌, ℕ, length, List, Some, ap, sym, ◌∙◌, subst, refl, true}
use Rattle.std.specs.Prelude.{slice_get, find, ◌&&◌, not}
use Rattle.std.proofs.lemmas.Bool.{ltb-false}
use Rattle.std.proofs.lemmas.Option.{slice_get_read}
use Rattle.dining_core.specs.masks.Sets.{is_in128}
use Rattle.drinking_core.specs.Drinkers.{AskBottle, is_thirsty, may}
use Rattle.drinking_core.specs.refinement.Bars.{BarValue, drinker_of}
use Rattle.drinking_core.proofs.MaskUpdates.{not_thirsty, asked_bits, none_left, none_within, first_told}
use Rattle.drinking_core.proofs.masked_bar.MaskedBar.first_asked.Goals as goal

pub returns-then-not-is_thirsty : goal.returns-then-not-is_thirsty
returns-then-not-is_thirsty c =
    let s = c.self.inside in
    sym (ap (λ (b : BarValue). find (λ r. may (drinker_of b) (AskBottle r)) b.records) (sym c.self.view_is)
    ∙ not_thirsty (drinker_of s.bar) s.bar.records (ap is_thirsty (sym c.phase.ensures) ∙ sym c.is_thirsty.ensures ∙ c.if-not-is_thirsty.true))

pub returns-in_default : goal.returns-in_default
returns-in_default c =
    let s = c.self.inside in
    let d = drinker_of s.bar in
    let m = c.and_not-asked.result in
    let thirsty : is_thirsty d.phase ≡ true = ap is_thirsty (sym c.phase.ensures) ∙ sym c.is_thirsty.ensures ∙ c.if-not-is_thirsty.false in
    let tells = asked_bits d c.held.result s.tokens c.needed.result m c.self.invariant c.held.ensures c.needed.ensures (λ i low. c.and_not-asked.ensures i low ∙ ap (λ b. b && not (is_in128 c.held.result i)) (c.and.ensures i)) thirsty in
    sym (ap (λ (b : BarValue). find (λ r. may (drinker_of b) (AskBottle r)) b.records) (sym c.self.view_is)
    ∙ none_left (λ r. may d (AskBottle r)) d.records m c.self.invariant.few (λ k lt low none. sym (tells k lt) ∙ none) c.in_default.ensures)

pub returns-in-Some-get : goal.returns-in-Some-get
returns-in-Some-get c =
    let s = c.self.inside in
    let d = drinker_of s.bar in
    let m = c.and_not-asked.result in
    let thirsty : is_thirsty d.phase ≡ true = ap is_thirsty (sym c.phase.ensures) ∙ sym c.is_thirsty.ensures ∙ c.if-not-is_thirsty.false in
    let tells = asked_bits d c.held.result s.tokens c.needed.result m c.self.invariant c.held.ensures c.needed.ensures (λ i low. c.and_not-asked.ensures i low ∙ ap (λ b. b && not (is_in128 c.held.result i)) (c.and.ensures i)) thirsty in
    let read : slice_get d.records c.in-Some.k ≡ Some c.in-Some-get.r.now = subst (λ (l : List ℕ). slice_get l c.in-Some.k ≡ Some c.in-Some-get.r.now) c.records.ensures (slice_get_read _ _ _ _ refl c.in-Some-get.ensures.lookup.3.0 c.in-Some-get.ensures.lookup.1) in
    sym (ap (λ (b : BarValue). find (λ r. may (drinker_of b) (AskBottle r)) b.records) (sym c.self.view_is)
    ∙ first_told (λ r. may d (AskBottle r)) d.records m c.in-Some.k c.in-Some-get.r.now c.self.invariant.few tells c.in-Some.ensures read)

pub returns-in-None : goal.returns-in-None
returns-in-None c =
    let s = c.self.inside in
    let d = drinker_of s.bar in
    let m = c.and_not-asked.result in
    let thirsty : is_thirsty d.phase ≡ true = ap is_thirsty (sym c.phase.ensures) ∙ sym c.is_thirsty.ensures ∙ c.if-not-is_thirsty.false in
    let tells = asked_bits d c.held.result s.tokens c.needed.result m c.self.invariant c.held.ensures c.needed.ensures (λ i low. c.and_not-asked.ensures i low ∙ ap (λ b. b && not (is_in128 c.held.result i)) (c.and.ensures i)) thirsty in
    let past : length d.records ≤ c.in-Some.k = subst (λ (l : List ℕ). length l ≤ c.in-Some.k) c.records.ensures (ltb-false _ _ (sym c.in-None.ensures.lookup.0)) in
    sym (ap (λ (b : BarValue). find (λ r. may (drinker_of b) (AskBottle r)) b.records) (sym c.self.view_is)
    ∙ none_within (λ r. may d (AskBottle r)) d.records m c.in-Some.k c.self.invariant.few (λ k lt low none. sym (tells k lt) ∙ none) c.in-Some.ensures past)
