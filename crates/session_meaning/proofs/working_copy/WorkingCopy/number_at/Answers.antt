use Rattle.std.proofs.Common.{◌≡◌, ℕ, Some, false, IfSome, IfNone, position, ap, ◌∙◌, subst}
use Rattle.bottle_values.specs.declared.Value.TheVariants.{Number}
use Rattle.bottle_values.specs.Values.{is_number}
use Rattle.session_meaning.specs.Meaning.{value_in}
use Rattle.session_meaning.specs.declared.slots.Slot.{Slot}
use Rattle.session_meaning.proofs.working_copies.RecordLookup.{is_in, value_shown}
use Rattle.session_meaning.proofs.working_copy.WorkingCopy.number_at.Goals as goal

pub returns-clause-some : goal.returns-clause-some
returns-clause-some c = λ id at.
    let same = ap (λ (s : Slot). s.value) c.index-slot.ensures ∙ value_shown c.self.inside.slots.items id c.args.place c.index-slot.result.now (ap (position (is_in id)) c.self.view_is ∙ at) ∙ ap (λ slots. value_in slots id) c.self.view_is in
    subst (λ v. IfSome c.number.result (λ number. v ≡ Number number)) same c.number.ensures.some

pub returns-clause-none : goal.returns-clause-none
returns-clause-none c = λ id at.
    let same = ap (λ (s : Slot). s.value) c.index-slot.ensures ∙ value_shown c.self.inside.slots.items id c.args.place c.index-slot.result.now (ap (position (is_in id)) c.self.view_is ∙ at) ∙ ap (λ slots. value_in slots id) c.self.view_is in
    subst (λ v. IfNone c.number.result (is_number v ≡ false)) same c.number.ensures.none
