use Rattle.std.proofs.Common.{ap, ◌∙◌}
use Rattle.std.specs.List.{position}
use Rattle.session_meaning.specs.Meaning.{value_in}
use Rattle.session_meaning.specs.declared.slots.Slot.{Slot}
use Rattle.session_meaning.proofs.working_copies.RecordLookup.{is_in, value_shown}
use Rattle.session_meaning.proofs.working_copy.WorkingCopy.value_at.Goals as goal

pub returns : goal.returns
returns c = λ id at. ap (λ (s : Slot). s.value) c.index.ensures ∙ value_shown c.self.inside.slots.items id c.args.place c.index.result.now (ap (position (is_in id)) c.self.view_is ∙ at) ∙ ap (λ slots. value_in slots id) c.self.view_is
