use Rattle.std.proofs.Common.{sym, ap, ◌∙◌, rules}
use Rattle.std.specs.List.{position}
use Rattle.session_meaning.proofs.working_copies.RecordLookup.{is_of, is_in, position_shown}
use Rattle.session_meaning.proofs.working_copy.WorkingCopy.place.Goals as goal

pub place_in-requires : goal.place_in-requires
place_in-requires c = search rules

pub returns : goal.returns
returns c =
    c.place_in.ensures ∙ ap (position (is_of c.args.id)) c.deref.ensures.value ∙ sym (position_shown c.self.inside.slots.items c.args.id) ∙ ap (position (is_in c.args.id)) c.self.view_is
