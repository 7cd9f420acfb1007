use Rattle.office_journal.specs.Shown.{event_shown}
use Rattle.office_journal.proofs.PackedKinds.{shown_again}
use Rattle.office_journal.proofs.packing.shown.Goals as goal

pub returns : goal.returns
returns c = shown_again (record { programs = c.args.programs.now; texts = c.args.texts.now }) c.args.packed.now c.kind-kind.result c.tag.result (event_shown c.event.result) c.reply.result c.kind-kind.ensures c.tag.ensures c.event.ensures c.reply.ensures
