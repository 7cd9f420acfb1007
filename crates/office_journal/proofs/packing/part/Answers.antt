use Rattle.std.proofs.Common.{ap}
use Rattle.office_journal.specs.pages.Framed.{frame_in}
use Rattle.office_journal.specs.declared.pages.kind.Kind.{Kind}
use Rattle.office_journal.specs.refinement.PackedEntries.{event_by}
use Rattle.office_journal.proofs.packing.part.Goals as goal

pub returns-in-Acked : goal.returns-in-Acked
returns-in-Acked c = λ texts. (frame_in texts c.args.packed.now, ap (λ (k : Kind). event_by k (record { programs = c.args.programs.now; texts = texts }) c.args.packed.now) c.in-Acked.is)

pub returns-in-Taken : goal.returns-in-Taken
returns-in-Taken c = λ texts. (frame_in texts c.args.packed.now, ap (λ (k : Kind). event_by k (record { programs = c.args.programs.now; texts = texts }) c.args.packed.now) c.in-Taken.is)

pub returns-in-Repeat : goal.returns-in-Repeat
returns-in-Repeat c = λ texts. (frame_in texts c.args.packed.now, ap (λ (k : Kind). event_by k (record { programs = c.args.programs.now; texts = texts }) c.args.packed.now) c.in-Repeat.is)

pub returns-in-Kept : goal.returns-in-Kept
returns-in-Kept c = λ texts. (frame_in texts c.args.packed.now, ap (λ (k : Kind). event_by k (record { programs = c.args.programs.now; texts = texts }) c.args.packed.now) c.in-Kept.is)

pub returns-in-Early : goal.returns-in-Early
returns-in-Early c = λ texts. (frame_in texts c.args.packed.now, ap (λ (k : Kind). event_by k (record { programs = c.args.programs.now; texts = texts }) c.args.packed.now) c.in-Early.is)
