use Rattle.std.proofs.Common.{ap, ◌∙◌, map, refl, arith, rules}
use Rattle.office_journal.specs.refinement.PackedEntries.{entry_in}
use Rattle.office_journal.specs.refinement.JournalOfCode.{JournalValue}
use Rattle.office_journal.proofs.KeptEntries.{same_length, kept_still}
use Rattle.office_journal.proofs.journal.Journal.make_room.Goals as goal

pub make_room-requires : goal.make_room-requires
make_room-requires c = let s = c.self.inside in omega (arith, same_length s.pages (record { programs = s.programs.items; texts = s.texts.items }) _ _ c.args.self.now c.self.view_is, c.len.ensures)

pub invariant_of-self : goal.invariant_of-self
invariant_of-self c = let s = c.self.inside in kept_still (record { programs = s.programs.items; texts = s.texts.items }) (record { programs = s.programs.items; texts = s.texts.items }) s.pages.entries c.make_room.new.self.entries refl c.make_room.ensures.unchanged c.self.invariant

pub invariant_of-self-2 : goal.invariant_of-self-2
invariant_of-self-2 c = let s = c.self.inside in kept_still (record { programs = s.programs.items; texts = s.texts.items }) (record { programs = s.programs.items; texts = s.texts.items }) s.pages.entries c.make_room.new.self.entries refl c.make_room.ensures.unchanged c.self.invariant

pub returns-in_err-make_room-clause-unchanged : goal.returns-in_err-make_room-clause-unchanged
returns-in_err-make_room-clause-unchanged c = let s = c.self.inside in ap (map (entry_in (record { programs = s.programs.items; texts = s.texts.items }))) c.make_room.ensures.unchanged ∙ ap (λ (v : JournalValue). v.entries) c.self.view_is

pub returns-clause-unchanged : goal.returns-clause-unchanged
returns-clause-unchanged c = let s = c.self.inside in ap (map (entry_in (record { programs = s.programs.items; texts = s.texts.items }))) c.make_room.ensures.unchanged ∙ ap (λ (v : JournalValue). v.entries) c.self.view_is

pub returns-in_err-make_room-clause-full : goal.returns-in_err-make_room-clause-full
returns-in_err-make_room-clause-full c = search rules

pub returns-clause-full : goal.returns-clause-full
returns-clause-full c = search rules
