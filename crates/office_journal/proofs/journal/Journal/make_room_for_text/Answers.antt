use Rattle.std.proofs.Common.{List, ℕ, map, sym, ap, subst, ◌∙◌}
use Rattle.office_journal.specs.refinement.PackedEntries.{entry_in}
use Rattle.office_journal.specs.refinement.JournalOfCode.{JournalValue, AreKept}
use Rattle.office_journal.proofs.journal.Journal.make_room_for_text.Goals as goal

pub invariant_of-self : goal.invariant_of-self
invariant_of-self c = let s = c.self.inside in subst (λ (x : List (List ℕ)). AreKept (record { programs = s.programs.items; texts = x }) s.pages.entries) (sym c.reserve.ensures.items) c.self.invariant

pub invariant_of-self-2 : goal.invariant_of-self-2
invariant_of-self-2 c = let s = c.self.inside in subst (λ (x : List (List ℕ)). AreKept (record { programs = s.programs.items; texts = x }) s.pages.entries) (sym c.reserve.ensures.items) c.self.invariant

pub returns-in_err-reserve-clause-unchanged : goal.returns-in_err-reserve-clause-unchanged
returns-in_err-reserve-clause-unchanged c = let s = c.self.inside in ap (λ (x : List (List ℕ)). map (entry_in (record { programs = s.programs.items; texts = x })) s.pages.entries) c.reserve.ensures.items ∙ ap (λ (v : JournalValue). v.entries) c.self.view_is

pub returns-clause-unchanged : goal.returns-clause-unchanged
returns-clause-unchanged c = let s = c.self.inside in ap (λ (x : List (List ℕ)). map (entry_in (record { programs = s.programs.items; texts = x })) s.pages.entries) c.reserve.ensures.items ∙ ap (λ (v : JournalValue). v.entries) c.self.view_is

pub returns-in_err-reserve-clause-room : goal.returns-in_err-reserve-clause-room
returns-in_err-reserve-clause-room c = ap (λ (v : JournalValue). v.room) c.self.view_is

pub returns-clause-room : goal.returns-clause-room
returns-clause-room c = ap (λ (v : JournalValue). v.room) c.self.view_is
