use Rattle.std.proofs.Common.{◌≡◌, List, ℕ, Some, None, ap, sym, ◌∙◌}
use Rattle.std.specs.Prelude.{option_map, slice_get}
use Rattle.std.specs.Option.{option_copied}
use Rattle.std.proofs.lemmas.Option.{slice_get-map}
use Rattle.session_meaning.specs.ProgramValue.{ProgramValue}
use Rattle.office_journal.specs.refinement.PackedEntries.{Beside, entry_in}
use Rattle.office_journal.specs.refinement.JournalOfCode.{JournalValue}
use Rattle.office_journal.proofs.journal.Journal.get.Goals as goal

pub returns-in-Some : goal.returns-in-Some
returns-in-Some c =
    let s = c.self.inside in
    let b : Beside = record { programs = s.programs.items; texts = s.texts.items } in
    let there : Some c.in-Some.packed.now ≡ slice_get s.pages.entries c.args.i = sym (ap option_copied c.in-Some.is) ∙ c.get.ensures in
    ap Some (c.shown.ensures ∙ ap (λ (l : List ProgramValue). entry_in (record { programs = l; texts = c.as_slice-in-Some.result.now }) c.in-Some.packed.now) c.as_slice.ensures.value
    ∙ ap (λ (l : List (List ℕ)). entry_in (record { programs = s.programs.items; texts = l }) c.in-Some.packed.now) c.as_slice-in-Some.ensures.value)
    ∙ ap (option_map (entry_in b)) there ∙ sym (slice_get-map (entry_in b) s.pages.entries c.args.i)
    ∙ ap (λ (v : JournalValue). slice_get v.entries c.args.i) c.self.view_is

pub returns-in-None : goal.returns-in-None
returns-in-None c =
    let s = c.self.inside in
    let b : Beside = record { programs = s.programs.items; texts = s.texts.items } in
    let there : None ≡ slice_get s.pages.entries c.args.i = sym (ap option_copied c.in-None.is) ∙ c.get.ensures in
    ap (option_map (entry_in b)) there ∙ sym (slice_get-map (entry_in b) s.pages.entries c.args.i) ∙ ap (λ (v : JournalValue). slice_get v.entries c.args.i) c.self.view_is
