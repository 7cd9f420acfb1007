use Rattle.std.proofs.Common.{◌≡◌, List, Some, ap, sym, subst, ◌∙◌}
use Rattle.std.specs.Prelude.{option_map, slice_get}
use Rattle.std.specs.Option.{option_copied}
use Rattle.std.proofs.lemmas.Option.{slice_get-map}
use Rattle.session_meaning.specs.ProgramValue.{ProgramValue}
use Rattle.office_journal.specs.Shown.{IsPart}
use Rattle.office_journal.specs.refinement.PackedEntries.{Beside, entry_in, event_by}
use Rattle.office_journal.specs.refinement.JournalOfCode.{JournalValue}
use Rattle.office_journal.proofs.journal.Journal.event_part.Goals as goal

pub returns : goal.returns
returns c =
    let s = c.self.inside in
    let t = c.in_ok-packed.packed.now in
    let b : Beside = record { programs = s.programs.items; texts = s.texts.items } in
    let there : Some t ≡ slice_get s.pages.entries c.args.i = sym (ap option_copied c.in_ok-packed.was) ∙ c.get.ensures in (
      entry_in b t,
      sym (ap (option_map (entry_in b)) there ∙ sym (slice_get-map (entry_in b) s.pages.entries c.args.i) ∙ ap (λ (v : JournalValue). slice_get v.entries c.args.i) c.self.view_is),
      subst (λ (l : List ProgramValue). IsPart c.event_part.result (event_by t.kind (record { programs = l; texts = s.texts.items }) t)) c.as_slice.ensures.value (c.event_part.ensures s.texts.items),
    )
