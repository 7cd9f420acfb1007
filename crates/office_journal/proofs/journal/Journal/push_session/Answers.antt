use Rattle.std.proofs.Common.{◌≡◌, ◌<◌, List, ◌++◌, ◌∷◌, [], length, sym, ap, subst, ◌∙◌, arith}
use Rattle.std.specs.Prelude.{slice_get}
use Rattle.std.proofs.lemmas.List.{length_push}
use Rattle.session_meaning.specs.ProgramValue.{ProgramValue}
use Rattle.office_journal.specs.declared.event.Event.TheVariants as event
use Rattle.office_journal.specs.declared.reply.Reply.TheVariants as reply
use Rattle.office_journal.specs.refinement.PackedEntries.{Beside}
use Rattle.office_journal.specs.refinement.JournalOfCode.{JournalValue}
use Rattle.office_journal.proofs.KeptEntries.{entry_pushed, kept_push, program_extends, session_placed, last_program}
use Rattle.office_journal.proofs.journal.Journal.push_session.Goals as goal

pub overflow_cast-place : goal.overflow_cast-place
overflow_cast-place c =
    let s = c.self.inside in
    omega (arith, c.len-place.ensures.count, c.len-place.ensures.few, c.len-place-2.ensures, c.self.invariant.few, s.programs.ok.0)

pub push_reserved-requires : goal.push_reserved-requires
push_reserved-requires c = omega (arith, subst (λ (j : JournalValue). 0 < j.programs) (sym c.self.view_is) c.requires.program)

pub push-requires : goal.push-requires
push-requires c = subst (λ (j : JournalValue). 0 < j.room) (sym c.self.view_is) c.requires.room

pub invariant_of-self : goal.invariant_of-self
invariant_of-self c =
    let s = c.self.inside in
    let b : Beside = record { programs = s.programs.items; texts = s.texts.items } in
    let b' : Beside = record { programs = c.push_reserved.new.self.items; texts = s.texts.items } in
    let longer = ap length c.push_reserved.ensures.items ∙ length_push s.programs.items c.args.program in
    let place : c.of_session-entry.result.place ≡ length s.programs.items = omega (arith, c.of_session-entry.ensures.place, c.len-place-2.ensures, s.programs.ok.0) in
    kept_push b b' s.pages.entries c.push.new.self.entries c.of_session-entry.result (program_extends s.programs.items c.push_reserved.new.self.items s.texts.items c.args.program c.push_reserved.ensures.items) c.push.ensures c.self.invariant
    (session_placed b' c.of_session-entry.result c.of_session-entry.ensures.no_text (omega (arith, place, longer))) (omega (arith, longer)) (omega arith)

pub returns : goal.returns
returns c =
    let s = c.self.inside in
    let b : Beside = record { programs = s.programs.items; texts = s.texts.items } in
    let b' : Beside = record { programs = c.push_reserved.new.self.items; texts = s.texts.items } in
    let place : c.len-place-2.result ≡ length s.programs.items = omega (arith, c.len-place-2.ensures, s.programs.ok.0) in
    let there = ap (λ (l : List ProgramValue). slice_get l c.len-place-2.result) c.push_reserved.ensures.items ∙ last_program s.programs.items c.args.program c.len-place-2.result place in
    entry_pushed b b' s.pages.entries c.push.new.self.entries c.of_session-entry.result (record { tag = c.args.tag; event = event.Submit c.args.program; reply = reply.Ticket c.args.ticket })
    (program_extends s.programs.items c.push_reserved.new.self.items s.texts.items c.args.program c.push_reserved.ensures.items) c.push.ensures c.self.invariant.placed (c.of_session-entry.ensures.entry b' c.args.program there)
    ∙ ap (λ (j : JournalValue). j.entries ++ record { tag = c.args.tag; event = event.Submit c.args.program; reply = reply.Ticket c.args.ticket } ∷ []) c.self.view_is
