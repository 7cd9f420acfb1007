use Rattle.std.proofs.Common.{◌≡◌, ◌<◌, ◌++◌, ◌∷◌, [], length, sym, ap, subst, ◌∙◌, arith}
use Rattle.office_journal.specs.pages.Framed.{text_carried}
use Rattle.office_journal.specs.declared.event.Event.TheVariants as event
use Rattle.office_journal.specs.declared.reply.Reply.TheVariants as reply
use Rattle.office_journal.specs.refinement.PackedEntries.{Beside}
use Rattle.office_journal.specs.refinement.JournalOfCode.{JournalValue}
use Rattle.office_journal.proofs.KeptEntries.{entry_pushed, kept_push, text_extends, text_more, last_text}
use Rattle.office_journal.proofs.journal.Journal.push_sent.Goals as goal

pub overflow_cast-place : goal.overflow_cast-place
overflow_cast-place c =
    let s = c.self.inside in
    omega (arith, c.len-place.ensures.count, c.len-place.ensures.few, c.len-place-2.ensures, c.self.invariant.few_texts, s.texts.ok.0)

pub keep_text-requires : goal.keep_text-requires
keep_text-requires c = λ has. omega (arith, subst (λ (j : JournalValue). 0 < j.texts) (sym c.self.view_is) (c.requires.text has))

pub push-requires : goal.push-requires
push-requires c = subst (λ (j : JournalValue). 0 < j.room) (sym c.self.view_is) c.requires.room

pub invariant_of-self : goal.invariant_of-self
invariant_of-self c =
    let s = c.self.inside in
    let texts' = c.keep_text.new.texts.items in
    let m = c.args.frame.now.msg in
    let b : Beside = record { programs = s.programs.items; texts = s.texts.items } in
    let b' : Beside = record { programs = s.programs.items; texts = texts' } in
    let place : c.len-place-2.result ≡ length s.texts.items = omega (arith, c.len-place-2.ensures, s.texts.ok.0) in
    let at = last_text s.texts.items texts' c.len-place-2.result m place c.keep_text.ensures in
    kept_push b b' s.pages.entries c.push.new.self.entries c.of_frame-entry.result (text_extends s.programs.items s.texts.items texts' (text_carried m) c.keep_text.ensures) c.push.ensures c.self.invariant
    (c.of_frame-entry.ensures.placed b' at) (omega arith) (text_more s.texts.items texts' (text_carried m) c.keep_text.ensures)

pub returns : goal.returns
returns c =
    let s = c.self.inside in
    let texts' = c.keep_text.new.texts.items in
    let m = c.args.frame.now.msg in
    let b : Beside = record { programs = s.programs.items; texts = s.texts.items } in
    let b' : Beside = record { programs = s.programs.items; texts = texts' } in
    let place : c.len-place-2.result ≡ length s.texts.items = omega (arith, c.len-place-2.ensures, s.texts.ok.0) in
    let at = last_text s.texts.items texts' c.len-place-2.result m place c.keep_text.ensures in
    entry_pushed b b' s.pages.entries c.push.new.self.entries c.of_frame-entry.result (record { tag = c.args.tag; event = event.Send c.args.v c.args.i; reply = reply.Frame c.args.frame.now })
    (text_extends s.programs.items s.texts.items texts' (text_carried m) c.keep_text.ensures) c.push.ensures c.self.invariant.placed (c.of_frame-entry.ensures.entry b' at)
    ∙ ap (λ (j : JournalValue). j.entries ++ record { tag = c.args.tag; event = event.Send c.args.v c.args.i; reply = reply.Frame c.args.frame.now } ∷ []) c.self.view_is
