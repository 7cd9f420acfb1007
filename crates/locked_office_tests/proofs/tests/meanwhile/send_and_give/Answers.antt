use Rattle.std.proofs.Common.{◌≡◌, ℕ, List, [], ◌∷◌, ◌++◌, Result, Ok, Err, refl, sym, ap, subst, ◌∙◌, append-nil}
use Rattle.own_lock.specs.Entries.{AddsOnly}
use Rattle.office_journal.specs.declared.event.Entry.{Entry}
use Rattle.office_journal.specs.declared.event.Event.{Event}
use Rattle.office_journal.specs.declared.event.Event.TheVariants as event
use Rattle.office_journal.specs.declared.reply.Reply.{Reply}
use Rattle.office_journal.specs.declared.reply.Refusal.{Refusal}
use Rattle.site_core.specs.Journals.{Site, Adds}
use Rattle.locked_office.specs.Calls.{tag_of}
use Rattle.locked_office_tests.proofs.tests.meanwhile.send_and_give.Goals as goal

-- the entry of an accepted event, or none
adds_one : (seen : List Entry) (tag : ℕ) (s s' : Site) (e : Event) (result : Result Reply Refusal) → s.entries ≡ seen → Adds s tag e result s' → AddsOnly tag_of tag seen s'.entries
adds_one seen tag s s' e (Ok r) begins a =
    let new : List Entry = record { tag = tag; event = e; reply = r } ∷ [] in
    (new, ap (λ (l : List Entry). l ++ new) (sym begins) ∙ sym (ap (λ (o : Site). o.entries) a), (refl, tt))
adds_one seen tag s s' e (Err r) begins a = ([], append-nil seen ∙ sym begins ∙ sym (ap (λ (o : Site). o.entries) a), tt)

pub give-requires-clause-adds : goal.give-requires-clause-adds
give-requires-clause-adds g c =
    let begins : c.state.result.now.entries ≡ c.args.pass.now.seen = ap (λ (o : Site). o.entries) c.state.ensures.value ∙ c.requires.seen in
    subst (λ (t : ℕ). AddsOnly tag_of t c.args.pass.now.seen c.send.new.self.entries) c.tag.ensures.value
    (adds_one c.args.pass.now.seen c.tag.result c.state.result.now c.send.new.self (event.Send c.new.result 0) c.send.result begins (c.steps_add_their_entry.ensures c.state.result.now c.tag.result (event.Send c.new.result 0) c.send.result c.send.new.self c.send.ensures))
