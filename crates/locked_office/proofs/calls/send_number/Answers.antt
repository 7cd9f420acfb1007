use Rattle.std.proofs.Common.{◌∙◌, ◌≤◌, length, Option, Result, sym, ap, subst}
use Rattle.frame_codec.specs.Frame.{Fields}
use Rattle.office_journal.specs.declared.reply.Refusal.{Refusal}
use Rattle.site_core.specs.Journals.{Site}
use Rattle.locked_office.specs.Calls.{Did}
use Rattle.site_core.specs.Growing.{link_to}
use Rattle.locked_office.specs.Sends.{SendsNumber}
use Rattle.locked_office.specs.refinement.Places.{place_at}
use Rattle.locked_office.proofs.ByNumber.{number_did}
use Rattle.locked_office.proofs.calls.send_number.Goals as goal

pub returns-clause-did : goal.returns-clause-did
returns-clause-did c =
    subst (λ (r : Result (Option Fields) Refusal). Did (λ s s'. SendsNumber c.args.pass.now.tag c.args.v c.args.number r s s') c.args.lock.now.key c.args.pass.now c.give_back-2.new.pass) (sym c.framed.ensures)
    (number_did c.steps_add_their_entry.ensures c.args.lock.now c.args.pass.now c.give_back-2.new.pass c.tag.result c.args.v c.args.number c.in-Some.place c.send-reply.result c.args.held c.state.result.now c.send-reply.new.self c.requires c.state.ensures.value c.tag.ensures.value
    (ap (λ (o : Site). place_at o c.args.v c.args.number) (sym c.get.ensures) ∙ sym c.in-Some.ensures.place)
    (subst (λ (o : Site). length (link_to o c.args.v).sending.waiting ≤ 18) c.get.ensures c.in-Some.ensures.few)
    c.send-reply.ensures c.give_back-2.ensures.seen c.give_back-2.ensures.legal c.give_back-2.ensures.back)
