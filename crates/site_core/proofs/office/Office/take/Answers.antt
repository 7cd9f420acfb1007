use Rattle.std.proofs.Common.{Ok, IsTrue, refl, sym, subst, ◌∙◌, arith, rules}
use Rattle.std.specs.Prelude.{IfSome}
use Rattle.frame_codec.specs.Frame.{carries}
use Rattle.office_journal.specs.declared.event.Event.TheVariants as event
use Rattle.site_core.specs.Journals.{Steps}
use Rattle.site_core.specs.refinement.OfficeOfCode.{site_of}
use Rattle.site_core.proofs.OfficeValues.{keeps_taking}
use Rattle.site_core.proofs.OfficeSteps.{taken_frame, taken_steps, not_err, noted_more}
use Rattle.site_core.proofs.office.Office.take.Goals as goal

pub invariant_of-self-2 : goal.invariant_of-self-2
invariant_of-self-2 c =
    let s = c.self.inside in
    let f = c.args.frame.now in
    let carried : IfSome f.msg (λ m. IsTrue (carries f.version m)) = subst (λ o. IfSome o (λ m. IsTrue (carries f.version m))) c.msg.ensures.value c.msg.ensures.carried in
    taken_frame s.pairs c.take-arrival.new.self s.agenda s.journal.entries c.push_arrival.new.self.entries c.args.tag c.args.frame.now c.take-arrival.result c.self.invariant (keeps_taking s.pairs.plan s.pairs.me f carried) c.take-arrival.ensures.office (sym c.in_default.ensures.fault)
    c.take-arrival.ensures.arrival c.take-arrival.ensures.taken c.requires (λ e. not_err _ _ (c.in_ok-make_room.ensures.full.1 e))
    (noted_more _ _ _ _ _ c.push_arrival.ensures (c.in_ok-make_room_for_text.ensures.unchanged ∙ c.in_ok-make_room.ensures.unchanged) refl)

pub returns : goal.returns
returns c =
    let s = c.self.inside in
    subst (λ x. Steps x c.args.tag (event.Took c.args.frame.now) (Ok c.to.result) (site_of c.take-arrival.new.self c.push_arrival.new.self.entries)) c.self.view_is
    (taken_steps s.pairs c.take-arrival.new.self s.agenda s.journal.entries c.push_arrival.new.self.entries c.args.tag c.args.frame.now c.take-arrival.result c.to.result c.self.invariant c.take-arrival.ensures.office (sym c.in_default.ensures.fault)
    c.take-arrival.ensures.arrival c.to.ensures (λ e. not_err _ _ (c.in_ok-make_room.ensures.full.1 e))
    (noted_more _ _ _ _ _ c.push_arrival.ensures (c.in_ok-make_room_for_text.ensures.unchanged ∙ c.in_ok-make_room.ensures.unchanged) refl))

pub returns-in_err-make_room : goal.returns-in_err-make_room
returns-in_err-make_room c = search rules

pub take-arrival-requires : goal.take-arrival-requires
take-arrival-requires c = search rules

pub returns-in_err-make_room_for_text : goal.returns-in_err-make_room_for_text
returns-in_err-make_room_for_text c = search rules

pub push_arrival-requires-clause-room : goal.push_arrival-requires-clause-room
push_arrival-requires-clause-room c = omega (arith, c.in_ok-make_room.ensures.room, c.in_ok-make_room_for_text.ensures.room)

pub returns-in-Err : goal.returns-in-Err
returns-in-Err c = search rules
