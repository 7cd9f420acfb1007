use Rattle.std.proofs.Common.{◌≤◌, refl, sym, subst, ◌∙◌, arith, rules}
use Rattle.std.specs.Prelude.{IfSome}
use Rattle.site_core.proofs.OfficeSteps.{framed_message, not_err, noted_more}
use Rattle.site_core.proofs.office.Office.send.Goals as goal

pub invariant_of-self-2 : goal.invariant_of-self-2
invariant_of-self-2 c =
    let s = c.self.inside in
    framed_message s.pairs s.agenda s.journal.entries c.push_sent.new.self.entries c.args.tag c.args.v c.args.i c.in-Some.frame c.self.invariant (sym c.frame.ensures.frame ∙ c.in-Some.is) c.requires (λ e. not_err _ _ (c.in_ok-make_room.ensures.full.1 e))
    (noted_more _ _ _ _ _ c.push_sent.ensures (c.in_ok-make_room_for_text.ensures.unchanged ∙ c.in_ok-make_room.ensures.unchanged) refl)

pub push_sent-requires-clause-room : goal.push_sent-requires-clause-room
push_sent-requires-clause-room c = omega (arith, c.in_ok-make_room.ensures.room, c.in_ok-make_room_for_text.ensures.room)

pub push_sent-requires-clause-few : goal.push_sent-requires-clause-few
push_sent-requires-clause-few c = subst (λ r. IfSome r (λ _. c.args.i ≤ 18)) c.in-Some.is c.frame.ensures.few

pub returns : goal.returns
returns c = search rules

pub returns-in_err-make_room_for_text : goal.returns-in_err-make_room_for_text
returns-in_err-make_room_for_text c = search rules
