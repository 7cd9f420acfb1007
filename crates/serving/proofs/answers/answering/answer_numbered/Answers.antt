use Rattle.std.proofs.Common.{rules, ◌≡◌, ◌≢◌, ◌++◌, Bool, suc}
use Rattle.std.specs.String.{string_bytes}
use Rattle.office_map.specs.PlanValue.{PlanValue}
use Rattle.session_streams.specs.declared.requests.asked.Asked.TheVariants as ask
use Rattle.serving.specs.declared.answers.answering.Again.TheVariants as again
use Rattle.serving.specs.answers.Said.{OtherSession, TicketAhead, said_as}
use Rattle.serving.specs.answers.Answers.{Answered, session_under, tickets_of}
use Rattle.serving.specs.answers.refinement.{IsAgain}
use Rattle.serving.proofs.answers_lemmas.Answered.{again_never, again_other, asked_again, once_said}
use Rattle.serving.proofs.answers.answering.answer_numbered.Goals as goal

pub returns-in-Ok-Other-clause-answered : goal.returns-in-Ok-Other-clause-answered
returns-in-Ok-Other-clause-answered c =
    let s = c.args.office.now in
    let t = c.args.ticket in
    let x = c.args.program.now in
    let old = string_bytes c.args.text.now in
    let new = string_bytes c.add_other.new.text in
    let other : t ≢ suc (tickets_of s) = λ e. let yes' = c.is_next.ensures.1 e in absurd (cc (yes', c.if-is_next.false)) in
    let is : IsAgain (session_under s t) x again.Other = search rules in
    once_said c.add_other.result c.said-in-Ok-Other.result ((p : PlanValue) → new ≡ old ++ said_as c.args.form p OtherSession) (λ (b : Bool). Answered c.args.form c.args.tag s (ask.Numbered t x) b s old new) c.said-in-Ok-Other.ensures.said c.add_other.ensures
    (λ q. (OtherSession, asked_again c.args.tag s t x OtherSession other (again_other s t x is.0 (session_under s t) is.1 is.2), q s.plan))

pub returns-in-Ok-Never-clause-answered : goal.returns-in-Ok-Never-clause-answered
returns-in-Ok-Never-clause-answered c =
    let s = c.args.office.now in
    let t = c.args.ticket in
    let x = c.args.program.now in
    let old = string_bytes c.args.text.now in
    let new = string_bytes c.add_ahead.new.text in
    let other : t ≢ suc (tickets_of s) = λ e. let yes' = c.is_next.ensures.1 e in absurd (cc (yes', c.if-is_next.false)) in
    let is : IsAgain (session_under s t) x again.Never = search rules in
    once_said c.add_ahead.result c.said-in-Ok-Never.result ((p : PlanValue) → new ≡ old ++ said_as c.args.form p TicketAhead) (λ (b : Bool). Answered c.args.form c.args.tag s (ask.Numbered t x) b s old new) c.said-in-Ok-Never.ensures.said c.add_ahead.ensures
    (λ q. (TicketAhead, asked_again c.args.tag s t x TicketAhead other (again_never s t x (session_under s t) is), q s.plan))
