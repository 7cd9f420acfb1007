use Rattle.std.proofs.Common.{rules, ◌≡◌, ◌++◌, Bool, true, refl, sym, subst}
use Rattle.std.specs.String.{string_bytes}
use Rattle.office_map.specs.PlanValue.{PlanValue}
use Rattle.session_streams.specs.declared.requests.asked.Asked.TheVariants as ask
use Rattle.serving.specs.answers.Said.{Unread, said_as}
use Rattle.serving.specs.answers.Answers.{Answered}
use Rattle.serving.proofs.answers_lemmas.Answered.{once_said}
use Rattle.serving.proofs.answers.answering.answer.Goals as goal

pub returns-in-Misread-clause-answered : goal.returns-in-Misread-clause-answered
returns-in-Misread-clause-answered c =
    let s = c.args.office.now in
    let f = c.in-Misread.refusal in
    let old = string_bytes c.args.text.now in
    let new = string_bytes c.add_misread.new.text in
    let is : c.args.asked.now ≡ ask.Misread f = search rules in
    once_said c.add_misread.result c.said-in-Misread.result ((p : PlanValue) → new ≡ old ++ said_as c.args.form p (Unread f)) (λ (b : Bool). Answered c.args.form c.args.tag s c.args.asked.now b s old new) c.said-in-Misread.ensures.said c.add_misread.ensures
    (λ q. subst (λ a. Answered c.args.form c.args.tag s a true s old new) (sym is) (Unread f, (refl, refl), q s.plan))
