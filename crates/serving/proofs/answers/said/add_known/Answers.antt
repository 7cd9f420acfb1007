use Rattle.std.proofs.Common.{◌≡◌, ◌++◌, Option, None, sym, ap, ◌∙◌}
use Rattle.std.specs.Option.{option_copied}
use Rattle.std.specs.String.{string_bytes}
use Rattle.office_map.specs.PlanValue.{PlanValue}
use Rattle.session_meaning.specs.declared.ending.Outcome.{Outcome}
use Rattle.site_core.specs.Journals.{office_of}
use Rattle.site_core.specs.Readers.{outcome_with}
use Rattle.serving.specs.answers.Said.{Pending, said_as}
use Rattle.serving.specs.answers.Answers.{known, said_of}
use Rattle.serving.proofs.answers_lemmas.Answered.{on_ok}
use Rattle.serving.proofs.answers.said.add_known.Goals as goal

pub returns-in-None : goal.returns-in-None
returns-in-None c =
    let s = c.args.office.now in
    let t = c.args.ticket in
    let old = string_bytes c.args.text.now in
    let new = string_bytes c.add_pending.new.text in
    let none : outcome_with (office_of s).agenda.outcomes t ≡ None = sym c.outcome.ensures ∙ ap option_copied c.in-None.is in
    on_ok c.add_pending.result ((p : PlanValue) → new ≡ old ++ said_as c.args.form p (Pending t)) (new ≡ old ++ said_as c.args.form s.plan (known s t)) (λ h. h s.plan ∙ ap (λ (o : Option Outcome). old ++ said_as c.args.form s.plan (said_of t o)) (sym none)) c.add_pending.ensures
