use Rattle.std.proofs.Common.{◌≡◌, ◌++◌, OnOk, ap, sym, subst, ◌∙◌}
use Rattle.std.specs.Prelude.{All, IsTrue}
use Rattle.std.specs.List.{flat_map}
use Rattle.std.specs.String.{string_bytes}
use Rattle.std.proofs.lemmas.List.Elements.{All-map}
use Rattle.office_map.specs.PlanValue.{PlanValue}
use Rattle.site_core.specs.declared.agendas.session.Session.{Session}
use Rattle.session_programs.specs.Program.{fits, text_under}
use Rattle.day_audits.specs.left.Left.{left_programs, left_sessions}
use Rattle.day_audits.specs.left.LeftTexts.{ReadsBack, texts_of}
use Rattle.day_audits.proofs.left_lemmas.Programs.{on_ok_more, texts_are}
use Rattle.day_audits.proofs.left.texts.add_left.Goals as goal

pub add_each-requires : goal.add_each-requires
add_each-requires c =
    subst (λ (p : PlanValue). All (λ (s : Session). IsTrue (fits p s.program)) c.deref.result.now) (sym c.plan.ensures)
    (subst (All (λ (s : Session). IsTrue (fits c.args.office.now.plan s.program))) (sym c.deref.ensures.value) c.in_ok-sessions.ensures.fit)

pub returns-clause-added : goal.returns-clause-added
returns-clause-added c =
    let p = c.args.office.now.plan in
    let texts : flat_map (λ (s : Session). text_under c.plan.result.now s.program) c.deref.result.now ≡ texts_of p (left_programs c.args.office.now) =
    ap (λ (q : PlanValue). flat_map (λ (s : Session). text_under q s.program) c.deref.result.now) c.plan.ensures
    ∙ ap (flat_map (λ (s : Session). text_under p s.program)) (c.deref.ensures.value ∙ c.in_ok-sessions.ensures.left)
    ∙ texts_are p _ in
    subst (λ t. OnOk c.add_each.result (string_bytes c.add_each.new.text ≡ string_bytes c.args.text.now ++ t)) texts c.add_each.ensures.added

pub returns-clause-read : goal.returns-clause-read
returns-clause-read c =
    let p = c.args.office.now.plan in
    let xs = left_sessions c.args.office.now in
    on_ok_more c.add_each.result (All (λ (s : Session). ReadsBack c.plan.result.now s.program) c.deref.result.now) (All (ReadsBack p) (left_programs c.args.office.now))
    (λ all. All-map (ReadsBack p) (λ (s : Session). s.program) xs
    (subst (λ (q : PlanValue). All (λ (s : Session). ReadsBack q s.program) xs) c.plan.ensures
    (subst (All (λ (s : Session). ReadsBack c.plan.result.now s.program)) (c.deref.ensures.value ∙ c.in_ok-sessions.ensures.left) all)))
    c.add_each.ensures.read
