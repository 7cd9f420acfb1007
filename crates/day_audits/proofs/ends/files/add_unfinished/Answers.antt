use Rattle.std.proofs.Common.{◌≡◌, ◌++◌, [], ◌∷◌, true, false, OnOk, sym, ap, subst, ◌∙◌, append-nil}
use Rattle.std.specs.Prelude.{All, IsTrue}
use Rattle.std.specs.String.{string_bytes}
use Rattle.std.proofs.lemmas.List.Elements.{All-nil, All-push}
use Rattle.office_map.specs.PlanValue.{PlanValue}
use Rattle.session_programs.specs.Program.{fits, text_under}
use Rattle.day_audits.specs.left.LeftTexts.{ReadsBack, texts_of}
use Rattle.day_audits.specs.ends.FileEnds.{one_left}
use Rattle.day_audits.proofs.ends_lemmas.FileSessions.{on_ok, one_is}
use Rattle.day_audits.proofs.ends.files.add_unfinished.Goals as goal

pub returns-then-is_unfinished-clause-added : goal.returns-then-is_unfinished-clause-added
returns-then-is_unfinished-clause-added c =
    let w = c.args.world.now in
    let x = c.args.program.now in
    let one : one_left w c.args.before.now x ≡ x ∷ [] = one_is w c.args.before.now x true (sym c.is_unfinished.ensures ∙ c.if-is_unfinished.true) in
    let text : texts_of w.plan (one_left w c.args.before.now x) ≡ text_under w.plan x = ap (texts_of w.plan) one ∙ append-nil (text_under w.plan x) in
    subst (λ l. OnOk c.add_program.result (string_bytes c.add_program.new.text ≡ string_bytes c.args.text.now ++ l)) (sym text)
    (subst (λ (p : PlanValue). OnOk c.add_program.result (string_bytes c.add_program.new.text ≡ string_bytes c.args.text.now ++ text_under p x)) c.plan.ensures c.add_program.ensures.added)

pub returns-then-is_unfinished-clause-read : goal.returns-then-is_unfinished-clause-read
returns-then-is_unfinished-clause-read c =
    let w = c.args.world.now in
    let x = c.args.program.now in
    let one : one_left w c.args.before.now x ≡ x ∷ [] = one_is w c.args.before.now x true (sym c.is_unfinished.ensures ∙ c.if-is_unfinished.true) in
    let here : ReadsBack w.plan x = subst (λ (p : PlanValue). ReadsBack p x) c.plan.ensures c.add_program.ensures.read in
    on_ok c.add_program.result _ (subst (All (ReadsBack w.plan)) (sym one) (All-push (ReadsBack w.plan) [] x (All-nil (ReadsBack w.plan)) here))

pub returns-else-is_unfinished-clause-added : goal.returns-else-is_unfinished-clause-added
returns-else-is_unfinished-clause-added c =
    let w = c.args.world.now in
    let none : one_left w c.args.before.now c.args.program.now ≡ [] = one_is w c.args.before.now c.args.program.now false (sym c.is_unfinished.ensures ∙ c.if-is_unfinished.false) in
    subst (λ l. string_bytes c.args.text.now ≡ string_bytes c.args.text.now ++ texts_of w.plan l) (sym none) (sym (append-nil (string_bytes c.args.text.now)))

pub returns-else-is_unfinished-clause-read : goal.returns-else-is_unfinished-clause-read
returns-else-is_unfinished-clause-read c =
    let w = c.args.world.now in
    let none : one_left w c.args.before.now c.args.program.now ≡ [] = one_is w c.args.before.now c.args.program.now false (sym c.is_unfinished.ensures ∙ c.if-is_unfinished.false) in
    subst (All (ReadsBack w.plan)) (sym none) (All-nil (ReadsBack w.plan))

pub add_program-requires : goal.add_program-requires
add_program-requires c = subst (λ (p : PlanValue). IsTrue (fits p c.args.program.now)) (sym c.plan.ensures) c.requires.fit
