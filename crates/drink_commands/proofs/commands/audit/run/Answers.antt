use Rattle.std.proofs.Common.{◌≡◌, ◌∷◌, map, if◌then◌else◌, refl, ap, subst, ◌∙◌, inr, rules}
use Rattle.std.specs.Option.{option_copied}
use Rattle.std.proofs.lemmas.Result.{err_from_is_err_and}
use Rattle.std.specs.String.{string_bytes}
use Rattle.std.specs.Io.KnownBytes.{Appends}
use Rattle.host_files.specs.inputs.Words.{unread}
use Rattle.command_outputs.specs.declared.fault.Fault.TheVariants.{Memory}
use Rattle.drink_commands.proofs.Faults.{no_input}
use Rattle.drink_commands.proofs.Reported.{started}
use Rattle.drink_commands.proofs.JournalTexts.{at_most_one, at_plan, judged}
use Rattle.drink_commands.proofs.commands.audit.run.Goals as goal

pub returns-in_err-words-clause-judged : goal.returns-in_err-words-clause-judged
returns-in_err-words-clause-judged g c =
    let e = err_from_is_err_and c.from_residual.result c.from_residual.ensures.1 in
    let files = g.S.Sources.file_text c.args.sources.now in
    let standard = g.S.Sources.standard_text c.args.sources.now in
    let words = map (λ w. w.now) c.args.journals.now in
    rw (e.1, e.2) (judged files standard (unread standard (c.args.plan.now ∷ words)) c.args.plan.now words Memory refl (at_plan files (unread standard (c.args.plan.now ∷ words)) c.args.plan.now words Memory tt))

pub returns-in_err-found-clause-judged : goal.returns-in_err-found-clause-judged
returns-in_err-found-clause-judged g c =
    let e = err_from_is_err_and c.from_residual-in_err-found.result c.from_residual-in_err-found.ensures.1 in
    let files = g.S.Sources.file_text c.args.sources.now in
    let standard = g.S.Sources.standard_text c.args.sources.now in
    let words = map (λ w. w.now) c.args.journals.now in
    let begun : c.new-standard.result ≡ unread standard (c.args.plan.now ∷ words) = search rules in
    rw (e.1, e.2) (judged files standard c.new-standard.result c.args.plan.now words c.in_err-found.field-0.0 begun c.in_err-found.ensures.fault)

pub returns-in_err-write_whole-clause-judged : goal.returns-in_err-write_whole-clause-judged
returns-in_err-write_whole-clause-judged g c =
    let e = err_from_is_err_and c.from_residual-in_err-write_whole.result c.from_residual-in_err-write_whole.ensures.1 in
    let files = g.S.Sources.file_text c.args.sources.now in
    let standard = g.S.Sources.standard_text c.args.sources.now in
    let words = map (λ w. w.now) c.args.journals.now in
    let begun : c.new-standard.result ≡ unread standard (c.args.plan.now ∷ words) = search rules in
    let f = c.in_err-write_whole.field-0.0 in
    rw (e.1, e.2) (judged files standard c.new-standard.result c.args.plan.now words f begun (c.in_ok-found.ensures.later f (no_input f c.in_err-write_whole.ensures.fault)))

pub returns-in_err-write_found-clause-judged : goal.returns-in_err-write_found-clause-judged
returns-in_err-write_found-clause-judged g c =
    let e = err_from_is_err_and c.from_residual-in_err-write_found.result c.from_residual-in_err-write_found.ensures.1 in
    let files = g.S.Sources.file_text c.args.sources.now in
    let standard = g.S.Sources.standard_text c.args.sources.now in
    let words = map (λ w. w.now) c.args.journals.now in
    let begun : c.new-standard.result ≡ unread standard (c.args.plan.now ∷ words) = search rules in
    let f = c.in_err-write_found.field-0.0 in
    rw (e.1, e.2) (judged files standard c.new-standard.result c.args.plan.now words f begun (c.in_ok-found.ensures.later f (no_input f c.in_err-write_found.ensures.fault)))

pub returns-in_err-words-clause-unwritten : goal.returns-in_err-words-clause-unwritten
returns-in_err-words-clause-unwritten g c =
    let e = err_from_is_err_and c.from_residual.result c.from_residual.ensures.1 in
    rw (e.1, e.2) (inr (refl, refl))

pub returns-in_err-found-clause-unwritten : goal.returns-in_err-found-clause-unwritten
returns-in_err-found-clause-unwritten g c =
    let e = err_from_is_err_and c.from_residual-in_err-found.result c.from_residual-in_err-found.ensures.1 in
    rw (e.1, e.2) (inr (refl, refl))

pub returns-clause-audits : goal.returns-clause-audits
returns-clause-audits g c = λ plan_text texts known.
    let files = g.S.Sources.file_text c.args.sources.now in
    let standard = g.S.Sources.standard_text c.args.sources.now in
    let words = map (λ w. w.now) c.args.journals.now in
    let begun : c.new-standard.result ≡ unread standard (c.args.plan.now ∷ words) = search rules in
    let shown : c.deref-2.result.now ≡ string_bytes c.in_ok-found.found.text = search rules in
    c.in_ok-found.ensures.told plan_text texts (started c.new-standard.result standard files (c.args.plan.now ∷ words) (plan_text ∷ texts) begun known)
    (option_copied c.args.next) (option_copied c.args.left) c.status.result (g.W.Write.contents c.args.out.now) (g.W.Write.contents c.write_whole.new.out)
    (g.T.Targets.written c.args.targets.now) (g.T.Targets.written c.write_found.new.targets) (c.status.ensures ∙ ap (λ b. if b then 0 else 1) c.is_some.ensures)
    (subst (Appends (g.W.Write.contents c.args.out.now) (g.W.Write.contents c.write_whole.new.out)) shown c.in_ok-write_whole.ensures.written)
    c.in_ok-write_found.ensures.written

pub returns-clause-status : goal.returns-clause-status
returns-clause-status g c = at_most_one c.is_some.result c.status.result c.status.ensures
