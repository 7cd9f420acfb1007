use Rattle.std.proofs.Common.{◌≡◌, get_or, rules}
use Rattle.std.specs.String.{string_bytes}
use Rattle.day_audits.proofs.left_lemmas.Programs.{one_told}
use Rattle.day_audits.proofs.left.texts.add_each.Goals as goal

pub loop-session-preserved : goal.loop-session-preserved
loop-session-preserved c =
    let x = c.session-item.result in
    let i = c.loop-session.session-index in
    let here : get_or c.args.sessions.now i x ≡ x = search rules in
    one_told c.args.plan.now c.args.sessions.now i x (string_bytes c.args.text.now) (string_bytes c.loop-session.text) (string_bytes c.add_program.new.text) c.loop-session-test.true here c.loop-session.invariant c.in_ok-add_program.ensures.added c.add_program.ensures.read
