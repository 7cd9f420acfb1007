use Rattle.std.proofs.Common.{◌<◌, length, sym, subst, arith}
use Rattle.day_audits.specs.audit.Gathering.{Lacks}
use Rattle.day_audits.proofs.audit_lemmas.Following.{lacks_one}
use Rattle.day_audits.proofs.audit.journals.Journals.missing.Goals as goal

pub returns-then-has_none-clause-lacks : goal.returns-then-has_none-clause-lacks
returns-then-has_none-clause-lacks c plan texts g =
    let j = c.args.self.now in
    let within : c.loop-a.a < length j.slots = omega (arith, c.loop-a-test.true, c.offices-a-end.ensures.count) in
    subst (Lacks plan texts) (sym c.new.ensures)
    (lacks_one plan texts j g c.a_text_is_one_journal.ensures c.loop-a.a within (c.has_none.ensures.none c.if-has_none.true) c.loop-a.invariant)
