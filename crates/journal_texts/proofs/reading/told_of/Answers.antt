use Rattle.std.proofs.Common.{Some, None, length, refl, sym, subst}
use Rattle.office_map.specs.PlanText.{and_then}
use Rattle.text_lines.specs.Text.{lines, statements_from}
use Rattle.journal_texts.specs.Lines.{said_by}
use Rattle.journal_texts.specs.refinement.ReadLines.{Reads, Tells, IsLineFault}
use Rattle.journal_texts.proofs.Receiving.{told_none, told_more, told_fault}
use Rattle.journal_texts.proofs.reading.told_of.Goals as goal

pub loop-line-init : goal.loop-line-init
loop-line-init g c = record {
  fits = c.requires.fits;
  told = told_none c.args.plan.now (statements_from c.args.statements.number (lines c.args.statements.rest.now)) (length c.args.statements.rest.now) (g.E.Entries.holds c.in_ok-told.told c.args.plan.now c.args.office) c.in_ok-told.ensures;
}

pub loop-line-preserved : goal.loop-line-preserved
loop-line-preserved g c =
    let p = c.args.plan.now in
    let all = statements_from c.args.statements.number (lines c.args.statements.rest.now) in
    let said = and_then c.in-Some.words (said_by p) in
    let tells : Tells said c.loop-line.goes_on (g.E.Entries.holds c.loop-line.told) (g.E.Entries.holds c.tell_line.new.told) (Some c.in-Some-2.more) =
    subst (Tells said c.loop-line.goes_on (g.E.Entries.holds c.loop-line.told) (g.E.Entries.holds c.tell_line.new.told)) c.in-Some-2.is c.in_ok-more.ensures in
    record {
      fits = c.in-Some.ensures.fits;
      told = told_more p all _ _ c.in-Some.line c.in-Some._statement.now c.in-Some.words tells.0 _ _ _ c.loop-line.goes_on c.in-Some-2.more _ _ c.in-Some.ensures.gives c.in-Some.ensures.words tells.1
          (λ xs held. tells.2 p c.args.office xs held) c.in-Some.ensures.shorter c.loop-line.invariant.told;
    }

-- the line that says nothing
pub returns-in-None-clause-fault : goal.returns-in-None-clause-fault
returns-in-None-clause-fault g c =
    let p = c.args.plan.now in
    let all = statements_from c.args.statements.number (lines c.args.statements.rest.now) in
    let said = and_then c.in-Some.words (said_by p) in
    let reads : Reads said None =
    subst (Tells said c.loop-line.goes_on (g.E.Entries.holds c.loop-line.told) (g.E.Entries.holds c.tell_line.new.told)) c.in-None.is c.in_ok-more.ensures in
    subst (IsLineFault p all) (sym c.refused.ensures)
    (refl, told_fault p all _ _ c.in-Some.line c.in-Some._statement.now c.in-Some.words _ _ c.loop-line.goes_on _ c.in-Some.ensures.gives c.in-Some.ensures.words reads c.loop-line.invariant.told)
