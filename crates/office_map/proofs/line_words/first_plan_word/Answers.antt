use Rattle.std.proofs.Common.{sym, ◌∙◌, arith}
use Rattle.std.proofs.lemmas.List.{nil_from_length}
use Rattle.office_map.proofs.PlanWords.{no_words, blank_left, first_cut}
use Rattle.office_map.proofs.line_words.first_plan_word.Goals as goal

pub returns-then-not-is_blank-clause-cut : goal.returns-then-not-is_blank-clause-cut
returns-then-not-is_blank-clause-cut c =
    rw (c.split_at.ensures.front, c.split_at.ensures.back) (sym c.loop-first.invariant.same ∙ first_cut c.loop-first.left.now c.in-Some.first.now c.in-Some.next.now c.min-others.result c.in-Some.ensures.cases.0 (sym c.is_blank.ensures ∙ c.if-not-is_blank.true) (rw c.others_of.ensures at c.min-others.ensures))

pub loop-first-preserved : goal.loop-first-preserved
loop-first-preserved c = record {
  same = sym (blank_left c.loop-first.left.now c.in-Some.first.now c.in-Some.next.now c.in-Some.ensures.cases.0 (sym c.is_blank.ensures ∙ c.if-not-is_blank.false)) ∙ c.loop-first.invariant.same;
  within = omega (arith, c.in-Some.ensures.cases, c.loop-first.invariant.within);
}

pub returns-clause-cut : goal.returns-clause-cut
returns-clause-cut c = sym c.loop-first.invariant.same ∙ no_words c.loop-first.left.now (nil_from_length c.loop-first.left.now c.in_default.ensures.cases)
