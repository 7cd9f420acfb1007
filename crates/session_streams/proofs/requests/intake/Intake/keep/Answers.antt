use Rattle.std.proofs.Common.{◌++◌, List, sym, ap, ◌∙◌, append-nil, arith}
use Rattle.std.proofs.lemmas.Result.{on_ok_weaker}
use Rattle.session_streams.specs.declared.requests.asked.Asked.{Asked}
use Rattle.session_streams.specs.requests.Bytes.{Taking}
use Rattle.session_streams.specs.requests.refinement.{asking_of, taking_of}
use Rattle.session_streams.proofs.requests_lemmas.Kept.{added_asked, added_state, long_asked, long_state, skipped}
use Rattle.session_streams.proofs.requests.intake.Intake.keep.Goals as goal

pub returns-then-self-clause-state : goal.returns-then-self-clause-state
returns-then-self-clause-state c = λ p me. sym (ap (λ (x : Taking × List Asked). x.0) (skipped p me (taking_of c.args.self.now) c.args.part.now c.if-self.true c.requires))

pub returns-then-self-clause-asked : goal.returns-then-self-clause-asked
returns-then-self-clause-asked c = λ p me. sym (append-nil c.args.asked.now.items) ∙ ap (λ (x : Taking × List Asked). c.args.asked.now.items ++ x.1) (sym (skipped p me (taking_of c.args.self.now) c.args.part.now c.if-self.true c.requires))

pub returns-then-part-saturating_sub-clause-state : goal.returns-then-part-saturating_sub-clause-state
returns-then-part-saturating_sub-clause-state c =
    on_ok_weaker c.pass_over.result
    (λ is p me. long_state p me (taking_of c.args.self.now) c.args.part.now c.clear.new.self.items c.value.result (asking_of c.pass_over.new.self) c.if-self.false c.requires (omega (arith, c.if-part-saturating_sub.true, c.saturating_sub.ensures, c.len.ensures))
    c.value.ensures.value c.clear.ensures.items is)
    c.pass_over.ensures.state

pub returns-then-part-saturating_sub-clause-asked : goal.returns-then-part-saturating_sub-clause-asked
returns-then-part-saturating_sub-clause-asked c =
    on_ok_weaker c.pass_over.result
    (λ is p me. long_asked p me (taking_of c.args.self.now) c.args.part.now c.value.result c.args.asked.now.items c.pass_over.new.asked.items c.if-self.false c.requires (omega (arith, c.if-part-saturating_sub.true, c.saturating_sub.ensures, c.len.ensures))
    c.value.ensures.value is)
    c.pass_over.ensures.asked

pub returns-clause-state : goal.returns-clause-state
returns-clause-state c = added_state c.extend_from_slice.result (taking_of c.args.self.now) c.args.part.now c.extend_from_slice.new.self.items c.if-self.false c.requires (omega (arith, c.if-part-saturating_sub.false, c.saturating_sub.ensures, c.len.ensures)) c.extend_from_slice.ensures.items

pub returns-clause-asked : goal.returns-clause-asked
returns-clause-asked c = added_asked c.extend_from_slice.result (taking_of c.args.self.now) c.args.part.now c.args.asked.now.items c.if-self.false c.requires (omega (arith, c.if-part-saturating_sub.false, c.saturating_sub.ensures, c.len.ensures))
