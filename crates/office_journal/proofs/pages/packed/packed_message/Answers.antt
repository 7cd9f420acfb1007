use Rattle.std.proofs.Common.{IsTrue, subst}
use Rattle.std.specs.Prelude.{IfSome}
use Rattle.frame_codec.specs.Frame.{carries}
use Rattle.office_journal.proofs.pages.packed.packed_message.Goals as goal

pub returns-in-Some-clause-carried : goal.returns-in-Some-clause-carried
returns-in-Some-clause-carried c = subst (λ m. IfSome m (λ n. IsTrue (carries c.args.frame.now.version n))) c.msg.ensures.value c.msg.ensures.carried

pub returns-in-None-clause-carried : goal.returns-in-None-clause-carried
returns-in-None-clause-carried c = subst (λ m. IfSome m (λ n. IsTrue (carries c.args.frame.now.version n))) c.msg.ensures.value c.msg.ensures.carried
