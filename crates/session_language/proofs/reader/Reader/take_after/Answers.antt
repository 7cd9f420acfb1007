use Rattle.session_language.proofs.reader.Reader.take_after.Goals as goal

pub returns-in-End : goal.returns-in-End
returns-in-End c = rw c.in-End.is (c.take_closing.ensures c.args.plan.now)

pub returns-in-Else : goal.returns-in-Else
returns-in-Else c = rw c.in-Else.is (c.take_otherwise.ensures c.args.plan.now)
