use Rattle.std.proofs.Common.{length, sym, ap, ◌∙◌, arith}
use Rattle.journal_weave.specs.Replays.{given, given_at}
use Rattle.journal_weave.proofs.replay.Replay.given.Goals as goal

pub returns-in-None-clause-count : goal.returns-in-None-clause-count
returns-in-None-clause-count c = c.len-all.ensures ∙ ap length c.journal.ensures.entries ∙ sym (ap (given_at (length c.self.inside.office.entries)) c.in-None.is) ∙ ap given c.self.view_is

pub returns-in-None-clause-few : goal.returns-in-None-clause-few
returns-in-None-clause-few c = omega (arith, c.len-all.ensures, c.journal.ensures.few)

pub returns-in-Some-clause-count : goal.returns-in-Some-clause-count
returns-in-Some-clause-count c = sym (ap (given_at (length c.self.inside.office.entries)) c.in-Some.is) ∙ ap given c.self.view_is

pub returns-in-Some-clause-few : goal.returns-in-Some-clause-few
returns-in-Some-clause-few c = omega (arith, ap (given_at (length c.self.inside.office.entries)) c.in-Some.is, c.self.invariant, ap length c.journal.ensures.entries, c.journal.ensures.few)
