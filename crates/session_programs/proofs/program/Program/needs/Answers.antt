use Rattle.std.proofs.Common.{◌≡◌, rules}
use Rattle.session_programs.specs.measures.Needs.{needs_of}
use Rattle.session_programs.proofs.program.Program.needs.Goals as goal

pub returns-clause-in_order : goal.returns-clause-in_order
returns-clause-in_order c = let all : c.as_slice.result.now ≡ needs_of c.args.self.now.body = search rules in rw all (c.needs_what_it_names.ensures c.args.self.now.body).0

pub returns-clause-named : goal.returns-clause-named
returns-clause-named c = let all : c.as_slice.result.now ≡ needs_of c.args.self.now.body = search rules in rw all (c.needs_what_it_names.ensures c.args.self.now.body).1

pub returns-clause-all : goal.returns-clause-all
returns-clause-all c = cc
