use Rattle.std.proofs.Common.{sym, ap, ◌∙◌}
use Rattle.session_programs.specs.refinement.Listing.{code_of}
use Rattle.session_programs.proofs.program.Program.with_code.Goals as goal

pub invariant_of-result : goal.invariant_of-result
invariant_of-result c = rw c.in_ok-said.ensures (c.self.invariant.0, c.self.invariant.1, c.in_ok-code.ensures.code ∙ ap code_of (sym c.self.view_is), c.self.invariant.3)
