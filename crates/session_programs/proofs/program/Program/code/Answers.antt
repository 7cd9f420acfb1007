use Rattle.std.proofs.Common.{◌≡◌, Option, subst}
use Rattle.std.specs.Prelude.{IfSome}
use Rattle.session_meaning.specs.ProgramValue.{ProgramValue}
use Rattle.session_programs.specs.refinement.Listing.{CodeValue, code_of}
use Rattle.session_programs.proofs.program.Program.code.Goals as goal

pub returns-in-Some : goal.returns-in-Some
returns-in-Some c =
    let right : IfSome c.self.inside.code (λ x. x ≡ code_of c.args.self.now) = subst (λ (p : ProgramValue). IfSome c.self.inside.code (λ x. x ≡ code_of p)) c.self.view_is c.self.invariant.2 in
    subst (λ (o : Option CodeValue). IfSome o (λ x. x ≡ code_of c.args.self.now)) c.in-Some.is right
