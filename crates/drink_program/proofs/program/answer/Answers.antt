use Rattle.std.proofs.Common.{◌∙◌, inl, sym}
use Rattle.drink_program.proofs.Done.{done}
use Rattle.drink_program.proofs.program.answer.Goals as goal

pub returns-else-has_dash-clause-done : goal.returns-else-has_dash-clause-done
returns-else-has_dash-clause-done g c = λ zero. inl (c.in-Ok.request, c.in-Ok.ensures.request, done c.perform-result.result _ c.perform-result.ensures.done (sym c.status.ensures ∙ zero))
