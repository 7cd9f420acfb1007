use Rattle.std.proofs.Common.{not, arith}
use Rattle.std.proofs.lemmas.List.Sums.{prefix_len-le-length}
use Rattle.office_map.specs.PlanWords.{is_quote}
use Rattle.office_map.proofs.line.text.Goals as goal

pub overflow_add-end : goal.overflow_add-end
overflow_add-end c = omega (arith, c.place_of-end.ensures, c.in_ok-first.ensures.cases.1, prefix_len-le-length (λ b. not (is_quote b)) c.in_ok-first.rest.now)
