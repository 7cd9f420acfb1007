use Rattle.std.proofs.Common.{not, ◌+◌, ◌≤◌, length, arith, ap}
use Rattle.std.proofs.lemmas.List.Sums.{prefix_len-le-length}
use Rattle.text_lines.specs.Text.{is_blank}
use Rattle.office_map.specs.PlanWords.{is_quote}
use Rattle.office_map.proofs.line_words.others_of.Goals as goal

pub overflow_add-quoted : goal.overflow_add-quoted
overflow_add-quoted c = omega (arith, c.place_of-quoted.ensures, prefix_len-le-length (λ b. not (is_quote b)) c.args.next.now)

pub overflow_add-result : goal.overflow_add-result
overflow_add-result c = omega (arith, c.blank_place-2.ensures, c.split_at.ensures.back_len, prefix_len-le-length (λ b. not (is_blank b)) c.split_at.result.1.now)
