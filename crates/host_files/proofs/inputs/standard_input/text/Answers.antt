use Rattle.std.proofs.Common.{◌≤◌, ◌+◌, length, sym, subst}
use Rattle.host_files.proofs.inputs_lemmas.WordText.{IsRead, cut_of, cut_bounded}
use Rattle.host_files.proofs.inputs.standard_input.text.Goals as goal

pub returns-clause-text : goal.returns-clause-text
returns-clause-text g c text after has =
    subst (λ read. IsRead c.args.limit text read c.read_word.new.standard after) (sym c.truncate.ensures.items)
    (cut_of c.args.limit text c.in_ok-text.text.items c.read_word.new.standard after (c.in_ok-text.ensures.text text after has))

pub returns-clause-bounded : goal.returns-clause-bounded
returns-clause-bounded g c =
    subst (λ read. length read ≤ c.args.limit + 1) (sym c.truncate.ensures.items) (cut_bounded c.args.limit c.in_ok-text.text.items)
