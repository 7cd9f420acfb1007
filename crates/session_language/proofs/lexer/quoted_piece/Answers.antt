use Rattle.std.proofs.Common.{rules}
use Rattle.session_language.proofs.Quotes.{cut_in_two}
use Rattle.session_language.proofs.lexer.quoted_piece.Goals as goal

pub returns-then-len-after-clause-gives : goal.returns-then-len-after-clause-gives
returns-then-len-after-clause-gives c =
    cut_in_two c.args.after.now c.split_at.result.0.now c.split_at.result.1.now c.split_at-then-len-after.result.1.now c.place_of-len.result c.place_of-len.ensures (search rules) c.split_at.ensures.front c.split_at.ensures.back
    c.split_at-then-len-after.ensures.back
