use Rattle.std.proofs.Common.{rules, sym, ◌∙◌}
use Rattle.session_language.proofs.Pieces.{past_blank, at_piece, at_end, word_found}
use Rattle.session_language.proofs.lexer.Pieces.next.Goals as goal

pub loop-first-preserved : goal.loop-first-preserved
loop-first-preserved c = (past_blank c.loop-first.self.rest.now c.in-Some.first.now c.in-Some.after.now _ (search rules) c.in-Blank.ensures c.loop-first.invariant.0, search rules)

pub returns-in-Word-clause-gives : goal.returns-in-Word-clause-gives
returns-in-Word-clause-gives c =
    at_piece c.loop-first.self.rest.now c.in-Some.first.now c.in-Some.after.now _ _ _ (search rules) c.in-Word.ensures.0
    (word_found c.loop-first.self.rest.now c.in-Some.first.now c.in-Some.after.now c.word_len.result _ _ (search rules) c.in-Word.ensures.1 c.word_len.ensures.value c.split_at.ensures.front c.split_at.ensures.back) c.loop-first.invariant.0

pub returns-in-Sign-clause-gives : goal.returns-in-Sign-clause-gives
returns-in-Sign-clause-gives c = at_piece c.loop-first.self.rest.now c.in-Some.first.now c.in-Some.after.now _ _ _ (search rules) c.in-Sign.ensures.0 (sym (c.in-Sign.ensures.1 c.in-Some.after.now)) c.loop-first.invariant.0

pub returns-in-Quote-clause-gives : goal.returns-in-Quote-clause-gives
returns-in-Quote-clause-gives c =
    at_piece c.loop-first.self.rest.now c.in-Some.first.now c.in-Some.after.now _ _ _ (search rules) c.in-Quote.ensures.0 (c.quoted_piece.ensures.gives ∙ sym (c.in-Quote.ensures.1 c.in-Some.after.now)) c.loop-first.invariant.0

pub returns-in-Other-clause-gives : goal.returns-in-Other-clause-gives
returns-in-Other-clause-gives c = at_piece c.loop-first.self.rest.now c.in-Some.first.now c.in-Some.after.now _ _ _ (search rules) c.in-Other.ensures.0 c.other_piece.ensures.gives c.loop-first.invariant.0

pub returns-clause-gives : goal.returns-clause-gives
returns-clause-gives c = at_end c.loop-first.self.rest.now _ (search rules) c.loop-first.invariant.0
