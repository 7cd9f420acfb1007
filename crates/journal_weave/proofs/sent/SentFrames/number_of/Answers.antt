use Rattle.std.proofs.Common.{◌≡◌, Some, refl, sym, ◌∙◌, ap}
use Rattle.std.proofs.lemmas.Bool.{iff_false}
use Rattle.journal_weave.proofs.SentFrames.{was_sent, was_not_sent}
use Rattle.journal_weave.proofs.sent.SentFrames.number_of.Goals as goal

-- the frame of its key is this one
pub returns-then-is_frame-clause-sent : goal.returns-then-is_frame-clause-sent
returns-then-is_frame-clause-sent c frames known =
    let found = known.right c.args.frame.now c.in_ok-number.number (sym c.number_of_key.ensures ∙ c.in_ok-number.was) in
    let there : c.frame_at-made.result ≡ Some found.frame = c.frame_at-made.ensures frames found.frame known found.sent in
    let both : Some found.frame ≡ Some c.args.frame.now = sym there ∙ c.is_frame.ensures.0 c.if-is_frame.true in
    let same : found.frame ≡ c.args.frame.now = cc in
    was_sent frames c.args.frame.now found.frame c.in_ok-number.number same found.sent

-- it isn't
pub returns-else-is_frame-clause-never : goal.returns-else-is_frame-clause-never
returns-else-is_frame-clause-never c frames known one =
    let found = known.right c.args.frame.now c.in_ok-number.number (sym c.number_of_key.ensures ∙ c.in_ok-number.was) in
    was_not_sent frames c.args.frame.now c.in_ok-number.number one found
    (λ g sent same. iff_false c.is_frame.ensures c.if-is_frame.false (c.frame_at-made.ensures frames g known sent ∙ ap Some same))

-- none has its key
pub returns-in_err-number-clause-never : goal.returns-in_err-number-clause-never
returns-in_err-number-clause-never c =
    rw c.from_residual.ensures (λ frames known one. known.all c.args.frame.now c.args.frame.now (sym c.number_of_key.ensures ∙ c.in_err-number.was) refl)
