use Rattle.std.proofs.Common.{◌≡◌, ◌++◌, Option, None, length, sym, ap, ◌∙◌, arith}
use Rattle.std.proofs.lemmas.List.{append-nil}
use Rattle.frame_codec.specs.declared.message.Msg.{Msg}
use Rattle.window_link.specs.Streams.{nth}
use Rattle.window_link.specs.refinement.TwoLinksStep.{made_of}
use Rattle.window_link.proofs.FrameDelivery.{nth_zero, nth_past}
use Rattle.window_link.proofs.laws.step.make.Goals.{then-i-eq0-via-then-i-eq0, then-i-eq0-via-else-i-eq0+then-i-len}
use Rattle.window_link.proofs.laws.step.make.Goals as goal

pub returns-then-i-eq0-clause-frames : goal.returns-then-i-eq0-clause-frames
returns-then-i-eq0-clause-frames c =
    let waiting = c.args.link.now.sending.waiting in
    let none : nth waiting c.args.i ≡ None =
    elim c.then-i-eq0.branch [
      | then-i-eq0-via-then-i-eq0 w ↦ nth_zero waiting c.args.i w.if-i-eq0.true
      | then-i-eq0-via-else-i-eq0+then-i-len w ↦ nth_past waiting c.args.i (omega (arith, w.if-i-len.true, w.len.ensures.len, ap length w.waiting.ensures.value))
    ] in
    sym (append-nil c.args.frames.now.items) ∙ ap (λ (m : Option Msg). c.args.frames.now.items ++ (made_of c.args.link.now c.args.by c.args.i m).1) (sym none)
