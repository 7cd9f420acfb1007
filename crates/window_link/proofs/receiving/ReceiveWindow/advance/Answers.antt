use Rattle.std.proofs.Common.{◌+◌, List, drop, Option, sym, ap, ◌∙◌, arith}
use Rattle.std.proofs.lemmas.List.{drop-drop, length-drop}
use Rattle.frame_codec.specs.declared.message.Msg.{Msg}
use Rattle.window_link.specs.Windows.{Receiving, advanced}
use Rattle.window_link.specs.refinement.Places.{filled}
use Rattle.window_link.proofs.KeptPlaces.{filled-rest}
use Rattle.window_link.proofs.receiving.ReceiveWindow.advance.Goals as goal

pub returns-then-self-len : goal.returns-then-self-len
returns-then-self-len c =
    let ks = c.self.inside.ahead.items in
    let gone = c.self.inside.gone in
    ap (λ xs. window (filled 18 xs)) (sym (drop-drop 1 gone ks))
    ∙ ap window (filled-rest 17 (drop gone ks) (omega (arith, c.self.invariant.1, length-drop gone ks)))
    ∙ ap advanced c.self.view_is
  where
    window : List (Option Msg) → Receiving
    window ks = record { taken = c.self.inside.taken + 1; kept = ks }
