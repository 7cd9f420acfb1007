use Rattle.std.proofs.Common.{◌≡◌, ◌+◌, List, Option, None, set, drop, ap, ◌∙◌, arith, rules}
use Rattle.std.proofs.lemmas.List.{drop-set-add}
use Rattle.arrayvec.proofs.ArrayVecLemmas.{items-with_items}
use Rattle.frame_codec.specs.declared.message.Msg.{Msg}
use Rattle.window_link.specs.Windows.{Receiving, without_next}
use Rattle.window_link.specs.refinement.Places.{filled}
use Rattle.window_link.proofs.KeptPlaces.{filled-none}
use Rattle.window_link.proofs.receiving.ReceiveWindow.drop_kept.Goals as goal

pub returns : goal.returns
returns c =
    let ks = c.self.inside.ahead.items in
    let gone = c.self.inside.gone in
    let first : gone ≡ gone + 0 = omega arith in
    ap (λ xs. window (filled 18 (drop gone xs))) (items-with_items c.self.inside.ahead _ (search rules))
    ∙ ap (λ xs. window (filled 18 (drop gone (set xs gone None)))) c.deref_mut.ensures.value
    ∙ ap (λ k. window (filled 18 (drop gone (set ks k None)))) first
    ∙ ap (λ xs. window (filled 18 xs)) (drop-set-add gone ks 0 None)
    ∙ ap window (filled-none 17 (drop gone ks))
    ∙ ap without_next c.self.view_is
  where
    window : List (Option Msg) → Receiving
    window ks = record { taken = c.self.inside.taken; kept = ks }
