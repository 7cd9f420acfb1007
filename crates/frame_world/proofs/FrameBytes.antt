-- Frames that were sent, as bytes.
use Rattle.std.proofs.Common.{◌≡◌, ℕ, zero, suc, List, Some, refl, subst}
use Rattle.std.specs.Prelude.{All}
use Rattle.std.proofs.lemmas.List.Elements.{All-get_or}
use Rattle.std.proofs.lemmas.Option.{slice_get_within, get_or_from_slice_get}
use Rattle.frame_codec.specs.Frame.{Fields, IsFrame}
use Rattle.frame_codec.specs.Spelling.{Spells, spelling}
use Rattle.frame_world.specs.Worlds.{World, frame_at}
use Rattle.frame_world.specs.Headline.{GoesByBytes, FramesInRangeGoByBytes}

abbrev OfOneFrame : Type 0
OfOneFrame = (a : List ℕ) (f g : Fields) → Spells a f → Spells a g → f ≡ g

goes : OfOneFrame → (f : Fields) → IsFrame f → GoesByBytes f
goes of_one f fits =
    let spelled : Spells (spelling f) f = record { in_range = fits; is = refl } in
    record {
      spelled = spelled;
      one = λ bytes s. s.is;
      only = λ g s. of_one (spelling f) g f s spelled;
      taken = λ s tag result s' r. r.frame f spelled;
    }

-- a frame of the list is one of those that fit
sent_fits : (w : World) (k : ℕ) (f : Fields) → All IsFrame w.frames → frame_at w k ≡ Some f → IsFrame f
sent_fits w zero f all e = absurd cc
sent_fits w (suc k) f all e = subst IsFrame (get_or_from_slice_get w.frames k f f e) (All-get_or IsFrame w.frames k f (slice_get_within w.frames k f e) all)

pub frames_go_by_bytes : OfOneFrame → FramesInRangeGoByBytes
frames_go_by_bytes of_one w all k f e = goes of_one f (sent_fits w k f all e)
