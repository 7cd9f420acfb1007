-- Frames that are among others.
use Rattle.std.specs.Prelude.{◌≡◌, ℕ, zero, suc, List, [], ◌∷◌, ◌++◌, Some, slice_get}
use Rattle.bottle_values.specs.ListLaws.{get_left}
use Rattle.frame_codec.specs.Frame.{Fields}

-- each frame of the one list is in the other
abbrev pub AreAmong : List Fields → List Fields → Type 0
AreAmong fs gs = (k : ℕ) (f : Fields) → slice_get fs k ≡ Some f → (j : ℕ) × (slice_get gs j ≡ Some f)

pub are_among_themselves : (fs : List Fields) → AreAmong fs fs
are_among_themselves fs k f e = (k, e)

pub among_left : (fs gs hs : List Fields) → AreAmong fs gs → AreAmong fs (gs ++ hs)
among_left fs gs hs s k f e = let r = s k f e in (r.0, get_left gs hs r.0 f r.1)

pub both_among : (fs gs ws : List Fields) → AreAmong fs ws → AreAmong gs ws → AreAmong (fs ++ gs) ws
both_among [] gs ws p q k f e = q k f e
both_among (x ∷ fs) gs ws p q zero f e = p 0 f e
both_among (x ∷ fs) gs ws p q (suc k) f e = both_among fs gs ws (λ i g h. p (suc i) g h) q k f e
