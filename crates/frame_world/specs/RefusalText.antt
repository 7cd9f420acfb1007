-- The code and the name of a world's refusal.
use Rattle.std.specs.Prelude.{ℕ, List, codes}
use Rattle.site_core.specs.RefusalText as offices
use Rattle.frame_world.specs.declared.refusal.WorldRefusal.{WorldRefusal}
use Rattle.frame_world.specs.declared.refusal.WorldRefusal.TheVariants.{NoFrame, NoOffice, Office}

-- the code and the name of a world's refusal
abbrev pub refusal_text : WorldRefusal → List ℕ
refusal_text NoFrame = codes "N1 NoFrame"
refusal_text NoOffice = codes "N2 NoOffice"
refusal_text (Office refusal) = offices.refusal_text refusal
