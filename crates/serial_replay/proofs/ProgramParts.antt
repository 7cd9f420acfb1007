-- The blocks of a program's statements are a program's.
use Rattle.std.proofs.Common.{ℕ, suc}
use Rattle.session_meaning.specs.Tree.{Test, When, Choice, Loop, Block}
use Rattle.session_programs.specs.WellFormed.{known_after_block}
use Rattle.serial_replay.specs.refinement.WalkRefinement.{IsOfProgram, AreOfProgram}

pub body_of : (t : Test) (b : Block) → IsOfProgram (When t b) → AreOfProgram b
body_of t b h = (suc h.0, h.1, h.2.2)

pub first_of : (t : Test) (a b : Block) → IsOfProgram (Choice t a b) → AreOfProgram a
first_of t a b h = (suc h.0, h.1, h.2.2)

pub second_of : (t : Test) (a b : Block) → IsOfProgram (Choice t a b) → AreOfProgram b
second_of t a b h = (suc h.0, known_after_block h.1 a, h.2.3)

pub turn_of : (n : ℕ) (b : Block) → IsOfProgram (Loop n b) → AreOfProgram b
turn_of n b h = (suc h.0, h.1, h.2.2)
