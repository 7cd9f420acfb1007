-- What a walk leaves, in the words of a session's meaning, and what it walks over.
use Rattle.std.specs.Prelude.{◌≡◌, ℕ, Result, Ok, Err}
use Rattle.session_meaning.specs.Meaning as meaning
use Rattle.session_meaning.specs.Meaning.{Step, Goes, Ends}
use Rattle.session_meaning.specs.Tree.{Command, Block}
use Rattle.session_programs.specs.WellFormed.{IsStatementOver, AreStatements}
use Rattle.serial_replay.specs.declared.environment.Environment.{Environment}
use Rattle.serial_replay.specs.declared.stop.Stop.{Stop}
use Rattle.serial_replay.specs.declared.stop.Stop.TheVariants.{Ended, Memory}

-- an environment without where it lies in memory
abbrev pub environment_of : Environment → meaning.Environment
environment_of d = record { slots = d.records; variables = d.variables; gives = d.gives }

-- the code did this step, unless memory ran out
abbrev pub Leaves : {T : Type 0} → Result T Stop → Environment → Step → Type 0
Leaves (Ok u) after step = step ≡ Goes (environment_of after)
Leaves (Err (Ended e)) after step = step ≡ Ends e
Leaves (Err Memory) after step = Unit {0}

-- a statement of a program, with some blocks around it, where some variables are known
abbrev pub IsOfProgram : Command → Type 0
IsOfProgram c = (around : ℕ) × (known : ℕ) × IsStatementOver around known c

-- statements of a program, one after another
abbrev pub AreOfProgram : Block → Type 0
AreOfProgram b = (around : ℕ) × (known : ℕ) × AreStatements around known b
