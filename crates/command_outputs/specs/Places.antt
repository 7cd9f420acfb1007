-- Which files may take the journals of a run, and why others may not.
use Rattle.std.specs.Prelude.{◌≡◌, ◌≢◌, ◌⊎◌, ◌<◌, ℕ, List, length, take, Bool, true, false, Option, Some}
use Rattle.std.specs.Str.{bytes_eq}
use Rattle.host_files.specs.inputs.Words.{is_dash}
use Rattle.office_map.specs.PlanValue.{PlanValue}
use Rattle.journal_texts.specs.Written.{header_line}
use Rattle.command_outputs.specs.Journals.{file_name}
use Rattle.command_outputs.specs.declared.fault.Obstacle.{Obstacle}
use Rattle.command_outputs.specs.declared.fault.Obstacle.TheVariants.{Failed, Unread, AnInput, AJournal}

-- a text begins so
abbrev pub begins : List ℕ → List ℕ → Bool
begins start text = bytes_eq (take (length start) text) start

-- it can't be written or made
abbrev pub IsFailed : Obstacle → Type 0
IsFailed (Failed cause) = Unit {0}
IsFailed _ = ⊥

-- no journal of this office and run is known to be in the file of this name
abbrev pub IsUnheld : (List ℕ → Option (List ℕ)) → PlanValue → ℕ → List ℕ → Type 0
IsUnheld files p me name = (text : List ℕ) → files name ≡ Some text → begins (header_line p me) text ≡ false

-- a word doesn't name this file: it is another name, or stands for the standard input
abbrev pub IsOther : List ℕ → List ℕ → Type 0
IsOther word name = is_dash word ≡ false → name ≢ word

-- the file of this name has the text of the file that a word names, unless the word stands for the standard input
abbrev pub HasTextOf : (List ℕ → Option (List ℕ)) → List ℕ → List ℕ → Type 0
HasTextOf files word name = is_dash word ≡ false → files word ≡ files name

-- the file of that name is told to have the text of one of two inputs
abbrev pub IsAnInput : (List ℕ → Option (List ℕ)) → (one other file : List ℕ) → List ℕ → Obstacle → Type 0
IsAnInput files one other file name why = (name ≡ file) × (why ≡ AnInput) × (HasTextOf files one file ⊎ HasTextOf files other file)

-- The texts of files by name, as far as they are known; and the words of a run's two inputs.
module _ (files : List ℕ → Option (List ℕ)) (one other : List ℕ) (p : PlanValue) where
  -- the file of this name may take the journal of that office: it is none of the inputs, and has no journal of this office and run
  pub record IsFree (me : ℕ) (name : List ℕ) : Type 0 where
    pub no_plan : IsOther one name
    pub no_sessions : IsOther other name
    pub unheld : IsUnheld files p me name

  -- it may not, since it can't be written or read, has the text of an input, or begins as that journal
  abbrev pub IsObstacle : Obstacle → ℕ → List ℕ → Type 0
  IsObstacle (Failed cause) me name = Unit {0}
  IsObstacle (Unread cause) me name = Unit {0}
  IsObstacle AnInput me name = HasTextOf files one name ⊎ HasTextOf files other name
  IsObstacle AJournal me name = (text : List ℕ) → files name ≡ Some text → begins (header_line p me) text ≡ true

  -- those of the first so many offices, in a folder
  abbrev pub AreFree : ℕ → List ℕ → Type 0
  AreFree n folder = (a : ℕ) → a < n → IsFree a (file_name folder p a)

  -- a folder may not take the journals of all offices: it itself can't be had, or the file of one of them may not take its own
  abbrev pub IsIn : List ℕ → List ℕ → Obstacle → Type 0
  IsIn folder name why =
      ((name ≡ folder) × IsFailed why)
      ⊎ ((a : ℕ) × (a < length p.offices) × (name ≡ file_name folder p a) × IsObstacle why a name)
