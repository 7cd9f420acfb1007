-- The journals of offices, as files.
use Rattle.std.specs.Prelude.{ℕ, List, ◌∷◌, ◌++◌, length, map, codes, Option, Some, None}
use Rattle.std.specs.List.{range_with_len}
use Rattle.office_map.specs.PlanValue.{PlanValue}
use Rattle.journal_texts.specs.wording.Words.{office_name}
use Rattle.frame_world.specs.Worlds.{World, site_at}
use Rattle.journal_texts.specs.Written.{journal_text}
use Rattle.host_files.specs.outputs.Written.{AddsFiles, KeepsFiles}

-- the name and the text of a file
abbrev pub File : Type 0
File = List ℕ × List ℕ

-- FOLDER/NAME.journal
abbrev pub file_name : List ℕ → PlanValue → ℕ → List ℕ
file_name folder p a = folder ++ (47 ∷ (office_name p a ++ codes ".journal"))

-- of each of so many offices the file with its text
abbrev pub files_of : List ℕ → PlanValue → (ℕ → List ℕ) → ℕ → List File
files_of folder p text n = map (λ a. (file_name folder p a, text a)) (range_with_len 0 n)

-- the text of an office's journal
abbrev pub text_at : World → ℕ → List ℕ
text_at w a = journal_text w.plan a (site_at w a).entries

-- the files of the journals of all offices of a world
abbrev pub files_of_world : List ℕ → World → List File
files_of_world folder w = files_of folder w.plan (text_at w) (length w.plan.offices)

-- where a word names their place, those files are written, in order; where none does, none is
abbrev pub WritesFiles : Option (List ℕ) → (List ℕ → List File) → Option (List File) → Option (List File) → Type 0
WritesFiles None files old new = KeepsFiles old new
WritesFiles (Some place) files old new = AddsFiles old new (files place)
