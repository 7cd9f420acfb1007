-- Laws of the definitions that contracts cite.
use Rattle.std.specs.Prelude.{◌≡◌, ℕ, List, map, All, Contains, IsTrue}
use Rattle.bottle_values.specs.declared.Value.{Value}
use Rattle.bottle_values.specs.declared.version.Version.{Version}
use Rattle.session_meaning.specs.ProgramValue.{ProgramValue}
use Rattle.session_meaning.specs.Meaning.{alone}
use Rattle.session_meaning.specs.Fitting.{block_fits, AllFit, RecordsFit}

-- a session writes records whose values it was given, and no others
abbrev pub WritesWhatItHas : Type 0
WritesWhatItHas = (p : ProgramValue) (reads : List (ℕ × Value)) → All (λ w. Contains (map (λ x. x.0) reads) w.0) (alone p reads).writes

-- however it ends, it tells the values that it was given
abbrev pub TellsWhatItRead : Type 0
TellsWhatItRead = (p : ProgramValue) (reads : List (ℕ × Value)) → (alone p reads).reads ≡ reads

-- a session that a run of a version has makes of values of that run only such values: under version 1 numbers make numbers
abbrev pub ValuesFit : Type 0
ValuesFit = (v : Version) (p : ProgramValue) (reads : List (ℕ × Value)) → IsTrue (block_fits v p.body) → RecordsFit v reads → RecordsFit v (alone p reads).writes × AllFit v (alone p reads).gives
