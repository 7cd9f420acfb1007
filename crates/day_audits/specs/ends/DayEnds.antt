-- What the offices of a world leave for the next day.
use Rattle.std.specs.Prelude.{◌≡◌, ◌<◌, ◌≤◌, ℕ, List, length, filter, Ok}
use Rattle.std.specs.List.{flat_map, range_with_len}
use Rattle.bottle_values.specs.declared.Value.{Value}
use Rattle.session_meaning.specs.ProgramValue.{ProgramValue}
use Rattle.session_language.specs.Limits.{most_sessions, most_text}
use Rattle.session_language.specs.Reading.{sessions_of}
use Rattle.serial_replay.specs.Serial.{map_of, start_map}
use Rattle.site_core.specs.Journals.{Site}
use Rattle.site_core.specs.Submitted.{submitted_in}
use Rattle.frame_world.specs.Worlds.{World, site_at}
use Rattle.frame_world.specs.Headline.{programs}
use Rattle.day_audits.specs.left.Left.{is_left, left_programs, left_sessions}
use Rattle.day_audits.specs.left.LeftTexts.{texts_of}

-- the values that the finished sessions of a world leave, one after another
abbrev pub end_map : World → ℕ → Value
end_map w = map_of (start_map w.plan) (programs w)

-- the programs of the sessions that the first n offices of a world have left, by office and ticket
abbrev pub left_of_first : ℕ → World → List ProgramValue
left_of_first n w = flat_map (λ a. left_programs (site_at w a)) (range_with_len 0 n)

abbrev pub left_of : World → List ProgramValue
left_of w = left_of_first (length w.plan.offices) w

-- of the sessions that were submitted at an office those are left that have neither finished nor been withdrawn, each once
abbrev pub IsLeftOnce : Site → Type 0
IsLeftOnce s = left_sessions s ≡ filter (is_left s) (submitted_in s.entries)

-- The text of the sessions that are left in a world: it is read as these, where there are no more of them than a text may have, and it is
-- no longer than one may be.
pub record IsLeftText (w : World) (text : List ℕ) : Type 0 where
  pub written : text ≡ texts_of w.plan (left_of w)
  pub once : (a : ℕ) → a < length w.plan.offices → IsLeftOnce (site_at w a)
  pub read : length (left_of w) ≤ most_sessions → length text ≤ most_text → sessions_of w.plan text ≡ Ok (left_of w)
