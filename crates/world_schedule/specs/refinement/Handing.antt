-- An event that is handed to one of several offices.
use Rattle.std.specs.Prelude.{◌≡◌, ℕ, ◌<◌, ◌≤◌, List, length, get_or, set, Result, Ok, Err}
use Rattle.office_journal.specs.declared.event.Event.{Event}
use Rattle.office_journal.specs.declared.reply.Reply.{Reply}
use Rattle.office_journal.specs.declared.reply.Refusal as offices
use Rattle.site_core.specs.Journals.{Site, Steps}
use Rattle.frame_world.specs.declared.refusal.WorldRefusal.{WorldRefusal}
use Rattle.frame_world.specs.declared.refusal.WorldRefusal.TheVariants as refusal

-- what a world tells of an office's answer
abbrev pub passed_on : Result Reply offices.Refusal → Result Reply WorldRefusal
passed_on (Ok r) = Ok r
passed_on (Err e) = Err (refusal.Office e)

-- there is no such office; or the office of that number takes the step
pub data Hands (sites : List Site) (a : ℕ) (e : Event) (result : Result Reply WorldRefusal) (sites' : List Site) : Type 0 where
  Nobody : (beyond : length sites ≤ a) (told : result ≡ Err refusal.NoOffice) (kept : sites' ≡ sites) → Hands sites a e result sites'
  Asked : (within : a < length sites) (answer : Result Reply offices.Refusal) (site : Site) (told : result ≡ passed_on answer)
      (steps : (d : Site) → Steps (get_or sites a d) 0 e answer site) (kept : sites' ≡ set sites a site) → Hands sites a e result sites'
