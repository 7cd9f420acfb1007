-- What a simulation prints.
use Rattle.std.specs.Prelude.{◌≡◌, ◌<◌, ℕ, List, ◌++◌, length, codes, Some, Result, Ok, Err}
use Rattle.std.specs.List.{flat_map}
use Rattle.std.specs.Fmt.{decimal}
use Rattle.office_map.specs.PlanValue.{PlanValue}
use Rattle.serial_replay.specs.Serial.{start_map, map_of}
use Rattle.frame_world.specs.declared.refusal.WorldRefusal.{WorldRefusal}
use Rattle.frame_world.specs.Worlds.{World, opening}
use Rattle.frame_world.specs.Headline.{programs, HasSerialSessions}
use Rattle.frame_world.specs.Tickets.{HaveTheirTickets, TicketsRise}
use Rattle.world_schedule.specs.Readers.{unfinished_in}
use Rattle.frame_world.specs.RefusalText.{refusal_text}
use Rattle.journal_texts.specs.wording.Words.{line_of_words}
use Rattle.journal_texts.specs.wording.Replies.{reply_words}
use Rattle.simulation.specs.declared.scripts.said.Said.{Said}
use Rattle.simulation.specs.declared.scripts.said.Said.TheVariants.{Replied, Rules, Settled, Open}
use Rattle.session_reports.specs.declared.form.forms.Form.{Form}
use Rattle.session_reports.specs.form.Forms.{opening_as, closing_as}
use Rattle.world_schedule.specs.reports.WorldReport.{bottle_value, world_report}
use Rattle.simulation.specs.scripts.Script.{Act}
use Rattle.simulation.specs.scripts.Runs.{Told, run_of, all_told}

-- ---- lines

-- where so many frames were sent: a frame is told as the last of them
abbrev pub said_text : ℕ → Result Said WorldRefusal → List ℕ
said_text k (Ok (Replied r)) = line_of_words (reply_words (Some k) r)
said_text k (Ok (Rules n)) = codes "rules " ++ decimal n
said_text k (Ok (Settled n)) = codes "settled " ++ (decimal n ++ codes " finished")
said_text k (Ok (Open n)) = codes "settled " ++ (decimal n ++ codes " open")
said_text k (Err r) = codes "refused " ++ refusal_text r

abbrev pub said_line : Form → ℕ → Result Said WorldRefusal → List ℕ
said_line f k said = opening_as f ++ (said_text k said ++ closing_as f)

-- the line of what is told of an act, in that form
abbrev pub told_line : Form → Told → List ℕ
told_line f t = said_line f (length t.1.frames) t.0

-- ---- the whole

-- the report of a world, with how many submitted sessions haven't finished
abbrev pub told_report : Form → World → List ℕ
told_report f w = world_report f w (unfinished_in w)

-- A line for each act of the run from the plan's opening, and then the report of the world that it leads to, with how
-- many submitted sessions haven't finished. All in that form.
abbrev pub transcript : Form → PlanValue → List Act → List ℕ
transcript f p acts = flat_map (told_line f) (all_told (opening p) acts) ++ told_report f (run_of (opening p) acts)

-- what the report tells of the finished sessions and of the values is what these sessions do when they run alone, one
-- after another, in the order in which it tells them; and their tickets are those that were answered when they were
-- submitted, and rise at each office
pub record IsSerialRun (w : World) : Type 0 where
  pub sessions : HasSerialSessions w
  pub tickets : HaveTheirTickets w
  pub rise : TicketsRise w
  pub values : (r : ℕ) → r < length w.plan.records → bottle_value w r ≡ map_of (start_map w.plan) (programs w) r
