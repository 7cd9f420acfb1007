-- What is written of the journals of all offices.
use Rattle.std.specs.Prelude.{◌≡◌, ◌⊎◌, ℕ, List, [], ◌∷◌, ◌++◌, codes}
use Rattle.std.specs.Fmt.{decimal}
use Rattle.office_map.specs.PlanValue.{PlanValue}
use Rattle.journal_texts.specs.wording.Words.{office_name}
use Rattle.frame_world.specs.declared.event.WorldEvent.{WorldEvent}
use Rattle.frame_world.specs.Worlds.{World, opening, run_of}
use Rattle.frame_world.specs.Headline.{HasSerialSessions, HasSerialValues}
use Rattle.frame_world.specs.Tickets.{HaveTheirTickets, TicketsRise}
use Rattle.journal_weave.specs.declared.given.GivenJournal.{GivenJournal}
use Rattle.journal_weave.specs.Given.{IsWovenFrom, IsLeft}
use Rattle.day_audits.specs.declared.audit.fault.GatherFault.{GatherFault}
use Rattle.day_audits.specs.audit.Gathering.{AreJournals, IsRefusedAt, Lacks}
use Rattle.world_schedule.specs.Readers.{unfinished_in}
use Rattle.session_reports.specs.declared.form.forms.Form.{Form}
use Rattle.session_reports.specs.declared.form.forms.Form.TheVariants.{Plain, Json}
use Rattle.session_reports.specs.json.Json.{json_unwoven}
use Rattle.world_schedule.specs.reports.WorldReport.{world_report}

-- The text is the report of a world in that form, with how many submitted sessions haven't finished. Its finished sessions are those of a
-- serial run, in the order in which they are told, with the tickets that were answered, which rise at each office; and its values
-- are those of that run.
pub record IsToldOf (form : Form) (w : World) (text : List ℕ) : Type 0 where
  pub told : text ≡ world_report form w (unfinished_in w)
  pub sessions : HasSerialSessions w
  pub values : HasSerialValues w
  pub tickets : HaveTheirTickets w
  pub rise : TicketsRise w

-- the journals are the record of a schedule, which leads to that world, and the text is its report
pub record TellsWoven (form : Form) (w : World) (p : PlanValue) (journals : List GivenJournal) (text : List ℕ) : Type 0 where
  pub events : List WorldEvent
  pub woven : IsWovenFrom p journals events
  pub leads : w ≡ run_of (opening p) events
  pub report : IsToldOf form w text

-- the texts, in some order, are the journals of all offices, which are the record of a schedule, and that leads to the world
pub record IsRecordedBy (p : PlanValue) (texts : List (List ℕ)) (w : World) : Type 0 where
  pub journals : List GivenJournal
  pub are_journals : AreJournals p texts journals
  pub events : List WorldEvent
  pub woven : IsWovenFrom p journals events
  pub leads : w ≡ run_of (opening p) events

-- one of the texts is refused, or an office has none
abbrev pub AreNotGathered : PlanValue → List (List ℕ) → Type 0
AreNotGathered p texts = ((place : ℕ) × (fault : GatherFault) × IsRefusedAt p texts place fault) ⊎ ((office : ℕ) × Lacks p texts office)

-- so it is, or they are the journals of all offices, which are the record of no schedule
abbrev pub AreNoRecord : PlanValue → List (List ℕ) → Type 0
AreNoRecord p texts = AreNotGathered p texts ⊎ ((journals : List GivenJournal) × AreJournals p texts journals × ((events : List WorldEvent) → IsWovenFrom p journals events → ⊥))

-- unwoven OFFICE ENTRY
abbrev pub unwoven_line : PlanValue → ℕ → ℕ → List ℕ
unwoven_line p office entry = codes "unwoven " ++ (office_name p office ++ (32 ∷ (decimal entry ++ 10 ∷ [])))

abbrev pub unwoven_as : Form → PlanValue → ℕ → ℕ → List ℕ
unwoven_as Plain p office entry = unwoven_line p office entry
unwoven_as Json p office entry = json_unwoven p office entry

-- they are the record of none: the text names an entry, from 1, that no schedule has, though one has all before it, of the
-- office that is to be named
pub record TellsUnwoven (form : Form) (p : PlanValue) (journals : List GivenJournal) (text : List ℕ) : Type 0 where
  pub office : ℕ
  pub entry : ℕ
  pub left : IsLeft p journals office entry
  pub never : (events : List WorldEvent) → IsWovenFrom p journals events → ⊥
  pub line : text ≡ unwoven_as form p office entry
