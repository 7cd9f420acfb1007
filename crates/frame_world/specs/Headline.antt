-- What holds of every world that a list of events leads to, good events or refused.
use Rattle.std.specs.Prelude.{◌≡◌, ◌≢◌, ◌<◌, ◌≤◌, ℕ, Bool, true, false, ◌&&◌, List, [], ◌∷◌, ◌++◌, length, map, slice_get, Some, Result, Ok, Err, All}
use Rattle.std.specs.List.{list_all}
use Rattle.bottle_values.specs.declared.Value.{Value}
use Rattle.bottle_values.specs.Lists.{num}
use Rattle.bottle_values.specs.Maps.{reads_of}
use Rattle.frame_codec.specs.Frame.{Fields, IsFrame}
use Rattle.frame_codec.specs.Spelling.{Spells, spelling}
use Rattle.office_map.specs.PlanValue.{PlanValue, are_neighbours}
use Rattle.office_map.specs.Consistency.{IsConsistent, IsAccepted}
use Rattle.session_meaning.specs.declared.ending.Ending.{Ending}
use Rattle.session_meaning.specs.declared.ending.Outcome.{Outcome}
use Rattle.session_meaning.specs.ProgramValue.{ProgramValue}
use Rattle.session_programs.specs.measures.Needs.{needs_of}
use Rattle.serial_replay.specs.Serial.{start_map, map_of, outcomes_of}
use Rattle.window_link.specs.Windows.{used}
use Rattle.token_channel.specs.declared.thing.Thing.{Thing}
use Rattle.token_channel.specs.Ends.{is_shared}
use Rattle.dining_core.specs.Diners.{is_eating}
use Rattle.dining_core.specs.Worlds.{HasNoRing}
use Rattle.drinking_core.specs.Drinkers.{is_drinking, holds}
use Rattle.site_core.specs.declared.agendas.session.Session.{Session}
use Rattle.office_journal.specs.declared.event.Event.TheVariants as event
use Rattle.office_journal.specs.declared.event.Entry.{Entry}
use Rattle.office_journal.specs.declared.reply.Reply.{Reply}
use Rattle.office_journal.specs.declared.reply.Reply.TheVariants as reply
use Rattle.office_journal.specs.declared.reply.Refusal as offices
use Rattle.office_journal.specs.declared.reply.Refusal.TheVariants as refused
use Rattle.site_core.specs.Agenda.{Working, is_working}
use Rattle.site_core.specs.Offices.{Office, value_in}
use Rattle.site_core.specs.Journals.{Site, Steps, Receives}
use Rattle.site_core.specs.Growing.{link_at}
use Rattle.frame_world.specs.declared.event.WorldEvent.{WorldEvent}
use Rattle.frame_world.specs.declared.refusal.WorldRefusal.{WorldRefusal}
use Rattle.frame_world.specs.declared.refusal.WorldRefusal.TheVariants as refusal
use Rattle.frame_world.specs.Worlds.{World, Finished, opening, run_of, happens, site_at, office_at, frame_at}
use Rattle.frame_world.specs.Ways.{pairs_at, places, bottles_of, tables_of}

-- the programs of the finished sessions, in finishing order
abbrev pub programs : World → List ProgramValue
programs w = map (λ (f : Finished). f.program) w.finished

-- what is told of the finished sessions, in finishing order
abbrev pub outcomes : World → List Outcome
outcomes w = map (λ (f : Finished). f.outcome) w.finished

-- where a session finished, and how it ended, its ticket aside
abbrev pub office_and_ending : Outcome → ℕ × Ending
office_and_ending o = (o.office, o.ending)

-- the finished sessions read, gave and wrote what they do when they run alone, one after the other in that order
abbrev pub HasSerialSessions : World → Type 0
HasSerialSessions w = map office_and_ending (outcomes w) ≡ map office_and_ending (outcomes_of (start_map w.plan) (programs w))

-- each record has one bottle, with the value that the record has after that serial run
abbrev pub HasSerialValues : World → Type 0
HasSerialValues w = (r : ℕ) → r < length w.plan.records → bottles_of w r ≡ map_of (start_map w.plan) (programs w) r ∷ []

-- each fork, bottle and request token that two offices share is at one place, and they have no other
abbrev pub HasOnePlaceEach : World → Type 0
HasOnePlaceEach w = (a b : ℕ) → (t : Thing) → places w a b t ≡ num (is_shared w.plan a b t)

-- two neighbours never eat at once
abbrev pub NeighboursEatApart : World → Type 0
NeighboursEatApart w = (a b : ℕ) → are_neighbours w.plan a b ≡ true →
    (is_eating (pairs_at w a).diner.phase && is_eating (pairs_at w b).diner.phase) ≡ false

-- an office that eats has the fork of each neighbour
abbrev pub EatersHaveTheirForks : World → Type 0
EatersHaveTheirForks w = (a b : ℕ) → is_eating (pairs_at w a).diner.phase ≡ true → are_neighbours w.plan a b ≡ true → (pairs_at w a).diner.held b ≡ true

-- an office that works has the bottles that its session needs, with the values that its work began with
pub record HasItsBottles (o : Office) (s : Session) (reads : List (ℕ × Value)) : Type 0 where
  pub held : list_all (holds o.pairs.drinker) (needs_of s.program.body) ≡ true
  pub values : reads ≡ reads_of (needs_of s.program.body) (value_in o.pairs.drinker)

-- an office drinks where it works, and has the bottles for it
pub record DrinkersHaveTheirBottles (w : World) : Type 0 where
  pub drinks : (a : ℕ) → is_drinking (pairs_at w a).drinker.phase ≡ is_working (office_at w a).agenda.current
  pub bottles : (a : ℕ) (s : Session) (reads : List (ℕ × Value)) (done : ℕ) → (office_at w a).agenda.current ≡ Working s reads done → HasItsBottles (office_at w a) s reads

-- no frame can be read from what came, or the channel to its sender refuses it
abbrev pub is_fault : WorldRefusal → Bool
is_fault (refusal.Office (refused.Frame fault)) = true
is_fault (refusal.Office (refused.Channel fault)) = true
is_fault (refusal.Office refused.NotOurs) = false
is_fault (refusal.Office refused.QueueFull) = false
is_fault (refusal.Office refused.NotNow) = false
is_fault (refusal.Office refused.JournalFull) = false
is_fault (refusal.Office refused.Memory) = false
is_fault refusal.NoOffice = false
is_fault refusal.NoFrame = false

-- a frame that was sent isn't refused for what it says: whatever is refused, it is no frame's fault
abbrev pub FramesAreTaken : World → Type 0
FramesAreTaken w = (e : WorldEvent) (r : WorldRefusal) → (happens w e).0 ≡ Err r → is_fault r ≡ false

-- and no event is answered that a frame comes too early
abbrev pub NoneIsEarly : World → Type 0
NoneIsEarly w = (e : WorldEvent) (r : Reply) → (happens w e).0 ≡ Ok r → r ≢ reply.Early

-- The frame goes on a wire: it has bytes that spell it, and no others do; these spell no other frame; and whichever office
-- gets them takes this frame.
pub record GoesByBytes (f : Fields) : Type 0 where
  pub spelled : Spells (spelling f) f
  pub one : (bytes : List ℕ) → Spells bytes f → bytes ≡ spelling f
  pub only : (g : Fields) → Spells (spelling f) g → g ≡ f
  pub taken : (s : Site) (tag : ℕ) (result : Result Reply offices.Refusal) (s' : Site) → Receives s tag (spelling f) result s' → Steps s tag (event.Took f) result s'

-- each frame that was sent does
abbrev pub FramesGoByBytes : World → Type 0
FramesGoByBytes w = (k : ℕ) (f : Fields) → frame_at w k ≡ Some f → GoesByBytes f

-- A frame's count is at least what its sender had taken when it sent the frame's message: so it is at each point of the
-- sender's journal at which the message has no number yet. A frame without a message has the number 0.
abbrev pub CountsAreTimely : World → Type 0
CountsAreTimely w = (k : ℕ) (f : Fields) → slice_get w.frames k ≡ Some f → (before later : List Entry) → (site_at w f.from).entries ≡ before ++ later →
    used (link_at w.plan f.from before f.to).sending < f.number → (link_at w.plan f.from before f.to).receiving.taken ≤ f.count

-- a number is of one message: two frames that an office ever sent to another under one number have the same message
abbrev pub NumbersTellMessages : World → Type 0
NumbersTellMessages w = (j k : ℕ) (f g : Fields) → slice_get w.frames j ≡ Some f → slice_get w.frames k ≡ Some g → f.from ≡ g.from → f.to ≡ g.to → f.number ≡ g.number → f.msg ≡ g.msg

-- which events led to a world from its plan
pub record IsReached (w : World) : Type 0 where
  pub events : List WorldEvent
  pub leads : run_of (opening w.plan) events ≡ w

-- ---- laws

-- so it is in each world that a list of events leads to, from every consistent plan
abbrev pub Always : (World → Type 0) → Type 0
Always claim = (plan : PlanValue) (events : List WorldEvent) → IsConsistent plan → claim (run_of (opening plan) events)

-- from a plan that is accepted, after every list of events, precedence among the offices has no ring
abbrev pub PrecedenceHasNoRing : Type 0
PrecedenceHasNoRing = (plan : PlanValue) (events : List WorldEvent) → IsAccepted plan → HasNoRing plan (tables_of (pairs_at (run_of (opening plan) events)))

-- where each frame that was sent is in the format's ranges, each goes by bytes
abbrev pub FramesInRangeGoByBytes : Type 0
FramesInRangeGoByBytes = (w : World) → All IsFrame w.frames → FramesGoByBytes w
