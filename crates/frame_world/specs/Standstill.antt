-- What a world does next, left to itself: a rule of an office, or a message that is taken, as long as a session is left.
use Rattle.std.specs.Prelude.{◌≡◌, ℕ, suc, ◌+◌, ◌-◌, ◌<◌, ◌≤◌, Bool, true, ◌==◌, nat_lt, if◌then◌else◌, List, [], ◌∷◌, length, Option, None, Some, option_map, unwrap_or, Ok}
use Rattle.std.specs.List.{list_all, range_with_len}
use Rattle.std.specs.Option.{option_or}
use Rattle.frame_codec.specs.Frame.{Fields}
use Rattle.office_map.specs.PlanValue.{PlanValue, are_neighbours, neighbours_of}
use Rattle.office_map.specs.Consistency.{IsAccepted}
use Rattle.window_link.specs.Windows.{used}
use Rattle.office_journal.specs.declared.rule.Rule.{Rule}
use Rattle.office_journal.specs.declared.reply.Reply.TheVariants as reply
use Rattle.site_core.specs.Limits.{most_entries}
use Rattle.site_core.specs.Agenda.{unfinished}
use Rattle.site_core.specs.Offices.{may}
use Rattle.site_core.specs.Journals.{Site, office_of}
use Rattle.site_core.specs.RuleOrder.{next_rule}
use Rattle.frame_world.specs.declared.event.WorldEvent.{WorldEvent}
use Rattle.frame_world.specs.declared.event.WorldEvent.TheVariants as happening
use Rattle.frame_world.specs.declared.next_step.NextStep.{NextStep}
use Rattle.frame_world.specs.declared.next_step.NextStep.TheVariants as next
use Rattle.frame_world.specs.Worlds.{World, opening, happens, run_of, site_at, office_at}
use Rattle.frame_world.specs.Ways.{pairs_at}

-- how many messages an office sent to another, and how many of them the other took
abbrev pub sent_by : World → ℕ → ℕ → ℕ
sent_by w a b = used ((pairs_at w a).link b).sending

abbrev pub taken_of : World → ℕ → ℕ → ℕ
taken_of w a b = ((pairs_at w b).link a).receiving.taken

-- ---- what there is to do

-- an office of the plan may do the rule
pub record MayDo (w : World) (a : ℕ) (rule : Rule) : Type 0 where
  pub of_plan : a < length w.plan.offices
  pub guard : may w.plan a (office_at w a) rule ≡ true

-- a message from a to its neighbour b is the next for b: its number is one more than b took, and a sent so many or more
pub record IsNextMessage (w : World) (a b number : ℕ) : Type 0 where
  pub near : are_neighbours w.plan a b ≡ true
  pub next : number ≡ taken_of w a b + 1
  pub sent : number ≤ sent_by w a b

-- no office has a session that is current or waits
abbrev pub AllAreFinished : World → Type 0
AllAreFinished w = (a : ℕ) → unfinished (office_at w a).agenda ≡ 0

-- what a step says of the world: the rule may be done, the message is next, or no office has a session that is current
-- or waits
abbrev pub IsStep : World → NextStep → Type 0
IsStep w (next.Rule a rule) = MayDo w a rule
IsStep w (next.Message a b number) = IsNextMessage w a b number
IsStep w next.AllFinished = AllAreFinished w

-- ---- which of it comes next

abbrev pub are_all_finished : World → Bool
are_all_finished w = list_all (λ (s : Site). unfinished (office_of s).agenda == 0) w.sites

-- the step of the first of these that has one
abbrev pub first_of : (ℕ → Option NextStep) → List ℕ → Option NextStep
first_of step [] = None
first_of step (x ∷ xs) = option_or (step x) (first_of step xs)

abbrev pub first_office : World → (ℕ → Option NextStep) → Option NextStep
first_office w step = first_of step (range_with_len 0 (length w.plan.offices))

-- the rule that an office does next
abbrev pub rule_at : World → ℕ → Option NextStep
rule_at w a = option_map (next.Rule a) (next_rule w.plan a (office_at w a))

-- the message that is next for a neighbour, and for the least neighbour that has one
abbrev pub message_to : World → ℕ → ℕ → Option NextStep
message_to w a b = if nat_lt (taken_of w a b) (sent_by w a b) then Some (next.Message a b (taken_of w a b + 1)) else None

abbrev pub message_from : World → ℕ → Option NextStep
message_from w a = first_of (message_to w a) (neighbours_of w.plan a)

-- Where a session is current or waits somewhere: the next rule of the least office that has one, or else the next
-- message of the least office that has one, for its least neighbour.
abbrev pub next_step : World → NextStep
next_step w =
    if are_all_finished w then next.AllFinished
    else unwrap_or (option_or (first_office w (rule_at w)) (first_office w (message_from w))) next.AllFinished

-- ---- the step, done

-- where the message stands among those that wait for b, from 1
abbrev pub place_of : World → ℕ → ℕ → ℕ → ℕ
place_of w a b number = number - ((pairs_at w a).link b).sending.acked

-- the journal of an office takes an entry more
abbrev pub HasRoom : World → ℕ → Type 0
HasRoom w a = length (site_at w a).entries < most_entries

-- its frame is made, and that frame, the last of all, is taken where it comes
pub record IsSentAndTaken (w : World) (a b number : ℕ) : Type 0 where
  pub frame : Fields
  pub sent : (happens w (happening.Send a b (place_of w a b number))).0 ≡ Ok (reply.Frame frame)
  pub taken : (happens (happens w (happening.Send a b (place_of w a b number))).1 (happening.Deliver (suc (length w.frames)))).0 ≡ Ok reply.Taken

-- ---- claims

-- from every plan that is accepted, in every world: what comes next is there to be done, or no session is left
abbrev pub NeverStuck : Type 0
NeverStuck = (plan : PlanValue) (events : List WorldEvent) → IsAccepted plan → IsStep (run_of (opening plan) events) (next_step (run_of (opening plan) events))

-- a rule that may be done is done, where the office's journal has room
abbrev pub RulesAreDone : World → Type 0
RulesAreDone w = (a : ℕ) (rule : Rule) → MayDo w a rule → HasRoom w a → (happens w (happening.Do a rule)).0 ≡ Ok reply.Done

-- and a message that is next is sent and taken, where both journals have room
abbrev pub MessagesAreTaken : World → Type 0
MessagesAreTaken w = (a b number : ℕ) → IsNextMessage w a b number → HasRoom w a → HasRoom w b → IsSentAndTaken w a b number
