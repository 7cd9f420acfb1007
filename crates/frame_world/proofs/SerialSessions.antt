-- Over every list of events the finished sessions are a serial run, and each bottle has its value.
use Rattle.std.proofs.Common.{◌≡◌, ℕ, ◌<◌, Bool, true, false, cond, List, [], ◌∷◌, ◌++◌, length, map, Option, None, Some, Ok, refl, sym, ap, subst, ◌∙◌, ⊎_elim, append-nil}
use Rattle.std.specs.Prelude.{nat_lt, slice_get, ◌==◌, ◌&&◌, is_some, unwrap_or, option_map}
use Rattle.std.proofs.lemmas.Bool.{and_parts, eqb-true}
use Rattle.std.proofs.lemmas.List.{map_push}
use Rattle.std.proofs.lemmas.Option.{get_or_from_slice_get, slice_get-map}
use Rattle.bottle_values.specs.declared.Value.{Value}
use Rattle.bottle_values.specs.Operations.{nought}
use Rattle.bottle_values.specs.Lists.{is_among}
use Rattle.bottle_values.specs.Maps.{put, write_all}
use Rattle.bottle_values.specs.MapLaws.{put_cases}
use Rattle.office_map.specs.declared.entries.RecordEntry.{RecordEntry}
use Rattle.office_map.specs.PlanValue.{PlanValue, peer, records_of, start_end, start_values}
use Rattle.office_map.specs.NeighbourLaws.{entry_of, end_within}
use Rattle.session_meaning.specs.declared.ending.Ending.{Ending}
use Rattle.session_meaning.specs.declared.ending.Outcome.{Outcome}
use Rattle.session_meaning.specs.ProgramValue.{ProgramValue}
use Rattle.session_meaning.specs.Meaning.{alone}
use Rattle.session_meaning.specs.Length.{length_on}
use Rattle.session_meaning.specs.Laws.{WritesWhatItHas}
use Rattle.session_machine.specs.Pieces.{ending_after}
use Rattle.serial_replay.specs.Serial.{start_map, ending_on, map_after, map_of, outcomes_of}
use Rattle.drinking_core.specs.Drinkers.{is_drinking, holds, value_after}
use Rattle.drinking_core.specs.Drinkers as bottles
use Rattle.drinking_core.specs.Worlds as bars
use Rattle.frame_codec.specs.declared.message.Msg.{Msg}
use Rattle.frame_codec.specs.declared.message.Msg.TheVariants as msg
use Rattle.frame_codec.specs.Frame.{Fields}
use Rattle.site_core.specs.declared.agendas.session.Session.{Session}
use Rattle.office_journal.specs.declared.rule.Rule.{Rule}
use Rattle.office_journal.specs.declared.rule.Rule.TheVariants as rule
use Rattle.office_journal.specs.declared.event.Event as office
use Rattle.office_journal.specs.declared.event.Event.TheVariants as event
use Rattle.office_journal.specs.declared.reply.Reply.{Reply}
use Rattle.site_core.specs.Pairs.{Pairs, arrival_of, follows}
use Rattle.site_core.specs.Agenda.{Current, Idle, Gathering, Working, first_needs, writes_of, is_waiting}
use Rattle.site_core.specs.Offices.{Office, may, value_in, answer}
use Rattle.frame_world.specs.declared.event.WorldEvent.{WorldEvent}
use Rattle.frame_world.specs.Worlds.{Finished, opening, run_of, ended_as, ended, finished_by}
use Rattle.frame_world.specs.Headline.{office_and_ending}
use Rattle.frame_world.specs.Ways.{bars_of}
use Rattle.frame_world.specs.refinement.PartsLaws.{PartsLaws}
use Rattle.frame_world.specs.WorldStates.{State, state_of, starting, after_reply, IsAccepted}
use Rattle.frame_world.specs.WorldLaws.{through}
use Rattle.frame_world.proofs.Answers.{ByFrame, ByKept, rule_step, step_of, all_after, rule_alone, was_done, withdrawal_step, withdrawal_alone}
use Rattle.frame_world.proofs.OneLink.{brought}
use Rattle.frame_world.proofs.BarsFollow.{bottle_coming, bottle_event, bars_then}
use Rattle.frame_world.proofs.Following.{pairs_in, through_moves, moved, Follow, Follows, pairs_after, kept_moves, kept_follows, own_step_follows, moves_on, follows_on, starts}
use Rattle.frame_world.proofs.PlacesAndForks.{all_at}
use Rattle.frame_world.proofs.Sessions.{IsCurrent, IsAtWork, IsSane, needs, sane_on, sane_at_start, agree_reads, needs_are_ours, not_true}
use Rattle.frame_world.proofs.SerialRun as serial

abbrev pub programs_of : List Finished → List ProgramValue
programs_of fs = map (λ (f : Finished). f.program) fs

abbrev pub outcomes_in : List Finished → List Outcome
outcomes_in fs = map (λ (f : Finished). f.outcome) fs

-- the values after the finished sessions
abbrev pub values_after : PlanValue → List Finished → ℕ → Value
values_after plan fs = map_of (start_map plan) (programs_of fs)

pub record IsSerial (plan : PlanValue) (s : State) : Type 0 where
  pub values : (r : ℕ) → r < length plan.records → bars.HasValue (bars_of (pairs_in s)) r (values_after plan s.finished r)
  pub outcomes : map office_and_ending (outcomes_in s.finished) ≡ map office_and_ending (outcomes_of (start_map plan) (programs_of s.finished))

-- ---- events that finish nothing

-- no end of a session
abbrev pub IsNoEnd : Option bars.Event → Type 0
IsNoEnd None = Unit {0}
IsNoEnd (Some e) = (plan : PlanValue) (w : bars.World) → bars.finishes plan w e ≡ false

pub values_stay : (plan : PlanValue) (w w' : bars.World) (e : Option bars.Event) (r : ℕ) (v : Value) → bars.ValuesStay → IsNoEnd e → w' ≡ bars_then plan w e → bars.HasValue w r v → bars.HasValue w' r v
values_stay plan w w' None r v law none is h = subst (λ k. bars.HasValue k r v) (sym is) h
values_stay plan w w' (Some e) r v law none is h = subst (λ k. bars.HasValue k r v) (sym is) (law plan w e r v (none plan w) h)

pub nothing_ends : (a u : ℕ) (m : Option Msg) → IsNoEnd (bottle_coming a u m)
nothing_ends a u None = tt
nothing_ends a u (Some msg.AskFork) = tt
nothing_ends a u (Some msg.Fork) = tt
nothing_ends a u (Some (msg.AskBottle r)) = λ plan w. refl
nothing_ends a u (Some (msg.Bottle r x)) = λ plan w. refl

-- each bottle keeps its value
abbrev KeepValues : (ℕ → Pairs) → (ℕ → Pairs) → Type 0
KeepValues pairs pairs' = (r : ℕ) (v : Value) → bars.HasValue (bars_of pairs) r v → bars.HasValue (bars_of pairs') r v

-- the world goes on, where nothing finished
goes_on : (plan : PlanValue) (s s' : State) (a : ℕ) (e : office.Event) (r : Reply) (o : Office) → s' ≡ after_reply s a e r o → finished_by a (s.office a).agenda.current e ≡ [] →
    KeepValues (pairs_in s) (pairs_in s') → IsSerial plan s → IsSerial plan s'
goes_on plan s s' a e r o led none stay h = record {
  values = λ q lt. subst (λ fs. bars.HasValue (bars_of (pairs_in s')) q (values_after plan fs q)) (sym same) (stay q (values_after plan s.finished q) (h.values q lt));
  outcomes = subst (λ fs. map office_and_ending (outcomes_in fs) ≡ map office_and_ending (outcomes_of (start_map plan) (programs_of fs))) (sym same) h.outcomes;
}
  where
    same : s'.finished ≡ s.finished
    same = ap (λ (k : State). k.finished) led ∙ ap (λ l. s.finished ++ l) none ∙ append-nil s.finished

-- ---- the end of a session

-- what an office has held, whoever has a value there
pub held_value : (w : bars.World) (a r : ℕ) (v : Value) → bars.HasValue w r v → holds (w.drinker a) r ≡ true → (w.drinker a).bottle r ≡ Some v
held_value w a r v h e = go (bars.is_with h.spot a) (h.at.here a)
  where
    go : (b : Bool) → (w.drinker a).bottle r ≡ cond b (Some v) None → (w.drinker a).bottle r ≡ Some v
    go true is = is
    go false is = absurd (not_true (holds (w.drinker a) r) e (ap is_some is))

-- whose bottle the office has not
pub not_here : (w : bars.World) (a r : ℕ) (v : Value) (h : bars.HasValue w r v) → bars.is_with h.spot a ≡ false → holds (w.drinker a) r ≡ false
not_here w a r v h e = ap is_some (h.at.here a) ∙ ap (λ b. is_some (cond b (Some v) None)) e

-- the serial run's next program is the one that an office finishes
record IsNext (plan : PlanValue) (s : State) (a : ℕ) (x : Session) (reads : List (ℕ × Value)) (e : Ending) : Type 0 where
  ending : e ≡ ending_on x.program (values_after plan s.finished)
  needs_held : (r : ℕ) → is_among (needs x) r ≡ true → holds (pairs_in s a).drinker r ≡ true
  office : x.program.office ≡ a

is_next : (plan : PlanValue) (s : State) (a : ℕ) (x : Session) (reads : List (ℕ × Value)) (done : ℕ) (e : Ending) → IsSerial plan s → IsAtWork plan a x reads (pairs_in s a).drinker → ending_after x.program reads done ≡ Some e → IsNext plan s a x reads e
is_next plan s a x reads done e h w is = record {
  ending = told (nat_lt done (length_on x.program reads)) is ∙ ap (alone x.program) (w.values ∙ agree_reads (value_in (pairs_in s a).drinker) (values_after plan s.finished) (needs x) (λ r i. ap (λ o. unwrap_or o nought) (held_value (bars_of (pairs_in s)) a r (values_after plan s.finished r) (h.values r (inside r i)) (all_at (holds (pairs_in s a).drinker) (needs x) r w.held i))));
  needs_held = λ r i. all_at (holds (pairs_in s a).drinker) (needs x) r w.held i;
  office = eqb-true x.program.office a (and_parts (x.program.office == a) _ w.ours).0;
}
  where
    inside : (r : ℕ) → is_among (needs x) r ≡ true → r < length plan.records
    inside r i = end_within plan r a (needs_are_ours plan a x.program r w.ours i)

    told : (b : Bool) → cond b None (Some (alone x.program reads)) ≡ Some e → e ≡ alone x.program reads
    told true k = absurd cc
    told false k = cc

-- each bottle has the value of the serial run with that program
values_written : (plan : PlanValue) (s : State) (a : ℕ) (x : Session) (reads : List (ℕ × Value)) (e : Ending) (w' : bars.World) (r : ℕ) → WritesWhatItHas → bars.FinishingWrites → IsNext plan s a x reads e →
    bars.finishes plan (bars_of (pairs_in s)) (bars.Do a (bottles.Finish (Some e.writes))) ≡ true → w' ≡ bars.happens plan (bars_of (pairs_in s)) (bars.Do a (bottles.Finish (Some e.writes))) →
    bars.HasValue (bars_of (pairs_in s)) r (values_after plan s.finished r) → bars.HasValue w' r (map_after x.program (values_after plan s.finished) r)
values_written plan s a x reads e w' r wlaw flaw next fin is h =
    record { spot = h.spot; at = subst (λ k. bars.IsBottleAt k r h.spot (map_after x.program m r)) (sym is) (subst (bars.IsBottleAt (bars.happens plan (bars_of (pairs_in s)) (bars.Do a (bottles.Finish (Some e.writes)))) r h.spot) (written (bars.is_with h.spot a) refl) (flaw plan (bars_of (pairs_in s)) a e.writes r h.spot (m r) fin h.at)) }
  where
    m : ℕ → Value
    m = values_after plan s.finished

    as_alone : write_all e.writes m r ≡ map_after x.program m r
    as_alone = ap (λ (k : Ending). write_all k.writes m r) next.ending

    written : (b : Bool) → bars.is_with h.spot a ≡ b → cond b (value_after e.writes r (m r)) (m r) ≡ map_after x.program m r
    written true i = serial.write_same e.writes (λ q. m r) m r refl ∙ as_alone
    written false i = ⊎_elim
        (λ k. absurd (not_true (holds (pairs_in s a).drinker r) (next.needs_held r (serial.written_needed wlaw x.program m r k)) (not_here (bars_of (pairs_in s)) a r (m r) h i)))
        sym
        (serial.unwritten (ending_on x.program m).writes m r)

-- what an office does by finishing
module _ (plan : PlanValue) (s s' : State) (a : ℕ) (x : Session) (reads : List (ℕ × Value)) (e : Ending)
    (laws : PartsLaws)
    (h : IsSerial plan s)
    (next : IsNext plan s a x reads e)
    (finishes : s'.finished ≡ s.finished ++ record { program = x.program; outcome = record { office = a; ticket = x.ticket; ending = e } } ∷ [])
    (fin : bars.finishes plan (bars_of (pairs_in s)) (bars.Do a (bottles.Finish (Some e.writes))) ≡ true)
    (bar_is : bars_of (pairs_in s') ≡ bars.happens plan (bars_of (pairs_in s)) (bars.Do a (bottles.Finish (Some e.writes))))
  where
    abbrev f : Finished
    f = record { program = x.program; outcome = record { office = a; ticket = x.ticket; ending = e } }

    abbrev ps : List ProgramValue
    ps = programs_of s.finished

    order : programs_of s'.finished ≡ ps ++ x.program ∷ []
    order = ap programs_of finishes ∙ map_push (λ (g : Finished). g.program) s.finished f

    new_map : values_after plan s'.finished ≡ map_after x.program (values_after plan s.finished)
    new_map = ap (map_of (start_map plan)) order ∙ serial.map_push_one (start_map plan) ps x.program

    outcome : office_and_ending f.outcome ≡ office_and_ending (serial.outcome_of ps x.program (values_after plan s.finished))
    outcome = ap (λ k. (k, e)) (sym next.office) ∙ ap (λ k. (x.program.office, k)) next.ending

    -- the serial run with one program more
    run_more : map office_and_ending (outcomes_of (start_map plan) (ps ++ x.program ∷ []))
        ≡ map office_and_ending (outcomes_of (start_map plan) ps) ++ office_and_ending (serial.outcome_of ps x.program (values_after plan s.finished)) ∷ []
    run_more = ap (map office_and_ending) (serial.outcomes_push [] (start_map plan) ps x.program)
        ∙ map_push office_and_ending (outcomes_of (start_map plan) ps) (serial.outcome_of ps x.program (values_after plan s.finished))

    ends_session : IsSerial plan s'
    ends_session = record {
      values = λ r lt. subst (λ (m : ℕ → Value). bars.HasValue (bars_of (pairs_in s')) r (m r)) (sym new_map) (values_written plan s a x reads e (bars_of (pairs_in s')) r laws.written laws.finishing next fin bar_is (h.values r lt));
      outcomes = ap (map office_and_ending) (ap outcomes_in finishes ∙ map_push (λ (g : Finished). g.outcome) s.finished f) ∙ map_push office_and_ending (outcomes_in s.finished) f.outcome
          ∙ ap (λ l. l ++ office_and_ending f.outcome ∷ []) h.outcomes ∙ ap (λ k. map office_and_ending (outcomes_of (start_map plan) ps) ++ k ∷ []) outcome
          ∙ sym run_more ∙ ap (λ l. map office_and_ending (outcomes_of (start_map plan) l)) (sym order);
    }

-- ---- any event

pub record IsKept (plan : PlanValue) (s : State) : Type 0 where
  pub follows : Follows plan s
  pub sane : (a : ℕ) → IsSane plan a (s.office a)
  pub serial : IsSerial plan s

-- an office's bar has the plan's records and other ends
bar_records : (plan : PlanValue) (s : State) (a : ℕ) → bars.RecordsStay → Follows plan s → (pairs_in s a).drinker.records ≡ records_of plan a
bar_records plan s a law h = subst (λ (w : bars.World). (w.drinker a).records ≡ records_of plan a) (sym h.bars.led) (law plan h.bars.events a)

bar_peers : (plan : PlanValue) (s : State) (a : ℕ) → bars.PeersStay → Follows plan s → (r : ℕ) → (pairs_in s a).drinker.peer r ≡ peer plan a r
bar_peers plan s a law h r = subst (λ (w : bars.World). (w.drinker a).peer r ≡ peer plan a r) (sym h.bars.led) (law plan h.bars.events a r)

-- an accepted Finish
finishes_one : (plan : PlanValue) (s s' : State) (a : ℕ) (c : Current) → PartsLaws → nat_lt a (length plan.offices) ≡ true → IsSerial plan s → IsCurrent plan a c (pairs_in s a).drinker →
    bottles.may (pairs_in s a).drinker (bottles.Finish (writes_of c)) ≡ true → s'.finished ≡ s.finished ++ ended a c →
    bars_of (pairs_in s') ≡ bars.happens plan (bars_of (pairs_in s)) (bars.Do a (bottles.Finish (writes_of c))) → IsSerial plan s'
finishes_one plan s s' a Idle laws inside h is may fin bar_is = absurd (not_true false (and_parts (is_drinking (pairs_in s a).drinker.phase) false may).1 refl)
finishes_one plan s s' a (Gathering x) laws inside h is may fin bar_is = absurd (not_true false (and_parts (is_drinking (pairs_in s a).drinker.phase) false may).1 refl)
finishes_one plan s s' a (Working x reads done) laws inside h is may fin bar_is = by (ending_after x.program reads done) refl may fin bar_is
  where
    writes : Option Ending → Option (List (ℕ × Value))
    writes o = option_map (λ (e : Ending). e.writes) o

    by : (o : Option Ending) → ending_after x.program reads done ≡ o → bottles.may (pairs_in s a).drinker (bottles.Finish (writes o)) ≡ true → s'.finished ≡ s.finished ++ ended_as a x o →
        bars_of (pairs_in s') ≡ bars.happens plan (bars_of (pairs_in s)) (bars.Do a (bottles.Finish (writes o))) → IsSerial plan s'
    by None is_o may fin bar_is = absurd (not_true false (and_parts (is_drinking (pairs_in s a).drinker.phase) false may).1 refl)
    by (Some e) is_o may fin bar_is =
        ends_session plan s s' a x reads e laws h (is_next plan s a x reads done e h is is_o) fin
        (ap (λ b. b && bottles.may (pairs_in s a).drinker (bottles.Finish (Some e.writes))) inside ∙ may) bar_is

-- a frame's message and those that follow it leave each bottle its value
record StayInPlace (plan : PlanValue) (s s' : State) (pairs : ℕ → Pairs) : Type 0 where
  follow : Follow plan s'.frames pairs
  values : KeepValues (pairs_in s) pairs

frame_keeps_values : (plan : PlanValue) (s s' : State) (f : Fields) → PartsLaws → Follows plan s → (i : IsAccepted plan s s') → step_of (s.office i.place) i.event ≡ ByFrame f → KeepValues (pairs_in s) (pairs_in s')
frame_keeps_values plan s s' f laws h i is = subst (KeepValues (pairs_in s)) (sym (pairs_after plan s s' i)) all.values
  where
    own_event : IsNoEnd (bottle_event i.place (pairs_in s i.place) (step_of (s.office i.place) i.event))
    own_event = subst (λ k. IsNoEnd (bottle_event i.place (pairs_in s i.place) k)) (sym is) (nothing_ends i.place f.from (brought (arrival_of (pairs_in s i.place) f)))

    own : StayInPlace plan s s' (moved (pairs_in s) i.place (step_of (s.office i.place) i.event))
    own = record {
      follow = own_step_follows plan s s' h i;
      values = λ r v has. values_stay plan (bars_of (pairs_in s)) (bars_of (moved (pairs_in s) i.place (step_of (s.office i.place) i.event))) (bottle_event i.place (pairs_in s i.place) (step_of (s.office i.place) i.event)) r v laws.stay own_event (moves_on plan s s' i h).bars has;
    }

    keeps : (qs : ℕ → Pairs) (v : ℕ) (o : Option Msg) → follows plan i.place v (qs i.place) ≡ o → StayInPlace plan s s' qs → StayInPlace plan s s' (moved qs i.place (ByKept v o))
    keeps qs v o e k = record {
      follow = kept_follows plan s'.frames qs i.place v o e k.follow;
      values = λ r x has. values_stay plan (bars_of qs) (bars_of (moved qs i.place (ByKept v o))) (bottle_coming i.place v o) r x laws.stay (nothing_ends i.place v o) (kept_moves plan qs i.place v o k.follow.linked e).bars (k.values r x has);
    }

    all : StayInPlace plan s s' (put (pairs_in s) i.place (all_after plan i.place (pairs_in s i.place) (step_of (s.office i.place) i.event)))
    all = through_moves plan i.place (StayInPlace plan s s') keeps (pairs_in s) (step_of (s.office i.place) i.event) own

-- what the event leaves, and what its own step is to the bars
abbrev LeavesPairs : PlanValue → State → State → ℕ → office.Event → Type 0
LeavesPairs plan s s' a e = pairs_in s' ≡ put (pairs_in s) a (all_after plan a (pairs_in s a) (step_of (s.office a) e))

abbrev StepsBars : PlanValue → State → ℕ → office.Event → Type 0
StepsBars plan s a e = bars_of (moved (pairs_in s) a (step_of (s.office a) e)) ≡ bars_then plan (bars_of (pairs_in s)) (bottle_event a (pairs_in s a) (step_of (s.office a) e))

withdrawing_ends_nothing : (a : ℕ) (p : Pairs) (waiting : Bool) → IsNoEnd (bottle_event a p (withdrawal_step waiting))
withdrawing_ends_nothing a p true = tt
withdrawing_ends_nothing a p false = λ plan w. refl

-- of any accepted event
serial_on : (plan : PlanValue) (s s' : State) → PartsLaws → IsKept plan s → IsAccepted plan s s' → IsSerial plan s'
serial_on plan s s' laws k i = by i.event refl i.answered i.led (pairs_after plan s s' i) (moves_on plan s s' i k.follows).bars
  where
    by : (e : office.Event) → i.event ≡ e → answer plan i.place (s.office i.place) e ≡ Ok (i.reply, i.new) → s' ≡ after_reply s i.place e i.reply i.new → LeavesPairs plan s s' i.place e → StepsBars plan s i.place e → IsSerial plan s'
    by (event.Submit p) is ans led left bar_is =
        goes_on plan s s' i.place (event.Submit p) i.reply i.new led refl
        (λ r v. values_stay plan (bars_of (pairs_in s)) (bars_of (pairs_in s')) None r v laws.stay tt (ap bars_of left ∙ bar_is)) k.serial
    by (event.Send v j) is ans led left bar_is =
        goes_on plan s s' i.place (event.Send v j) i.reply i.new led refl
        (λ r x. values_stay plan (bars_of (pairs_in s)) (bars_of (pairs_in s')) None r x laws.stay tt (ap bars_of left ∙ bar_is)) k.serial
    by (event.Took f) is ans led left bar_is =
        goes_on plan s s' i.place (event.Took f) i.reply i.new led refl
        (frame_keeps_values plan s s' f laws k.follows i (ap (step_of (s.office i.place)) is)) k.serial
    by (event.Withdraw t) is ans led left bar_is =
        let waiting : Bool = is_waiting (s.office i.place).agenda.queue t in
        goes_on plan s s' i.place (event.Withdraw t) i.reply i.new led refl
        (λ r v. values_stay plan (bars_of (pairs_in s)) (bars_of (pairs_in s')) (bottle_event i.place (pairs_in s i.place) (withdrawal_step waiting)) r v laws.stay (withdrawing_ends_nothing i.place (pairs_in s i.place) waiting)
        (ap bars_of (left ∙ ap (put (pairs_in s) i.place) (withdrawal_alone plan i.place (pairs_in s i.place) waiting)) ∙ bar_is)) k.serial
    by (event.Do r) is ans led left bar_is =
        let d = was_done plan i.place (s.office i.place) r i.reply i.new ans in
        of r d.guard led (ap bars_of (left ∙ ap (put (pairs_in s) i.place) (rule_alone plan i.place (s.office i.place) r)) ∙ bar_is)
      where
        quiet : (r : Rule) (ev : Option bars.Event) → s' ≡ after_reply s i.place (event.Do r) i.reply i.new → finished_by i.place (s.office i.place).agenda.current (event.Do r) ≡ [] →
            IsNoEnd ev → bars_of (pairs_in s') ≡ bars_then plan (bars_of (pairs_in s)) ev → IsSerial plan s'
        quiet r ev led none no_end bar_is = goes_on plan s s' i.place (event.Do r) i.reply i.new led none
            (λ q x. values_stay plan (bars_of (pairs_in s)) (bars_of (pairs_in s')) ev q x laws.stay no_end bar_is) k.serial

        of : (r : Rule) → may plan i.place (s.office i.place) r ≡ true → s' ≡ after_reply s i.place (event.Do r) i.reply i.new → bars_of (pairs_in s') ≡ bars_then plan (bars_of (pairs_in s)) (bottle_event i.place (pairs_in s i.place) (rule_step (s.office i.place) r)) → IsSerial plan s'
        of rule.Start g led b = quiet rule.Start (Some (bars.Do i.place (bottles.Start (first_needs (s.office i.place).agenda.queue)))) led refl (λ p w. refl) b
        of rule.Hungry g led b = quiet rule.Hungry None led refl tt b
        of (rule.AskFork v) g led b = quiet (rule.AskFork v) None led refl tt b
        of (rule.GiveFork v) g led b = quiet (rule.GiveFork v) None led refl tt b
        of rule.Eat g led b = quiet rule.Eat None led refl tt b
        of rule.Leave g led b = quiet rule.Leave None led refl tt b
        of (rule.AskBottle r) g led b = quiet (rule.AskBottle r) (Some (bars.Do i.place (bottles.AskBottle r))) led refl (λ p w. refl) b
        of (rule.GiveBottle r) g led b = quiet (rule.GiveBottle r) (Some (bars.Do i.place (bottles.GiveBottle r (pairs_in s i.place).diner.held))) led refl (λ p w. refl) b
        of rule.Drink g led b = quiet rule.Drink (Some (bars.Do i.place bottles.Drink)) led refl (λ p w. refl) b
        of (rule.Work n) g led b = quiet (rule.Work n) None led refl tt b
        of rule.Finish g led b =
            finishes_one plan s s' i.place (s.office i.place).agenda.current laws i.inside k.serial (k.sane i.place).current g
            (ap (λ (x : State). x.finished) led) b

kept_on : (plan : PlanValue) → PartsLaws → (s s' : State) → IsKept plan s → IsAccepted plan s s' → IsKept plan s'
kept_on plan laws s s' k i = record {
  follows = follows_on plan s s' k.follows i;
  sane = λ x. subst (λ (f : ℕ → Office). IsSane plan x (f x)) (sym (ap (λ (y : State). y.office) i.led))
      (put_cases s.office i.place i.new x (λ (o : Office). IsSane plan x o)
      (λ e. subst (λ y. IsSane plan y i.new) (sym e) (sane_on plan i.place (s.office i.place) i.event i.reply i.new laws.away laws.away_kept (bar_records plan s i.place laws.records k.follows) (bar_peers plan s i.place laws.peers k.follows) i.answered (k.sane i.place)))
      (λ ne. k.sane x));
  serial = serial_on plan s s' laws k i;
}

-- the bottles start with the plan's values
pub first_values : (plan : PlanValue) (r : ℕ) → bars.BottlesStartWithTheirValues → r < length plan.records → bars.HasValue (bars.opening plan) r (start_map plan r)
first_values plan r law lt =
    let e = entry_of plan r lt in
    let there : slice_get (start_values plan) r ≡ Some e.0.value = slice_get-map (λ (x : RecordEntry). x.value) plan.records r ∙ ap (option_map (λ (x : RecordEntry). x.value)) e.1 in
    record { spot = bars.With (start_end e.0); at = subst (bars.IsBottleAt (bars.opening plan) r (bars.With (start_end e.0))) (sym (get_or_from_slice_get (start_values plan) r e.0.value nought there)) (law plan r e.0 e.1) }

kept_at_start : (plan : PlanValue) → PartsLaws → IsKept plan (starting plan)
kept_at_start plan laws = record {
  follows = starts plan;
  sane = λ a. sane_at_start plan a;
  serial = record { values = λ r lt. first_values plan r laws.begin lt; outcomes = refl };
}

pub kept : (plan : PlanValue) → PartsLaws → (es : List WorldEvent) → IsKept plan (state_of (run_of (opening plan) es))
kept plan laws es = through plan (IsKept plan) (kept_at_start plan laws) (kept_on plan laws) es
