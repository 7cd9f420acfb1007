-- Over every list of events, with frames that are made up: sessions end as their programs do alone on what they read.
use Rattle.std.proofs.Common.{◌≡◌, ℕ, Bool, true, false, cond, [], None, Some, sym, ap, subst}
use Rattle.std.specs.Prelude.{nat_lt, All}
use Rattle.std.proofs.lemmas.List.Elements.{All-nil, All-cons, All-append, All-filter}
use Rattle.office_map.specs.PlanValue.{PlanValue}
use Rattle.session_meaning.specs.Meaning.{alone}
use Rattle.session_meaning.specs.Length.{length_on}
use Rattle.session_meaning.specs.Laws.{TellsWhatItRead}
use Rattle.site_core.specs.agendas.Agenda.{Current, Idle, Gathering, Working}
use Rattle.office_journal.specs.declared.rule.Rule.TheVariants as rule
use Rattle.office_journal.specs.declared.event.Event as office
use Rattle.office_journal.specs.declared.event.Event.TheVariants as event
use Rattle.frame_world.specs.Worlds.{World, Finished, ended_as, ended, finished_by, opening}
use Rattle.frame_world.specs.WorldStates.{State, IsAccepted}
use Rattle.frame_world.specs.WorldLaws.{seated_opening}
use Rattle.frame_world.specs.hostile.Hostile.{goes_on}
use Rattle.frame_world.specs.hostile.Claims.{Always, SessionsEndAsAlone}
use Rattle.frame_world.proofs.hostile_lemmas.MaskedWorlds.{through_such}
use Rattle.frame_world.proofs.hostile_lemmas.HonestValues.{finished_one}

abbrev IsAlone : Finished → Type 0
IsAlone f = f.outcome.ending ≡ alone f.program f.outcome.ending.reads

module _ (law : TellsWhatItRead) where
  ended_alone : (a : ℕ) (c : Current) → All IsAlone (ended a c)
  ended_alone a Idle = All-nil IsAlone
  ended_alone a (Gathering s) = All-nil IsAlone
  ended_alone a (Working s reads done) = by (nat_lt done (length_on s.program reads))
    where
      by : (b : Bool) → All IsAlone (ended_as a s (cond b None (Some (alone s.program reads))))
      by true = All-nil IsAlone
      by false = All-cons IsAlone (finished_one a s (alone s.program reads)) [] (ap (alone s.program) (sym (law s.program reads))) (All-nil IsAlone)

  finished_alone : (a : ℕ) (c : Current) (ev : office.Event) → All IsAlone (finished_by a c ev)
  finished_alone a c (event.Submit p) = All-nil IsAlone
  finished_alone a c (event.Send v i) = All-nil IsAlone
  finished_alone a c (event.Took f) = All-nil IsAlone
  finished_alone a c (event.Withdraw t) = All-nil IsAlone
  finished_alone a c (event.Do rule.Start) = All-nil IsAlone
  finished_alone a c (event.Do rule.Hungry) = All-nil IsAlone
  finished_alone a c (event.Do (rule.AskFork v)) = All-nil IsAlone
  finished_alone a c (event.Do (rule.GiveFork v)) = All-nil IsAlone
  finished_alone a c (event.Do rule.Eat) = All-nil IsAlone
  finished_alone a c (event.Do rule.Leave) = All-nil IsAlone
  finished_alone a c (event.Do (rule.AskBottle r)) = All-nil IsAlone
  finished_alone a c (event.Do (rule.GiveBottle r)) = All-nil IsAlone
  finished_alone a c (event.Do rule.Drink) = All-nil IsAlone
  finished_alone a c (event.Do (rule.Work n)) = All-nil IsAlone
  finished_alone a c (event.Do rule.Finish) = ended_alone a c

  more_alone : (p : PlanValue) (s s' : State) → All IsAlone s.finished → IsAccepted p s s' → All IsAlone s'.finished
  more_alone p s s' x i =
      let current : Current = (s.office i.place).agenda.current in
      subst (All IsAlone) (sym (ap (λ (k : State). k.finished) i.led)) (All-append IsAlone s.finished (finished_by i.place current i.event) x (finished_alone i.place current i.event))

  pub sessions_end_as_alone : Always SessionsEndAsAlone
  sessions_end_as_alone plan h es c =
      let w : World = goes_on h (opening plan) es in
      All-filter (λ (f : Finished). h f.outcome.office) IsAlone w.finished
      (through_such plan h (λ (s : State). All IsAlone s.finished) (more_alone plan) (λ s f e x. x) (opening plan) es (seated_opening plan) (All-nil IsAlone)).1
