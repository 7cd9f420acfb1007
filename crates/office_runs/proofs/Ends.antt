-- How the threads of an office end.
use Rattle.std.proofs.Common.{◌≡◌, ℕ, zero, suc, ◌+◌, ◌<◌, ◌≤◌, Bool, false, List, [], ◌∷◌, Option, None, Some, refl, sym, subst}
use Rattle.session_meaning.specs.ProgramValue.{ProgramValue}
use Rattle.locked_office.specs.Calls.{Key, DeskPass}
use Rattle.socket_pump.specs.Wires.{Account}
use Rattle.socket_pump.specs.Turns.{Times}
use Rattle.office_stations.specs.declared.fault.RunFault.{RunFault}
use Rattle.office_stations.specs.declared.pace.TimedTurn.{TimedTurn}
use Rattle.office_stations.specs.declared.turning.Turning.TheVariants.{Adaptive}
use Rattle.office_stations.specs.Rounds.{Standing, Fills, StopsFilling, Turns, BreaksOff, counted}
use Rattle.office_runs.specs.Threads.{Worked, WorkedOut, FillsTimes, Submitted}
use Rattle.office_stations.specs.refinement.Standings.{standing}
use Rattle.office_stations.specs.refinement.RoundLaws.{Made, one_round}

-- ---- who turns it

-- no session is given
no_sessions : (tag : ℕ) (k : Key) (p : DeskPass) → Fills tag k p p [] []
no_sessions tag k p = record { given = []; are = refl; mid = p; takes = refl; full = refl }

pub one_turn : (tells : Bool) (t : ℕ) (k : Key) (turns n c : ℕ) (d : TimedTurn) (a : Standing) (p r : DeskPass) (w b : Account) (l m : Times) → t ≡ 0 → n < turns → c ≡ counted turns (d ∷ []) →
    Made Adaptive tells 0 k turns n a (standing p w l) [] [] → Turns Adaptive tells t k d (standing p w l) (standing r b m) → Made Adaptive tells 0 k turns (n + c) a (standing r b m) [] []
one_turn tells t k turns n c d a p r w b l m same few count so_far turned =
    one_round Adaptive tells 0 t t k turns n c d a p p r w b l m [] [] [] same same few count so_far (no_sessions t k p) turned

-- it stopped between turns
pub worked_out : (tells : Bool) (k : Key) (turns n : ℕ) (over : Bool) (a b : Standing) → Made Adaptive tells 0 k turns n a b [] [] → (over ≡ false → turns ≤ n) → WorkedOut over None tells k turns a b
worked_out tells k turns n over a b h all = ((h.made, h.begun, h.rounds), λ e. subst (λ (x : ℕ). turns ≤ x) (sym h.number) (all e))

-- how it worked, however it ended
pub as_worked : (over : Bool) (fault : Option RunFault) (tells : Bool) (k : Key) (turns : ℕ) (a b : Standing) → WorkedOut over fault tells k turns a b → Worked fault tells k turns a b
as_worked over None tells k turns a b h = h.0
as_worked over (Some fault) tells k turns a b h = h

pub worked : (tells : Bool) (k : Key) (turns n : ℕ) (a b : Standing) → Made Adaptive tells 0 k turns n a b [] [] → Worked None tells k turns a b
worked tells k turns n a b h = (h.made, h.begun, h.rounds)

-- a turn broke off
pub broke : (tells : Bool) (t : ℕ) (k : Key) (turns n : ℕ) (a m b : Standing) (fault : RunFault) → t ≡ 0 → n < turns → Made Adaptive tells 0 k turns n a m [] [] → BreaksOff Adaptive tells t k m b fault → Worked (Some fault) tells k turns a b
broke tells t k turns n a m b fault same few h breaks = (h.made, m, subst (λ (x : ℕ). x < turns) (sym h.number) few, h.rounds, subst (λ (x : ℕ). BreaksOff Adaptive tells x k m b fault) same breaks)

-- ---- who submits its sessions

filled_more : (n : ℕ) (k : Key) (p m q : DeskPass) (ss mid left : List ProgramValue) → FillsTimes n k p m ss mid → Fills 1 k m q mid left → FillsTimes (suc n) k p q ss left
filled_more zero k p m q ss mid left (same, sessions) f = (q, left, subst (λ (x : DeskPass). Fills 1 k x q ss left) (sym same) (subst (λ x. Fills 1 k m q x left) (sym sessions) f), (refl, refl))
filled_more (suc n) k p m q ss mid left (next, rest, first, others) f = (next, rest, first, filled_more n k next m q rest mid left others f)

-- sessions were given so far
pub record Filled (k : Key) (p q : DeskPass) (sessions left : List ProgramValue) : Type 0 where
  pub times : ℕ
  pub fills : FillsTimes times k p q sessions left

pub none_filled : (k : Key) (p : DeskPass) (ss : List ProgramValue) → Filled k p p ss ss
none_filled k p ss = record { times = zero; fills = (refl, refl) }

pub one_filled : (t : ℕ) (k : Key) (p m q : DeskPass) (ss mid left : List ProgramValue) → t ≡ 1 → Filled k p m ss mid → Fills t k m q mid left → Filled k p q ss left
one_filled t k p m q ss mid left same h f = record { times = suc h.times; fills = filled_more h.times k p m q ss mid left h.fills (subst (λ (x : ℕ). Fills x k m q mid left) same f) }

pub submitted : (k : Key) (p q : DeskPass) (ss left : List ProgramValue) → Filled k p q ss left → Submitted None k p q ss
submitted k p q ss left h = (h.times, left, h.fills)

-- the office lacked room
pub stopped : (t : ℕ) (k : Key) (p m q : DeskPass) (ss mid : List ProgramValue) (fault : RunFault) → t ≡ 1 → Filled k p m ss mid → StopsFilling t k m q mid fault → Submitted (Some fault) k p q ss
stopped t k p m q ss mid fault same h stops = (h.times, m, mid, h.fills, subst (λ (x : ℕ). StopsFilling x k m q mid fault) same stops)
