-- What the parts of a service say.
use Rattle.std.specs.Prelude.{◌≡◌, ℕ, Bool, List, ◌++◌, Option, None, Some}
use Rattle.std.specs.List.{flat_map}
use Rattle.std.specs.Io.KnownBytes.{Appends}
use Rattle.session_meaning.specs.declared.ending.Outcome.{Outcome}
use Rattle.office_journal.specs.declared.event.Entry.{Entry}
use Rattle.locked_office.specs.Calls.{Key, DeskPass}
use Rattle.session_reports.specs.form.Forms.{outcome_as}
use Rattle.session_reports.specs.declared.form.forms.Form.{Form}
use Rattle.socket_pump.specs.Wires.{Account}
use Rattle.office_stations.specs.declared.pace.TimedTurn.{TimedTurn}
use Rattle.office_stations.specs.Rounds.{Standing}
use Rattle.session_streams.specs.declared.requests.asked.Asked.{Asked}
use Rattle.serving.specs.answers.Said.{Said, said_as}
use Rattle.serving.specs.declared.fault.ServeFault.{ServeFault}
use Rattle.serving.specs.Rounds.{CutOff, Round}
use Rattle.serving.specs.Serving.{Goes, IsOver, Unless, told_text}

-- a round was made, and what it says and what finished in it is written
pub record RoundMade (form : Form) (tells : Bool) (k : Key) (t : TimedTurn) (a b : Standing) (waiting left : List Asked) (old new : Option (List ℕ)) : Type 0 where
  pub said : List Said
  pub outcomes : List Outcome
  pub round : Round tells 0 k t said outcomes a b waiting left
  pub written : Appends old new (flat_map (said_as form k.0) said ++ flat_map (outcome_as form k.0) outcomes)

-- a round was cut off, and what was said in it is written
abbrev pub RoundCut : Form → ServeFault → Key → DeskPass → List Asked → List Entry → Option (List ℕ) → Option (List ℕ) → Type 0
RoundCut form f k p waiting stands old new = Unless (Some f) ((said : List Said) × CutOff 0 k p waiting said stands × Appends old new (flat_map (said_as form k.0) said))

-- What was done, whatever ended it, is written; where no fault ended it, it was over. What the socket tells after the rounds is as Is says.
pub record Went (Is : Account → Type 0) (form : Form) (tells : Bool) (k : Key) (input : Option (List ℕ)) (a : Standing) (stands : List Entry) (f : Option ServeFault) (old new : Option (List ℕ)) : Type 0 where
  pub goes : Goes tells k input a stands
  pub is : Is goes.last.wire
  pub told : Unless f (Appends old new (told_text form k.0 goes.made goes.cut))
  pub over : f ≡ None → IsOver k goes.last.pass goes.left goes.rest goes.cut goes.ended

-- the same, after this text
pub record WentAfter (Is : Account → Type 0) (text : List ℕ) (form : Form) (tells : Bool) (k : Key) (input : Option (List ℕ)) (a : Standing) (stands : List Entry) (f : Option ServeFault) (old new : Option (List ℕ)) : Type 0 where
  pub mid : Option (List ℕ)
  pub first : Unless f (Appends old mid text)
  pub went : Went Is form tells k input a stands f mid new
