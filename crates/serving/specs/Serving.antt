-- An office that serves a client, from its store.
use Rattle.std.specs.Prelude.{◌≡◌, ◌≢◌, ◌⊎◌, ◌≤◌, ℕ, Bool, true, false, List, [], ◌++◌, length, take, Option, None, Some, IfSome}
use Rattle.std.specs.List.{flat_map}
use Rattle.std.specs.Io.KnownBytes.{Appends}
use mathlib.Core.List.{IsPrefix}
use Rattle.office_map.specs.PlanValue.{PlanValue}
use Rattle.office_journal.specs.declared.event.Entry.{Entry}
use Rattle.site_core.specs.Journals.{office_of, IsLegal}
use Rattle.site_core.specs.agendas.Agenda.{unfinished}
use Rattle.locked_office.specs.Calls.{Key, DeskPass, office_with}
use Rattle.socket_pump.specs.Wires.{Account}
use Rattle.stored_runs.specs.durable.Letting.{LetsOut}
use Rattle.office_stations.specs.Rounds.{Standing}
use Rattle.session_reports.specs.form.Forms.{unfinished_as}
use Rattle.session_reports.specs.declared.form.forms.Form.{Form}
use Rattle.stored_runs.specs.declared.fault.StoredFault.TheVariants as stored
use Rattle.stored_runs.specs.Keeping.{Keeping}
use Rattle.stored_runs.specs.Runs.{HasStanding, IsFaultOf}
use Rattle.session_streams.specs.declared.requests.asked.Asked.{Asked}
use Rattle.session_streams.specs.requests.Bytes.{nothing_taken, taken, asked_by}
use Rattle.serving.specs.answers.Said.{Said, said_as, ready_as}
use Rattle.serving.specs.answers.Answers.{tickets_of}
use Rattle.serving.specs.declared.fault.ServeFault.{ServeFault}
use Rattle.serving.specs.declared.fault.ServeFault.TheVariants.{Run, InputFailed}
use Rattle.serving.specs.declared.served.Served.{Served}
use Rattle.serving.specs.Rounds.{Made, Rounds, CutOff, round_text}

-- ---- faults

-- that the store failed is told just where it did, but where writing failed; and a stream that can't be read is no fault of it
abbrev pub IsEndBy : Bool → Option ServeFault → Type 0
IsEndBy failed None = failed ≡ false
IsEndBy failed (Some (Run fault)) = IsFaultOf failed (Some fault)
IsEndBy failed (Some (InputFailed cause)) = failed ≡ false

-- nobody knows what is told, where writing failed
abbrev pub Unless : Option ServeFault → Type 0 → Type 0
Unless None P = P
Unless (Some (Run (stored.Run why))) P = P
Unless (Some (Run stored.StoreFailed)) P = P
Unless (Some (Run (stored.WriteFailed cause))) P = Unit {0}
Unless (Some (InputFailed cause)) P = P

-- how many haven't finished; or nothing, where a fault is why
abbrev pub IsLastLine : Form → Option ServeFault → ℕ → List ℕ → Type 0
IsLastLine form fault left last = (last ≡ unfinished_as form left) ⊎ ((last ≡ []) × (fault ≢ None))

-- ---- what was asked

-- these bytes of a client's stream were read; and where it ended, they are all of it
pub record IsRead (input : Option (List ℕ)) (bytes : List ℕ) (ended : Bool) : Type 0 where
  pub begins : IfSome input (λ text. IsPrefix bytes text)
  pub whole : ended ≡ true → IfSome input (λ text. bytes ≡ text)

-- what is asked by so many bytes of a stream, and by its end, if it ended there
abbrev pub asked_so : PlanValue → ℕ → List ℕ → Bool → List Asked
asked_so p me bytes false = (taken p me nothing_taken bytes).1
asked_so p me bytes true = asked_by p me bytes

-- ---- what was done

-- An office made rounds, and before each came what was asked by so many bytes more of its client's stream: in that order all of it was answered, or waits, or came after the last round. Where a fault cut off the round after the last, something of it may have been said, since that stands.
pub record Goes (tells : Bool) (k : Key) (input : Option (List ℕ)) (a : Standing) (stands : List Entry) : Type 0 where
  pub bytes : List ℕ
  pub ended : Bool
  pub read : IsRead input bytes ended
  pub made : List Made
  pub last : Standing
  pub left : List Asked
  pub rounds : Rounds tells 0 k made a last [] left
  pub rest : List Asked
  pub came : flat_map (λ (r : Made). r.came) made ++ rest ≡ asked_so k.0 k.1 bytes ended
  pub cut : List Said
  pub cut_off : CutOff 0 k last.pass (left ++ rest) cut stands

-- what is said round by round, and in the one that was cut off
abbrev pub told_text : Form → PlanValue → List Made → List Said → List ℕ
told_text form p made cut = flat_map (round_text form p) made ++ flat_map (said_as form p) cut

-- its client's stream has ended, all that was asked is answered, and all its sessions have finished
pub record IsOver (k : Key) (last : DeskPass) (left rest : List Asked) (cut : List Said) (ended : Bool) : Type 0 where
  pub over : ended ≡ true
  pub answered : (left ≡ []) × (rest ≡ [])
  pub whole : cut ≡ []
  pub done : unfinished (office_of (office_with k last.seen)).agenda ≡ 0

-- An office went on from its store, and served. It began with the journal that was kept. Its journal at the end is legal; so many of its first entries stand in the store, and each datagram that left is of one of these. What was said, line by line, is how many tickets were given at first; what it answered and what finished, round by round, all of which is of entries that stand; and at last how many sessions haven't finished. It ended by itself only where nothing was left to do. What its socket tells after its rounds is as Is says.
pub record Serves (Is : Account → Type 0) (form : Form) (tells : Bool) (p : PlanValue) (me : ℕ) (kept : Keeping) (input : Option (List ℕ)) (stands : Option (List ℕ)) (a b : Account) (e : Served) (old new : Option (List ℕ)) : Type 0 where
  pub first : Standing
  pub begins : (first.pass.tag ≡ 0) × (first.pass.seen ≡ kept.site.entries) × (first.wire ≡ a) × ((v n : ℕ) → first.last v n ≡ None)
  pub seen : List Entry
  pub legal : IsLegal (office_with (p, me) seen)
  pub stood : ℕ
  pub within : stood ≤ length seen
  pub has : HasStanding stands (p, me) seen stood
  pub lets_out : LetsOut tells 0 a b seen stood
  pub goes : Goes tells (p, me) input first (take stood seen)
  pub is : Is goes.last.wire
  pub over : e.fault ≡ None → IsOver (p, me) goes.last.pass goes.left goes.rest goes.cut goes.ended
  pub unfinished : e.unfinished ≡ unfinished (office_of (office_with (p, me) seen)).agenda
  pub told : Unless e.fault ((last : List ℕ) × IsLastLine form e.fault e.unfinished last × Appends old new (ready_as form (tickets_of kept.site) ++ (told_text form p goes.made goes.cut ++ last)))
