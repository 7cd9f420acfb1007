-- The rounds of an office that serves: what was asked is answered as far as it takes sessions, and then its pump turns.
use Rattle.std.specs.Prelude.{◌≡◌, ℕ, Bool, List, [], ◌∷◌, ◌++◌}
use Rattle.std.specs.List.{flat_map}
use mathlib.Core.List.{IsPrefix}
use Rattle.office_map.specs.PlanValue.{PlanValue}
use Rattle.session_meaning.specs.declared.ending.Outcome.{Outcome}
use Rattle.office_journal.specs.declared.event.Entry.{Entry}
use Rattle.locked_office.specs.Calls.{Key, DeskPass, Does, office_with}
use Rattle.session_reports.specs.form.Forms.{outcome_as}
use Rattle.session_reports.specs.declared.form.forms.Form.{Form}
use Rattle.serving.specs.declared.answers.lack.Lack.{Lack}
use Rattle.office_stations.specs.declared.pace.TimedTurn.{TimedTurn}
use Rattle.office_stations.specs.declared.turning.Turning.TheVariants.{Adaptive}
use Rattle.office_stations.specs.Rounds.{Standing, Turns, with_pass}
use Rattle.office_stations.specs.Sessions.{finished_of}
use Rattle.session_streams.specs.declared.requests.asked.Asked.{Asked}
use Rattle.serving.specs.answers.Said.{Said, said_as}
use Rattle.serving.specs.answers.Answers.{Answers, IsFull, Lacks}

-- ---- what is asked

-- these are answered so, one after the other, each in one holding of the office
abbrev pub AnswersAll : ℕ → Key → List Asked → List Said → DeskPass → DeskPass → Type 0
AnswersAll tag k [] [] p q = p ≡ q
AnswersAll tag k [] (w ∷ ws) p q = ⊥
AnswersAll tag k (x ∷ xs) [] p q = ⊥
AnswersAll tag k (x ∷ xs) (w ∷ ws) p q = (m : DeskPass) × Does (λ s s'. Answers tag s x w s') k p m × AnswersAll tag k xs ws m q

-- nothing is left, or the queue is full for what comes next
abbrev pub AnswersNoMore : ℕ → Key → List Asked → DeskPass → DeskPass → Type 0
AnswersNoMore tag k [] p q = p ≡ q
AnswersNoMore tag k (x ∷ xs) p q = Does (λ s s'. IsFull tag s x s') k p q

-- The first of what waits is answered, in order, until nothing is left or the office takes no session more.
pub record AnswersSome (tag : ℕ) (k : Key) (p q : DeskPass) (waiting left : List Asked) (said : List Said) : Type 0 where
  pub asked : List Asked
  pub are : asked ++ left ≡ waiting
  pub mid : DeskPass
  pub answers : AnswersAll tag k asked said p mid
  pub full : AnswersNoMore tag k left mid q

-- with the lines that say so
abbrev pub AnswersFirst : Form → ℕ → Key → DeskPass → DeskPass → List Asked → List Asked → List ℕ → List ℕ → Type 0
AnswersFirst form tag k p q waiting left old new = (said : List Said) × AnswersSome tag k p q waiting left said × (new ≡ old ++ flat_map (said_as form k.0) said)

-- it answers some, with the lines that say so, and lacks room or memory for the next
pub record StopsAnswering (form : Form) (tag : ℕ) (k : Key) (p q : DeskPass) (waiting : List Asked) (lack : Lack) (old new : List ℕ) : Type 0 where
  pub asked : List Asked
  pub next : Asked
  pub left : List Asked
  pub are : asked ++ next ∷ left ≡ waiting
  pub said : List Said
  pub mid : DeskPass
  pub answers : AnswersAll tag k asked said p mid
  pub lacks : Does (λ s s'. Lacks tag s next lack s') k mid q
  pub lines : new ≡ old ++ flat_map (said_as form k.0) said

-- ---- rounds

-- the sessions that have finished, at a standing
abbrev pub finished_at : Key → Standing → List Outcome
finished_at k a = finished_of (office_with k a.pass.seen)

-- a round: the first of what is asked is answered so, and a turn is made; and these have finished then, beside those that had before
pub record Round (tells : Bool) (tag : ℕ) (k : Key) (t : TimedTurn) (said : List Said) (outcomes : List Outcome) (a b : Standing) (waiting left : List Asked) : Type 0 where
  pub filled : DeskPass
  pub answers : AnswersSome tag k a.pass filled waiting left said
  pub turns : Turns Adaptive tells tag k t (with_pass a filled) b
  pub finished : finished_at k b ≡ finished_at k a ++ outcomes

-- what came before a round, the turn that it made, what it said, and what finished in it
pub record Made : Type 0 where
  pub came : List Asked
  pub turn : TimedTurn
  pub said : List Said
  pub finished : List Outcome

-- rounds, one after the other: each answers the first of what waited and of what came since, and leaves the others to the next
abbrev pub Rounds : Bool → ℕ → Key → List Made → Standing → Standing → List Asked → List Asked → Type 0
Rounds tells tag k [] a b waiting left = (a ≡ b) × (waiting ≡ left)
Rounds tells tag k (r ∷ rs) a b waiting left = (m : Standing) × (mid : List Asked) × Round tells tag k r.turn r.said r.finished a m (waiting ++ r.came) mid × Rounds tells tag k rs m b mid left

-- what a round says, and then what finished in it
abbrev pub round_text : Form → PlanValue → Made → List ℕ
round_text form p r = flat_map (said_as form p) r.said ++ flat_map (outcome_as form p) r.finished

-- What is said in a round that a fault cut off, of what was asked: the first of it was answered so, and what was done for that stands.
pub record CutOff (tag : ℕ) (k : Key) (p : DeskPass) (waiting : List Asked) (said : List Said) (stands : List Entry) : Type 0 where
  pub asked : List Asked
  pub left : List Asked
  pub are : asked ++ left ≡ waiting
  pub mid : DeskPass
  pub answers : AnswersAll tag k asked said p mid
  pub stand : IsPrefix mid.seen stands
