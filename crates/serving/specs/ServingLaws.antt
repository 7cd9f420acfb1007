-- What rounds come to, one after the other.
use Rattle.std.specs.Prelude.{◌≡◌, ℕ, Bool, List, ◌++◌, length}
use Rattle.std.specs.List.{flat_map}
use Rattle.locked_office.specs.Calls.{Key}
use Rattle.office_stations.specs.Rounds.{Standing}
use Rattle.session_streams.specs.declared.requests.asked.Asked.{Asked}
use Rattle.serving.specs.Rounds.{Made, Rounds, finished_at}

-- of what waited and of what came since the first was answered, in that order, by a line for each; and the others are left
pub record AreAnswered (made : List Made) (waiting left : List Asked) : Type 0 where
  pub asked : List Asked
  pub are : asked ++ left ≡ waiting ++ flat_map (λ (r : Made). r.came) made
  pub each : length (flat_map (λ (r : Made). r.said) made) ≡ length asked

-- whatever the rounds are, each is answered by one line, once
abbrev pub EachIsAnsweredOnce : Type 0
EachIsAnsweredOnce = (tells : Bool) (tag : ℕ) (k : Key) (made : List Made) (a b : Standing) (waiting left : List Asked) → Rounds tells tag k made a b waiting left → AreAnswered made waiting left

-- what finished in the rounds is what has finished after them and hadn't before, in that order
abbrev pub OutcomesAreToldOnce : Type 0
OutcomesAreToldOnce = (tells : Bool) (tag : ℕ) (k : Key) (made : List Made) (a b : Standing) (waiting left : List Asked) → Rounds tells tag k made a b waiting left → finished_at k b ≡ finished_at k a ++ flat_map (λ (r : Made). r.finished) made
