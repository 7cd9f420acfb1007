-- What contracts see of the mail of a turn.
use Rattle.std.specs.Prelude.{◌≡◌, ◌≤◌, ℕ, Bool, true, false, List, [], ◌∷◌, ◌++◌, length, map, take, Option, Some, None}
use Rattle.socket_pump.specs.Wires.{Account}
use Rattle.socket_pump.specs.Turns.{Ended}

-- datagrams that came, how many of them were handed on, and whether it was told that no more came; and datagrams to be posted
pub record Mailed : Type 0 where
  pub came : List (List ℕ)
  pub handed : ℕ
  pub ended : Bool
  pub out : List (ℕ × List ℕ)
  pub failures : ℕ

abbrev pub IsMail : List (List ℕ) → ℕ → Bool → Type 0
IsMail came handed ended = (handed ≤ length came) × (ended ≡ true → handed ≡ length came)

-- these came, and nothing was handed on yet
abbrev pub fresh : List (List ℕ) → Mailed
fresh came = record { came = came; handed = 0; ended = false; out = []; failures = 0 }

abbrev pub end : Bool → List (Option (List ℕ))
end true = None ∷ []
end false = []

-- what it answered
abbrev pub answered : List (List ℕ) → ℕ → Bool → List (Option (List ℕ))
answered came handed ended = map Some (take handed came) ++ end ended

-- what came, and then, after an end, what it answered
abbrev pub account_of : Mailed → Account
account_of m = record { failures = m.failures; received = map Some m.came ++ None ∷ answered m.came m.handed m.ended; accepted = m.out }

-- ---- what is fetched

-- these datagrams came from the wire, and nothing else changed there
abbrev pub Gives : Bool → Account → List (List ℕ) → List (Option (List ℕ)) → Account → Type 0
Gives tells a came ends b = (b.failures ≡ a.failures) × (tells ≡ true → b ≡ record a { received = a.received ++ map Some came ++ ends })

-- one more, or none
abbrev pub FetchesOne : Bool → Account → List (List ℕ) → Bool → Account → Mailed → Type 0
FetchesOne tells a came true b m = (bytes : List ℕ) × Gives tells a (bytes ∷ []) [] b × (m ≡ fresh (came ++ bytes ∷ []))
FetchesOne tells a came false b m = Gives tells a [] (None ∷ []) b × (m ≡ fresh came)

-- 32, or fewer and then none
pub record Fetches (tells : Bool) (a : Account) (b : Account) (came : List (List ℕ)) : Type 0 where
  pub ends : List (Option (List ℕ))
  pub ended : Ended (length came) ends
  pub gives : Gives tells a came ends b
