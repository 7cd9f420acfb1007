-- Whom an office owes a count, as a turn goes on.
use Rattle.std.specs.Prelude.{◌≡◌, ℕ, ◌<◌, ◌⊎◌, ◌↔◌, Bool, true, false, List, get_or, Result, Ok, Err}
use Rattle.frame_codec.specs.Frame.{Fields}
use Rattle.frame_codec.specs.declared.fault.FrameFault.{FrameFault}
use Rattle.office_map.specs.PlanValue.{are_neighbours}
use Rattle.office_journal.specs.declared.reply.Reply.{Reply}
use Rattle.office_journal.specs.declared.reply.Refusal.{Refusal}
use Rattle.locked_office.specs.Calls.{Key}
use Rattle.socket_pump.specs.Chains.{Heard, BringsMessage, Brought, Made, Sent}

-- one is owed to v; of each number the list has whether
abbrev pub Owed : List Bool → ℕ → Type 0
Owed owed v = get_or owed v false ≡ true

-- what was read is a frame of v, and it brought a message
abbrev pub Brings : Result Fields FrameFault → Result Reply Refusal → ℕ → Type 0
Brings (Ok f) answer v = (f.from ≡ v) × BringsMessage answer
Brings (Err fault) answer v = ⊥

-- after these datagrams one is owed to whom one was before, and to who brought a message
abbrev pub Owes : List Bool → List Heard → List Bool → Type 0
Owes before heard after = (v : ℕ) → v < 16 → Owed after v ↔ (Owed before v ⊎ Brought v heard)

-- one to whom so many messages went is owed none, unless there were none
abbrev pub Gets : ℕ → ℕ → List Bool → List Bool → Type 0
Gets v messages before after = (u : ℕ) → Owed after u ↔ (Owed before u × (u ≡ v → messages ≡ 0))

-- what was read and answered: one is owed to who brought a message
abbrev pub Notes : Result Fields FrameFault → Result Reply Refusal → List Bool → List Bool → Type 0
Notes read answer before after = (v : ℕ) → v < 16 → Owed after v ↔ (Owed before v ⊎ Brings read answer v)

-- after these messages none is owed to who got one of them
abbrev pub Spares : List Bool → List Made → List Bool → Type 0
Spares before made after = (v : ℕ) → Owed after v ↔ (Owed before v × ((n : ℕ) → Sent v n made → ⊥))

-- a neighbour that one is owed to
abbrev pub Needs : Key → List Bool → ℕ → Type 0
Needs k owed v = Owed owed v × (are_neighbours k.0 k.1 v ≡ true)

-- counts go to such alone
abbrev pub AcknowledgesOnly : Key → List Bool → List Made → Type 0
AcknowledgesOnly k owed made = (v : ℕ) → Sent v 0 made → Needs k owed v

-- a count goes to each such, and to no other
abbrev pub Acknowledges : Key → List Bool → List Made → Type 0
Acknowledges k owed made = (v : ℕ) → Sent v 0 made ↔ Needs k owed v
