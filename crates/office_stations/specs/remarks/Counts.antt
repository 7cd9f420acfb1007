-- How many sessions are named of those that are left, and of which neighbours is told.
use Rattle.std.specs.Prelude.{ℕ, ◌+◌, ◌-◌, ◌^◌, min, Bool, false, not, ◌==◌, ◌&&◌, ◌||◌, nat_lt, Option, Some, None}
use Rattle.bottle_values.specs.declared.version.Version.{Version}
use Rattle.bottle_values.specs.Versions.{number_of}
use Rattle.socket_pump.specs.declared.contact.Contact.{Contact}

-- how many sessions are named, and how many more are left
pub record Counts : Type 0 where
  pub named : ℕ
  pub more : ℕ

-- the most sessions that are named
abbrev pub most_named : ℕ
most_named = 10

-- none is named, and none is left
abbrev pub nobody : Counts
nobody = record { named = 0; more = 0 }

-- n more are left: they are named as long as no more than the most are, and the others are counted, up to the top of the count's type
abbrev pub with_left : ℕ → Counts → Counts
with_left n c = record { named = min (c.named + n) most_named; more = min (c.more + (c.named + n - most_named)) (2 ^ 64 - 1) }

-- the system took no frame for a neighbour, and some were lost
abbrev pub is_unreached : Contact → Bool
is_unreached c = (c.went == 0) && nat_lt 0 c.lost

-- what came last was of the other version
abbrev pub is_other : Version → Option Version → Bool
is_other own None = false
is_other own (Some version) = not (number_of version == number_of own)

-- or nothing ever came from that neighbour, or it speaks another version than this one
abbrev pub is_unmet : Version → Contact → Bool
is_unmet own c = is_unreached c || (c.heard == 0) || is_other own c.version
