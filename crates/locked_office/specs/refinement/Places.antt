-- Where a message stands among those that wait.
use Rattle.std.specs.Prelude.{ℕ, ◌+◌, ◌-◌, nat_lt, ◌&&◌, if◌then◌else◌, length, Option, None, Some}
use Rattle.office_map.specs.PlanValue.{are_neighbours}
use Rattle.window_link.specs.Windows.{Sending}
use Rattle.site_core.specs.Journals.{Site}
use Rattle.site_core.specs.Growing.{link_to}

abbrev pub place_in : Sending → ℕ → Option ℕ
place_in s n = if nat_lt s.acked n && nat_lt (n - (s.acked + 1)) (length s.waiting) then Some (n - s.acked) else None

abbrev pub place_at : Site → ℕ → ℕ → Option ℕ
place_at s v n = if are_neighbours s.plan s.me v then place_in (link_to s v).sending n else None
