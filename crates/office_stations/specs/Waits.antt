-- How long an office waits for a datagram before a turn.
use Rattle.std.specs.Prelude.{◌≡◌, ◌⊎◌, ◌<◌, ◌≤◌, ℕ, ◌+◌, true, false}
use Rattle.office_stations.specs.Paces.{PaceView}
use Rattle.office_stations.specs.Rounds.{longest_wait}

-- So long at most an office waits for a datagram before its next turn: not at all where there may be more to do; never longer than the longest wait, or past the time when a message may be sent again; and just as long as these allow.
pub record IsWait (p : PaceView) (most : ℕ) : Type 0 where
  pub longest : most ≤ longest_wait
  pub busy : p.busy ≡ true → most ≡ 0
  pub resend : p.time < p.due → p.time + most ≤ p.due
  pub idle : p.busy ≡ false → (most ≡ longest_wait) ⊎ ((p.time < p.due) × (p.time + most ≡ p.due))
