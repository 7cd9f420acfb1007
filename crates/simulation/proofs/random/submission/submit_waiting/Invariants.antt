use Rattle.std.proofs.Common.{ℕ, ◌-◌, length, map, take}
use Rattle.std.specs.Prelude.{All}
use Rattle.simulation.specs.random.Runs.{IsRefused, Leads}
use Rattle.simulation.proofs.random.submission.submit_waiting.Given as goal

abbrev pub invariant-loop-place : goal.invariant-loop-place
invariant-loop-place l = record {
  leads : (loss : ℕ) → Leads loss 0 l.initial.world l.world (map (λ p. p.now) l.initial.waiting.items) (map (λ p. p.now) l.waiting.items);
  refused : All (IsRefused l.world) (map (λ p. p.now) (take l.place l.waiting.items));
}

abbrev pub decreases-loop-place : goal.decreases-loop-place
decreases-loop-place l = length l.waiting.items - l.place
