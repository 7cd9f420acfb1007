-- Turns of a loop, one after the other.
use Rattle.std.proofs.Common.{◌≡◌, ℕ, suc, ◌+◌, ◌-◌, ◌<◌, Err, refl, sym, ◌∙◌, arith}
use Rattle.session_meaning.specs.Meaning.{Environment, Step, Goes, Ends, repeated}
use Rattle.serial_replay.specs.declared.environment.Environment as code
use Rattle.serial_replay.specs.declared.stop.Stop.{Stop}
use Rattle.serial_replay.specs.declared.stop.Stop.TheVariants.{Ended, Memory}
use Rattle.serial_replay.specs.refinement.WalkRefinement.{Leaves}

pub repeated_more : (n i : ℕ) (go : Environment → Step) (d after : Environment) (total : Step) → i < n → go d ≡ Goes after → repeated (n - i) go d ≡ total → repeated (n - (i + 1)) go after ≡ total
repeated_more n i go d after total lt e so_far =
    let k : n - i ≡ suc (n - (i + 1)) = omega arith in
    let one : repeated (n - i) go d ≡ repeated (n - (i + 1)) go after = rw (k, e) refl in
    sym one ∙ so_far

pub repeated_stops : (e : Stop) (n i : ℕ) (go : Environment → Step) (d : Environment) (after : code.Environment) (total : Step) → i < n → Leaves {T = Unit {0}} (Err e) after (go d) → repeated (n - i) go d ≡ total → Leaves {T = Unit {0}} (Err e) after total
repeated_stops Memory n i go d after total lt h so_far = tt
repeated_stops (Ended end) n i go d after total lt h so_far =
    let k : n - i ≡ suc (n - (i + 1)) = omega arith in
    let one : repeated (n - i) go d ≡ Ends end = rw (k, h) refl in
    sym so_far ∙ one
