-- Run numbers count on, and come again after 4,294,967,296 days alone.
use Rattle.std.proofs.Common.{◌≡◌, ℕ, ◌+◌, ◌%◌, ◌^◌, ap, ◌∙◌, arith}
use Rattle.std.proofs.Math.Nat.{mod-add-mod}
use Rattle.day_audits.specs.carried.RunNumbers.{run_after, DaysHaveNumbersOfTheirOwn}

counted_on : (first days more : ℕ) → run_after (run_after first days) more ≡ run_after first (days + more)
counted_on first days more =
    let together : first + days + more ≡ first + (days + more) = omega arith in
    mod-add-mod (first + days) (2 ^ 32) more ∙ ap (λ n. n % 2 ^ 32) together

pub numbers : DaysHaveNumbersOfTheirOwn
numbers first = record { counted_on = counted_on first; differ = λ days later before soon same. omega arith }
