-- The run numbers of one day after the other.
use Rattle.std.specs.Prelude.{◌≡◌, ◌≢◌, ℕ, ◌+◌, ◌%◌, ◌^◌, ◌<◌}

-- the run number of a day that comes this many days after the one with the first number: they count on, and 0 comes after the greatest
abbrev pub run_after : ℕ → ℕ → ℕ
run_after first days = (first + days) % 2 ^ 32

-- days that count on from a day have numbers that count on from its number, and of 4,294,967,296 days in turn no two have one number
pub record HaveNumbersOfTheirOwn (first : ℕ) : Type 0 where
  pub counted_on : (days more : ℕ) → run_after (run_after first days) more ≡ run_after first (days + more)
  pub differ : (days later : ℕ) → days < later → later < days + 2 ^ 32 → run_after first days ≢ run_after first later

-- so it is whichever the first number is
abbrev pub DaysHaveNumbersOfTheirOwn : Type 0
DaysHaveNumbersOfTheirOwn = (first : ℕ) → HaveNumbersOfTheirOwn first
