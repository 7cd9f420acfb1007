-- What contracts see of a lock and of its passes, and what the calls do to them.
use Rattle.std.specs.Prelude.{◌≡◌, ℕ, Bool, true, false, List, Option, Some, ◌<◌, length, slice_get}
use Rattle.std.specs.List.{All}
use Rattle.atomic_table.specs.Seated.{TableId}
use Rattle.own_lock.specs.Entries.{tagged}

-- which lock it is, and the key of its state
pub record LockView (K : Type 0) : Type 0 where
  pub name : TableId
  pub key : K

-- a pass: its lock and the key there, its tag, whether it holds the state, the entries that it has seen, and its own among them
pub record PassView (K E : Type 0) : Type 0 where
  pub lock : TableId
  pub key : Option K
  pub tag : ℕ
  pub holds : Bool
  pub seen : List E
  pub mine : List E

module _ {K E : Type 0} where
  -- it is a pass of this lock
  abbrev pub IsOf : LockView K → PassView K E → Type 0
  IsOf lock pass = (pass.lock ≡ lock.name) × (pass.key ≡ Some lock.key)

  -- a pass of the lock that has seen these entries, and holds nothing
  abbrev pub fresh_pass : LockView K → (E → ℕ) → List E → ℕ → PassView K E
  fresh_pass lock tag_of es t = record { lock = lock.name; key = Some lock.key; tag = t; holds = false; seen = es; mine = tagged tag_of t es }

  -- as many of them, with the tags 0, 1 and so on
  abbrev pub AreFresh : LockView K → (E → ℕ) → List E → ℕ → List (PassView K E) → Type 0
  AreFresh lock tag_of es count passes = (length passes ≡ count) × ((t : ℕ) → t < count → slice_get passes t ≡ Some (fresh_pass lock tag_of es t))

  -- each is a pass of the lock that holds nothing
  abbrev pub AreIdle : LockView K → List (PassView K E) → Type 0
  AreIdle lock passes = All (λ pass. IsOf lock pass × (pass.holds ≡ false)) passes

  -- the pass after taking: it holds the state and has seen its entries, and all else stays
  abbrev pub pass_after_take : PassView K E → List E → PassView K E
  pass_after_take pass es = record pass { holds = true; seen = es }

  -- the pass after giving a state with these entries back: it holds nothing, has seen them, and its own are those with
  -- its tag
  abbrev pub pass_after_give : (E → ℕ) → PassView K E → List E → PassView K E
  pass_after_give tag_of pass es = record pass { holds = false; seen = es; mine = tagged tag_of pass.tag es }
