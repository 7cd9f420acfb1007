-- What the first bytes of a file show of it.
use Rattle.std.proofs.Common.{◌≡◌, ℕ, Bool, true, false, if◌then◌else◌, List, length, take, Option, None, Some, IfNone, IfSome, sym, subst, ap}
use Rattle.std.specs.Str.{bytes_eq}
use Rattle.journal_texts.specs.Written.{header_line}
use Rattle.office_map.specs.PlanValue.{PlanValue}
use Rattle.command_outputs.specs.declared.fault.Obstacle.{Obstacle}
use Rattle.command_outputs.specs.declared.fault.Obstacle.TheVariants.{AJournal}
use Rattle.command_outputs.specs.Places.{IsObstacle, IsUnheld, begins}

module _ (files : List ℕ → Option (List ℕ)) (p : PlanValue) (me : ℕ) (name : List ℕ) where
  -- how the text begins, if it is known
  abbrev BeginsBy : Bool → Type 0
  BeginsBy b = (text : List ℕ) → files name ≡ Some text → begins (header_line p me) text ≡ b

  none_by : (b : Bool) → BeginsBy b → IfNone (if b then Some AJournal else None) (IsUnheld files p me name)
  none_by true h = tt
  none_by false h = h

  some_by : (b : Bool) → BeginsBy b → IfSome (if b then Some AJournal else None) (λ why. (one other : List ℕ) → IsObstacle files one other p why me name)
  some_by true h = λ one other. h
  some_by false h = tt

  begun : (bytes header : List ℕ) → header ≡ header_line p me → ((text : List ℕ) → files name ≡ Some text → bytes ≡ take (length header) text) → BeginsBy (bytes_eq bytes header)
  begun bytes header e k text known =
      subst (λ l. bytes_eq (take (length l) text) l ≡ bytes_eq bytes header) e (ap (λ x. bytes_eq x header) (sym (k text known)))

  pub unheld : (bytes header : List ℕ) (found : Option Obstacle) → header ≡ header_line p me → ((text : List ℕ) → files name ≡ Some text → bytes ≡ take (length header) text)
      → found ≡ (if bytes_eq bytes header then Some AJournal else None) → IfNone found (IsUnheld files p me name)
  unheld bytes header found e k f = subst (λ o. IfNone o (IsUnheld files p me name)) (sym f) (none_by (bytes_eq bytes header) (begun bytes header e k))

  pub held : (bytes header : List ℕ) (found : Option Obstacle) → header ≡ header_line p me → ((text : List ℕ) → files name ≡ Some text → bytes ≡ take (length header) text)
      → found ≡ (if bytes_eq bytes header then Some AJournal else None) → IfSome found (λ why. (one other : List ℕ) → IsObstacle files one other p why me name)
  held bytes header found e k f = subst (λ o. IfSome o (λ why. (one other : List ℕ) → IsObstacle files one other p why me name)) (sym f) (some_by (bytes_eq bytes header) (begun bytes header e k))
