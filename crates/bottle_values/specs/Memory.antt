-- Answers that may be an error where memory ran out.
use Rattle.std.specs.Prelude.{◌≡◌, Result, Ok, Err}

-- What a function answered, seen by view, is what was meant; or it is an error, and then Fails says of what was meant
-- what this error tells: of a refusal that it was meant, and of an error for want of memory nothing.
abbrev pub UnlessMemory : {X A E R : Type 0} → (X → A) → (E → Result A R → Type 0) → Result X E → Result A R → Type 0
UnlessMemory view Fails (Ok x) meant = meant ≡ Ok (view x)
UnlessMemory view Fails (Err e) meant = Fails e meant
