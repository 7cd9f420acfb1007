-- What a packed entry tells.
use Rattle.std.specs.Prelude.{ℕ, Bool}
use Rattle.frame_codec.specs.Frame.{Fields}
use Rattle.office_journal.specs.declared.pages.kind.Kind.{Kind}

-- what it is of, and who handed it in; the ticket of a session and the place of its program; the neighbour of a rule, or for whom a
-- frame was made, of which message; the record of a rule or of a frame's message, or the size of a rule's work; the frame; and
-- whether a text stands beside that the frame carries, with its place. What an entry of that kind hasn't says nothing.
pub record Told : Type 0 where
  pub kind : Kind
  pub tag : ℕ
  pub ticket : ℕ
  pub place : ℕ
  pub v : ℕ
  pub i : ℕ
  pub which : ℕ
  pub frame : Fields
  pub has_text : Bool
  pub text : ℕ
