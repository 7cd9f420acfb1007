-- The bytes of a text are ASCII.
use Rattle.std.proofs.Common.{subst}
use Rattle.std.specs.Str.{IsUtf8}
use Rattle.std.proofs.lemmas.Str.{IsUtf8-from_ascii}
use Rattle.std.proofs.Common.{sym}
use Rattle.bottle_values.proofs.Ascii.{ascii}
use Rattle.bottle_values.proofs.text.Text.as_str.Goals as goal

pub unreachable-requires : goal.unreachable-requires
unreachable-requires c =
    c.in-Err.ensures.cases.0 (subst IsUtf8 (sym c.as_bytes-bytes.ensures.bytes) (IsUtf8-from_ascii _ (ascii _ c.as_bytes-bytes.ensures.text)))
