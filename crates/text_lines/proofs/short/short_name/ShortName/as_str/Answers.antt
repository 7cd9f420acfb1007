use Rattle.std.proofs.lemmas.Str.{IsUtf8-from_ascii}
use Rattle.text_lines.proofs.short_lemmas.Packed.{all_short, ascii}
use Rattle.text_lines.proofs.short.short_name.ShortName.as_str.Goals as goal

pub unreachable-requires : goal.unreachable-requires
unreachable-requires c =
    c.in-Err.ensures.cases.0 (IsUtf8-from_ascii c.as_bytes-bytes.result.now (ascii c.as_bytes-bytes.result.now (all_short c.as_bytes-bytes.result.now c.as_bytes-bytes.ensures.short)))
