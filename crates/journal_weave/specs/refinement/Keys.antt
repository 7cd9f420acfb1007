-- Which key a frame has.
use Rattle.bottle_values.specs.Versions.{number_of}
use Rattle.frame_codec.specs.Frame.{Fields}
use Rattle.journal_weave.specs.declared.key.FrameKey.{FrameKey}

abbrev pub key_of : Fields → FrameKey
key_of f = record { number = f.number; count = f.count; from = f.from; to = f.to; version = number_of f.version; run = f.run }
