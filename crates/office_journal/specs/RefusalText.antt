-- The code and the name of an office's refusal.
use Rattle.std.specs.Prelude.{ℕ, List, codes}
use Rattle.frame_codec.specs.FaultText as frames
use Rattle.token_channel.specs.FaultText as channels
use Rattle.dining_core.specs.FaultText.{not_now_text}
use Rattle.office_journal.specs.declared.reply.Refusal.{Refusal}
use Rattle.office_journal.specs.declared.reply.Refusal.TheVariants.{Frame, Channel, NotNow, NotOurs, QueueFull, JournalFull, Memory}

-- the code and the name of an office's refusal
abbrev pub refusal_text : Refusal → List ℕ
refusal_text (Frame fault) = frames.fault_text fault
refusal_text (Channel fault) = channels.fault_text fault
refusal_text NotNow = not_now_text
refusal_text NotOurs = codes "O2 NotOurs"
refusal_text QueueFull = codes "O3 QueueFull"
refusal_text JournalFull = codes "O4 JournalFull"
refusal_text Memory = codes "out of memory"
