-- The code and the name of what is wrong with bytes.
use Rattle.std.specs.Prelude.{ℕ, List, codes}
use Rattle.frame_codec.specs.declared.fault.FrameFault.{FrameFault}
use Rattle.frame_codec.specs.declared.fault.FrameFault.TheVariants.{Short, Magic, Version, Kind, Number, Count, Tag, ValueForm, Length, TextByte}

-- the code and the name of what is wrong with bytes
abbrev pub fault_text : FrameFault → List ℕ
fault_text Short = codes "F1 Short"
fault_text Magic = codes "F2 Magic"
fault_text Version = codes "F3 Version"
fault_text Kind = codes "F4 Kind"
fault_text Number = codes "F5 Number"
fault_text Count = codes "F6 Count"
fault_text Tag = codes "F7 Tag"
fault_text ValueForm = codes "F9 ValueForm"
fault_text Length = codes "F8 Length"
fault_text TextByte = codes "F10 TextByte"
