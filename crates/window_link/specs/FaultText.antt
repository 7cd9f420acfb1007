-- The code and the name of what a link refuses.
use Rattle.std.specs.Prelude.{ℕ, List, codes}
use Rattle.window_link.specs.declared.fault.LinkFault.{LinkFault}
use Rattle.window_link.specs.declared.fault.LinkFault.TheVariants.{Stranger, WrongVersion, AckAhead, Worn}

-- the code and the name of what a link refuses
abbrev pub fault_text : LinkFault → List ℕ
fault_text Stranger = codes "L1 Stranger"
fault_text WrongVersion = codes "L4 WrongVersion"
fault_text AckAhead = codes "L2 AckAhead"
fault_text Worn = codes "L3 Worn"
