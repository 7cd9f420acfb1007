-- The code and the name of what a channel refuses.
use Rattle.std.specs.Prelude.{ℕ, List, codes}
use Rattle.window_link.specs.FaultText as links
use Rattle.token_channel.specs.declared.fault.ChannelFault.{ChannelFault}
use Rattle.token_channel.specs.declared.fault.ChannelFault.TheVariants.{Link, Breach}

-- the code and the name of what a channel refuses
abbrev pub fault_text : ChannelFault → List ℕ
fault_text (Link fault) = links.fault_text fault
fault_text Breach = codes "C1 Breach"
