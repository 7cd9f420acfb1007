use Rattle.std.proofs.Common.{rules}
use Rattle.window_link.proofs.sending.SendWindow.has_room.Goals as goal

pub returns : goal.returns
returns c = search rules
