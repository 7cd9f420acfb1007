use Rattle.std.proofs.Common.{refl}
use Rattle.site_core.proofs.neighbours_lemmas.SlotUpdates.{slots_sent, links_sent}
use Rattle.site_core.proofs.neighbours.channels.Channels.send.Goals as goal

pub returns-clause-links : goal.returns-clause-links
returns-clause-links c = λ run me version. links_sent run version me c.args.self.now c.post.new.self c.args.v _ c.args.msg c.post.ensures.within c.requires.held refl c.post.ensures.slots

pub returns-clause-slots : goal.returns-clause-slots
returns-clause-slots c = λ plan me here all u. slots_sent plan me here c.args.self.now c.post.new.self c.args.v _ c.args.msg c.what_is_shared_stays.ensures c.post.ensures.within c.requires.held refl c.post.ensures.slots c.post.ensures.held all u
