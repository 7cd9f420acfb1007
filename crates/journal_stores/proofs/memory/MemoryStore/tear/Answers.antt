use Rattle.std.proofs.Common.{rules}
use Rattle.journal_stores.proofs.Tearing.{found}
use Rattle.journal_stores.proofs.memory.MemoryStore.tear.Goals as goal

pub returns-clause-found : goal.returns-clause-found
returns-clause-found c = found _ c.args.self.now.stood c.self.inside.bytes.items c.args.bytes.now c.self.inside.torn.items c.extend_from_slice.new.self.items _ (search rules) (search rules) c.extend_from_slice.ensures.items
