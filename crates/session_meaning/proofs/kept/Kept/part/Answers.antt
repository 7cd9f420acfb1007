use Rattle.std.proofs.Common.{Some, ap}
use Rattle.session_meaning.specs.refinement.KeptNode.{node_of, text_in}
use Rattle.session_meaning.proofs.kept.Kept.part.Goals as goal

pub returns-in-Text : goal.returns-in-Text
returns-in-Text c = λ bytes. (text_in bytes c.in-Text.field-0 c.in-Text.field-1, ap (λ k. Some (node_of bytes k)) c.in-Text.is)
