use Rattle.session_language.specs.refinement.PartsRefinement.{parts_of}
use Rattle.session_language.proofs.session_reading.KeptDrafts.{kept_ended}
use Rattle.session_language.proofs.draft.Draft.ended.Goals as goal

pub invariant_of-result : goal.invariant_of-result
invariant_of-result c = record { kept = kept_ended (parts_of c.args.self.parts) (parts_of c.in_ok-ended.field-0) c.args.self.kept c.in_ok-ended.ensures }
