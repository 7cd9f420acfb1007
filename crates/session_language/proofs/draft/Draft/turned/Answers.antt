use Rattle.session_language.specs.refinement.PartsRefinement.{parts_of}
use Rattle.session_language.proofs.session_reading.KeptDrafts.{kept_turned}
use Rattle.session_language.proofs.draft.Draft.turned.Goals as goal

pub invariant_of-result : goal.invariant_of-result
invariant_of-result c = record { kept = kept_turned (parts_of c.args.self.parts) (parts_of c.in_ok-turned.field-0) c.args.self.kept c.in_ok-turned.ensures }
