use Rattle.std.proofs.Common.{rules}
use Rattle.session_language.specs.refinement.PartsRefinement.{parts_of}
use Rattle.session_language.specs.refinement.ResolvedStatements.{seen_spoken}
use Rattle.session_language.proofs.session_reading.KeptDrafts.{kept_added}
use Rattle.session_language.proofs.draft.Draft.add.Goals as goal

pub invariant_of-self-in_default : goal.invariant_of-self-in_default
invariant_of-self-in_default c =
    let old = c.args.self.now in
    record { kept = kept_added (parts_of old.parts) (parts_of c.add_to-added.new.parts) (seen_spoken c.args.spoken) _ old.kept (search rules) c.requires c.in_default.ensures }
