use Rattle.site_core.proofs.SessionsAreOurs.{ends_needed}
use Rattle.std.proofs.Common.{ap, sym, ◌∙◌}
use Rattle.std.specs.Option.{option_copied}
use Rattle.site_core.proofs.rules.start.Goals as goal

pub start-requires : goal.start-requires
start-requires c = λ x e. ends_needed c.args.pairs.now.plan c.args.pairs.now.me c.args.agenda.now.queue x.now c.requires.ours (sym c.first_needs.ensures ∙ ap option_copied e)
