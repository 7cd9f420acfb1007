use Rattle.std.proofs.Common.{rules}
use Rattle.std.specs.Prelude.{◌==◌, not}
use Rattle.std.proofs.lemmas.Fn.{filter_same}
use Rattle.site_core.specs.declared.agendas.session.Session.{Session}
use Rattle.day_audits.proofs.left.left.withdraw.Goals as goal

pub returns : goal.returns
returns c =
    let others = λ (s : Session). not (s.ticket == c.args.ticket) in
    filter_same _ others _ (λ s b f k. search rules) _ _ c.retain.ensures.filtered
