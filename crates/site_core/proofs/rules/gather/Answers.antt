use Rattle.std.proofs.Common.{◌≡◌, Some, ap, sym, ◌∙◌}
use Rattle.std.specs.Option.{option_copied}
use Rattle.bottle_values.specs.Maps.{reads_of}
use Rattle.drinking_core.specs.refinement.Bars.{drinker_of}
use Rattle.site_core.specs.agendas.Agenda.{gathering}
use Rattle.site_core.specs.Offices.{value_in}
use Rattle.site_core.proofs.rules.gather.Goals as goal

pub returns-clause-done : goal.returns-clause-done
returns-clause-done c = λ a m.
    let values = value_in (drinker_of c.args.bar.now) in
    let session : gathering a.current ≡ Some c.in-Some.session.now = sym (c.gathering.ensures a m) ∙ ap option_copied c.in-Some.is in
    c.in_ok-begin.ensures.done a values m c.in-Some.session.now session (c.in_ok-reads.ensures ∙ ap (λ rs. reads_of rs values) c.needs.ensures.all)
