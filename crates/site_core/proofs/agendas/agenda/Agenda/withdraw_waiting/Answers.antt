use Rattle.std.proofs.Common.{rules, ap, ◌∙◌}
use Rattle.std.specs.Prelude.{◌==◌, not, filter}
use Rattle.std.proofs.lemmas.Fn.{filter_same}
use Rattle.site_core.specs.declared.agendas.session.Session.{Session}
use Rattle.site_core.specs.agendas.refinement.AgendaOfCode.{AgendaValue}
use Rattle.site_core.proofs.agendas.agenda.Agenda.withdraw_waiting.Goals as goal

pub returns : goal.returns
returns c =
    let others = λ (s : Session). not (s.ticket == c.args.ticket) in
    let left = filter_same _ others _ (λ s b f k. search rules) _ _ c.retain.ensures.filtered in
    λ a m. record {
      queue = left ∙ ap (λ (v : AgendaValue). filter others v.queue) c.self.view_is ∙ ap (filter others) m.queue;
      tickets = ap (λ (v : AgendaValue). v.tickets) c.self.view_is ∙ m.tickets;
      current = search rules;
      outcomes = ap (λ (v : AgendaValue). v.outcomes) c.self.view_is ∙ m.outcomes;
    }
