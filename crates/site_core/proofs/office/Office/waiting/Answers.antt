use Rattle.std.proofs.Common.{◌∙◌, length, refl, ap, arith, rules}
use Rattle.window_link.specs.Links.{LinkState}
use Rattle.site_core.proofs.OfficeSteps.{numbers_in_range}
use Rattle.site_core.proofs.office.Office.waiting.Goals as goal

pub returns-clause-waiting : goal.returns-clause-waiting
returns-clause-waiting c = search rules

pub returns-clause-range : goal.returns-clause-range
returns-clause-range c =
    let most = numbers_in_range c.self.inside.pairs c.self.inside.agenda c.self.inside.journal.entries c.self.invariant c.args.v in
    let link = c.in_ok-channel.ensures.link c.in_ok-channel.channel refl in
    let acked = c.acked.ensures.value ∙ ap (λ (l : LinkState). l.sending.acked) link in
    let waiting = c.len.ensures.len ∙ ap length c.waiting.ensures.value ∙ ap (λ (l : LinkState). length l.sending.waiting) link in
    omega (arith, most, acked, waiting)
