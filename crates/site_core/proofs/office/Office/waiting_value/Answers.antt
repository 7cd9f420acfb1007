use Rattle.std.proofs.Common.{◌≡◌, ◌≤◌, true, refl, ap, subst, ◌∙◌}
use Rattle.window_link.specs.Links.{LinkState}
use Rattle.office_map.specs.PlanValue.{is_end, peer}
use Rattle.token_channel.specs.declared.thing.Thing.TheVariants.{Bottle}
use Rattle.token_channel.specs.Things.{count_carrying}
use Rattle.site_core.specs.neighbours.Pairs.{Pairs}
use Rattle.site_core.specs.Journals.{Site, office_of}
use Rattle.token_channel.specs.WaitingBottle.{TellsBottle}
use Rattle.site_core.proofs.office.Office.waiting_value.Goals as goal

pub returns-clause-told : goal.returns-clause-told
returns-clause-told c =
    let s = c.self.inside in
    let same = c.in_ok-channel_of.ensures.link c.in_ok-channel_of.field-0 refl ∙ ap (λ (p : Pairs). p.link (peer s.pairs.plan s.pairs.me c.args.r)) c.self.invariant.stands.0 in
    let told = subst (λ (l : LinkState). TellsBottle l c.args.r c.waiting_bottle.result) same c.waiting_bottle.ensures.told in
    subst (λ (x : Site). is_end x.plan c.args.r x.me ≡ true → TellsBottle ((office_of x).pairs.link (peer x.plan x.me c.args.r)) c.args.r c.waiting_bottle.result) c.self.view_is (λ _. told)

pub returns-clause-once : goal.returns-clause-once
returns-clause-once c =
    let s = c.self.inside in
    let same = c.in_ok-channel_of.ensures.link c.in_ok-channel_of.field-0 refl ∙ ap (λ (p : Pairs). p.link (peer s.pairs.plan s.pairs.me c.args.r)) c.self.invariant.stands.0 in
    let once = subst (λ (l : LinkState). count_carrying (Bottle c.args.r) l.sending.waiting ≤ 1) same c.waiting_bottle.ensures.once in
    subst (λ (x : Site). is_end x.plan c.args.r x.me ≡ true → count_carrying (Bottle c.args.r) ((office_of x).pairs.link (peer x.plan x.me c.args.r)).sending.waiting ≤ 1) c.self.view_is (λ _. once)
