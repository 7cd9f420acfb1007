use Rattle.std.proofs.Common.{◌≡◌, ℕ, Some, IsTrue, false, sym, subst, refl, ap, ◌∙◌, rules}
use Rattle.bottle_values.specs.Versions.{admits}
use Rattle.dining_core.specs.refinement.Tables.{diner_of}
use Rattle.drinking_core.specs.Drinkers as bottles
use Rattle.drinking_core.specs.refinement.Bars.{BarValue, drinker_of}
use Rattle.site_core.specs.neighbours.refinement.PairsOfCode.{PairsValue, pairs_of, HaveValues}
use Rattle.frame_codec.specs.declared.message.Msg.TheVariants as msg
use Rattle.site_core.specs.neighbours.refinement.Slots.{links_of}
use Rattle.token_channel.specs.declared.thing.Thing.{Thing}
use Rattle.token_channel.specs.declared.thing.Thing.TheVariants.{Bottle}
use Rattle.site_core.specs.neighbours.Pairs.{held_by, queued_to, bottle_message, after_bottle_rule, sent as sent_links}
use Rattle.site_core.specs.neighbours.HeldLaws.{after_give_bottle, with_held}
use Rattle.site_core.proofs.neighbours_lemmas.PairUpdates.{pairs_value, still_pairs, pairs_are}
use Rattle.site_core.proofs.neighbours_lemmas.SlotUpdates.{carried_on}
use Rattle.site_core.proofs.neighbours.pairs.Pairs.give_bottle.Goals as goal

pub send-requires-clause-carried : goal.send-requires-clause-carried
send-requires-clause-carried c =
    let s = c.self.inside in
    let k = drinker_of s.bar in
    let v : c.other_end-v.result ≡ k.peer c.args.r = c.other_end-v.ensures.peer ∙ sym (c.self.invariant.peers c.args.r) in
    let there : k.bottle c.args.r ≡ Some c.in-Some.value = sym (sym c.in-Some.is ∙ c.value.ensures ∙ ap (λ (b : BarValue). (drinker_of b).bottle c.args.r) c.bar.ensures) in
    let values : HaveValues (pairs_value s.plan s.me s.table s.bar s.channels) = subst HaveValues (sym c.self.view_is) c.requires.values in
    carried_on s.plan.run s.plan.version s.me c.other_end-v.result _ (msg.Bottle c.number.result c.in-Some.value)
    (subst (λ w. IsTrue (admits (links_of s.plan.run s.plan.version s.me s.channels w).version c.in-Some.value)) (sym v) (values c.args.r c.in-Some.value there))

pub invariant_of-self-2 : goal.invariant_of-self-2
invariant_of-self-2 c =
    let s = c.self.inside in
    let d = diner_of s.table in
    let k = drinker_of s.bar in
    let v : k.peer c.args.r ≡ c.other_end-v.result = c.self.invariant.peers c.args.r ∙ sym c.other_end-v.ensures.peer in
    still_pairs (pairs_value s.plan s.me s.table s.bar s.channels) s.table c.give_bottle.new.self c.send.new.self d (bottles.act k (bottles.GiveBottle c.args.r (diner_of s.table).held)) (with_held (held_by d k) c.other_end-v.result _ false) c.self.invariant
    refl c.in_ok-give_bottle.ensures.done refl refl refl (subst (λ n. (u : ℕ) (t : Thing) → held_by d (bottles.act k (bottles.GiveBottle c.args.r (diner_of s.table).held)) u t ≡ with_held (held_by d k) c.other_end-v.result (Bottle n) false u t) (sym c.number.ensures) (after_give_bottle d k c.args.r c.other_end-v.result c.in-Some.value d.held v)) (c.send.ensures.slots s.plan s.me (held_by d k) c.self.invariant.channels)

pub returns : goal.returns
returns c =
    let s = c.self.inside in
    let k = drinker_of s.bar in
    let v : c.other_end-v.result ≡ k.peer c.args.r = c.other_end-v.ensures.peer ∙ sym (c.self.invariant.peers c.args.r) in
    let sent = ap (λ n. queued_to (links_of s.plan.run s.plan.version s.me s.channels) c.other_end-v.result (msg.Bottle n c.in-Some.value)) c.number.ensures ∙ ap (λ w. queued_to (links_of s.plan.run s.plan.version s.me s.channels) w (msg.Bottle c.args.r c.in-Some.value)) v in
    let with_value = ap (λ o. sent_links (links_of s.plan.run s.plan.version s.me s.channels) (bottle_message (k.peer c.args.r) c.args.r o)) (sym c.in-Some.is ∙ c.value.ensures ∙ ap (λ (b : BarValue). (drinker_of b).bottle c.args.r) c.bar.ensures) in
    record {
      office = search rules;
      not_now = search rules;
      done = pairs_are s.plan s.me s.table c.give_bottle.new.self c.send.new.self _ _ _ refl c.in_ok-give_bottle.ensures.done (c.send.ensures.links s.plan.run s.me s.plan.version ∙ sent ∙ with_value)
          ∙ ap (λ (p : PairsValue). after_bottle_rule (pairs_of p) (bottles.GiveBottle c.args.r (diner_of p.table).held)) c.self.view_is;
      unchanged = search rules;
    }
