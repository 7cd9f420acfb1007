use Rattle.std.proofs.Common.{◌≡◌, ℕ, false, sym, subst, refl, ap, ◌∙◌, rules}
use Rattle.dining_core.specs.refinement.Tables.{diner_of}
use Rattle.drinking_core.specs.Drinkers as bottles
use Rattle.drinking_core.specs.refinement.Bars.{drinker_of}
use Rattle.site_core.specs.neighbours.refinement.PairsOfCode.{PairsValue, pairs_of}
use Rattle.frame_codec.specs.declared.message.Msg.TheVariants as msg
use Rattle.site_core.specs.neighbours.refinement.Slots.{links_of}
use Rattle.token_channel.specs.declared.thing.Thing.{Thing}
use Rattle.token_channel.specs.declared.thing.Thing.TheVariants.{BottleToken}
use Rattle.site_core.specs.neighbours.Pairs.{held_by, queued_to, after_bottle_rule}
use Rattle.site_core.specs.neighbours.HeldLaws.{after_ask_bottle, with_held}
use Rattle.site_core.proofs.neighbours_lemmas.PairUpdates.{pairs_value, still_pairs, pairs_are}
use Rattle.site_core.proofs.neighbours_lemmas.SlotUpdates.{carried_token}
use Rattle.site_core.proofs.neighbours.pairs.Pairs.ask_bottle.Goals as goal

pub send-requires-clause-carried : goal.send-requires-clause-carried
send-requires-clause-carried c = carried_token _ (msg.AskBottle c.number.result) (λ version. refl)

pub invariant_of-self-2 : goal.invariant_of-self-2
invariant_of-self-2 c =
    let s = c.self.inside in
    let d = diner_of s.table in
    let k = drinker_of s.bar in
    let v : k.peer c.args.r ≡ c.other_end-v.result = c.self.invariant.peers c.args.r ∙ sym c.other_end-v.ensures.peer in
    still_pairs (pairs_value s.plan s.me s.table s.bar s.channels) s.table c.ask_bottle.new.self c.send.new.self d (bottles.act k (bottles.AskBottle c.args.r)) (with_held (held_by d k) c.other_end-v.result _ false) c.self.invariant
    refl c.in_ok-ask_bottle.ensures.done refl refl refl (subst (λ n. (u : ℕ) (t : Thing) → held_by d (bottles.act k (bottles.AskBottle c.args.r)) u t ≡ with_held (held_by d k) c.other_end-v.result (BottleToken n) false u t) (sym c.number.ensures) (after_ask_bottle d k c.args.r c.other_end-v.result v)) (c.send.ensures.slots s.plan s.me (held_by d k) c.self.invariant.channels)

pub returns : goal.returns
returns c =
    let s = c.self.inside in
    let k = drinker_of s.bar in
    let v : c.other_end-v.result ≡ k.peer c.args.r = c.other_end-v.ensures.peer ∙ sym (c.self.invariant.peers c.args.r) in
    let sent = ap (λ n. queued_to (links_of s.plan.run s.plan.version s.me s.channels) c.other_end-v.result (msg.AskBottle n)) c.number.ensures ∙ ap (λ w. queued_to (links_of s.plan.run s.plan.version s.me s.channels) w (msg.AskBottle c.args.r)) v in
    record {
      office = search rules;
      not_now = search rules;
      done = pairs_are s.plan s.me s.table c.ask_bottle.new.self c.send.new.self _ _ _ refl c.in_ok-ask_bottle.ensures.done (c.send.ensures.links s.plan.run s.me s.plan.version ∙ sent)
          ∙ ap (λ (p : PairsValue). after_bottle_rule (pairs_of p) (bottles.AskBottle c.args.r)) c.self.view_is;
      unchanged = search rules;
    }
