use Rattle.std.proofs.Common.{false, refl, ap, ◌∙◌, rules}
use Rattle.frame_codec.specs.declared.message.Msg.TheVariants as msg
use Rattle.dining_core.specs.Diners as forks
use Rattle.dining_core.specs.refinement.Tables.{diner_of}
use Rattle.drinking_core.specs.refinement.Bars.{drinker_of}
use Rattle.site_core.specs.neighbours.refinement.PairsOfCode.{PairsValue, pairs_of}
use Rattle.site_core.specs.neighbours.Pairs.{held_by, after_fork_rule}
use Rattle.site_core.specs.neighbours.HeldLaws.{after_give_fork, with_held}
use Rattle.site_core.proofs.neighbours_lemmas.PairUpdates.{pairs_value, still_pairs, pairs_are}
use Rattle.site_core.proofs.neighbours_lemmas.SlotUpdates.{carried_token}
use Rattle.site_core.proofs.neighbours.pairs.Pairs.give_fork.Goals as goal

pub send-requires-clause-carried : goal.send-requires-clause-carried
send-requires-clause-carried c = carried_token _ msg.Fork (λ version. refl)

pub invariant_of-self-2 : goal.invariant_of-self-2
invariant_of-self-2 c =
    let s = c.self.inside in
    let d = diner_of s.table in
    let k = drinker_of s.bar in
    still_pairs (pairs_value s.plan s.me s.table s.bar s.channels) c.give_fork.new.self s.bar c.send.new.self (forks.act d (forks.GiveFork c.args.v)) k (with_held (held_by d k) c.args.v _ false) c.self.invariant
    c.in_ok-give_fork.ensures.done refl refl refl refl (after_give_fork d k c.args.v) (c.send.ensures.slots s.plan s.me (held_by d k) c.self.invariant.channels)

pub returns : goal.returns
returns c =
    let s = c.self.inside in
    record {
      office = search rules;
      not_now = search rules;
      done = pairs_are s.plan s.me c.give_fork.new.self s.bar c.send.new.self _ _ _ c.in_ok-give_fork.ensures.done refl (c.send.ensures.links s.plan.run s.me s.plan.version)
          ∙ ap (λ (p : PairsValue). after_fork_rule (pairs_of p) (forks.GiveFork c.args.v)) c.self.view_is;
      unchanged = search rules;
    }
