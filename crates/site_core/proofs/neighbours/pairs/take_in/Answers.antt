use Rattle.std.proofs.Common.{ℕ, ◌+◌, drop, sym, ap, subst, ◌∙◌}
use Rattle.dining_core.specs.Diners.{Diner}
use Rattle.dining_core.specs.refinement.Tables.{diner_of}
use Rattle.drinking_core.specs.Drinkers.{Drinker}
use Rattle.drinking_core.specs.refinement.Bars.{drinker_of}
use Rattle.site_core.specs.neighbours.Pairs.{bottle_came}
use Rattle.site_core.specs.neighbours.refinement.PairsOfCode.{MayAllBring, forks_came, bottles_came}
use Rattle.site_core.proofs.neighbours_lemmas.Taking.{next_left}
use Rattle.site_core.proofs.neighbours.pairs.take_in.Goals as goal

pub hold-requires : goal.hold-requires
hold-requires c =
    let next = next_left c.args.messages.now c.loop-msg.msg-index c.msg-item.result c.loop-msg-test.true c.msg-item.is in
    (subst (MayAllBring (diner_of c.loop-msg.table) (drinker_of c.loop-msg.bar) c.args.v) next c.loop-msg.invariant.2).0

pub loop-msg-preserved : goal.loop-msg-preserved
loop-msg-preserved c =
    let d = diner_of c.loop-msg.table in
    let k = drinker_of c.loop-msg.bar in
    let m = c.msg-item.result in
    let v : ℕ = c.args.v in
    let i : ℕ = c.loop-msg.msg-index in
    let left = drop (i + 1) c.args.messages.now in
    let next = next_left c.args.messages.now i m c.loop-msg-test.true c.msg-item.is in
    let may = subst (MayAllBring d k v) next c.loop-msg.invariant.2 in (
      ap (λ (x : Diner). forks_came x v left) c.hold.ensures.forks ∙ sym (ap (forks_came d v) next) ∙ c.loop-msg.invariant.0,
      ap (λ (x : Drinker). bottles_came x left) c.hold.ensures.bottles ∙ sym (ap (bottles_came k) next) ∙ c.loop-msg.invariant.1,
      subst (λ (x : Drinker). MayAllBring (diner_of c.hold.new.table) x v left) (sym c.hold.ensures.bottles) (subst (λ (x : Diner). MayAllBring x (bottle_came k m) v left) (sym c.hold.ensures.forks) may.1),
    )
