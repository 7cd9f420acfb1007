use Rattle.std.proofs.Common.{◌≡◌, ◌+◌, ◌<◌, ℕ, length, ap, subst, ◌∙◌, arith}
use Rattle.std.proofs.lemmas.List.{length_push}
use Rattle.journal_weave.specs.Replays.{IsReplay}
use Rattle.journal_weave.proofs.FollowFirst.{follow_none, follow_next}
use Rattle.journal_weave.proofs.weaving.replays_of.Goals as goal

pub loop-a-init : goal.loop-a-init
loop-a-init c = record {
  count = ap length c.in_ok-replays.ensures.items;
  follow = follow_none c.args.plan.now c.args.journals.now _ c.in_ok-replays.ensures.items;
}

pub loop-a-preserved : goal.loop-a-preserved
loop-a-preserved c =
    let k = c.loop-a.invariant in
    let plan = c.args.plan.now in
    let js = c.args.journals.now in
    let j = c.index-journals-a.result in
    let r = c.in_ok-replay.replay in
    let within : c.loop-a.a < length js = omega (arith, c.loop-a-test.true, c.offices-a-end.ensures.count, c.requires) in
    let of : IsReplay plan c.loop-a.a j.entries.items j.ends r = subst (λ (a : ℕ). IsReplay plan a j.entries.items j.ends r) c.new.ensures c.in_ok-replay.ensures in
    record {
      count = ap length c.in_ok-push.ensures.items ∙ length_push c.loop-a.replays.items r ∙ ap (λ (n : ℕ). n + 1) k.count;
      follow = follow_next plan js c.loop-a.replays.items _ c.loop-a.a j r c.in_ok-push.ensures.items k.count within c.index-journals-a.is of k.follow;
    }

pub returns : goal.returns
returns c =
    let k = c.loop-a.invariant in
    let end : ◌≡◌ {A = ℕ} c.loop-a.a (length c.args.journals.now) = omega (arith, c.loop-a-test.false, c.loop-a.auto.a-end, c.offices-a-end.ensures.count, c.requires) in
    record { offices = c.requires; count = k.count ∙ end; each = k.follow }
