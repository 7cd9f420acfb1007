use Rattle.std.proofs.Common.{◌≡◌, None, sym, ap, subst, ◌∙◌}
use Rattle.office_map.specs.PlanValue.{are_neighbours}
use Rattle.dining_core.specs.refinement.Tables.{diner_of}
use Rattle.drinking_core.specs.refinement.Bars.{drinker_of}
use Rattle.site_core.specs.neighbours.Pairs.{frame_fault, arrival_of, after_taking}
use Rattle.site_core.specs.neighbours.PairLaws.{passed}
use Rattle.site_core.specs.neighbours.refinement.Slots.{slot_at}
use Rattle.site_core.specs.neighbours.refinement.PairsOfCode.{PairsValue, pairs_of, MayAllBring, forks_came, bottles_came}
use Rattle.site_core.proofs.neighbours_lemmas.PairUpdates.{pairs_value}
use Rattle.site_core.proofs.neighbours_lemmas.Taking.{Laws, channel_there, passes_there, took_in}
use Rattle.site_core.proofs.neighbours.pairs.Pairs.take.Goals as goal

pub accept-arrival-requires-clause-there : goal.accept-arrival-requires-clause-there
accept-arrival-requires-clause-there c =
    let s = c.self.inside in
    let p = pairs_value s.plan s.me s.table s.bar s.channels in
    let f = c.args.frame.now in
    let v : c.new-v.result ≡ f.from = c.new-v.ensures ∙ c.from.ensures in
    let none : frame_fault s.plan s.me (pairs_of p) f ≡ None = ap (λ (q : PairsValue). frame_fault q.plan q.me (pairs_of q) f) c.self.view_is ∙ c.requires.passes in
    channel_there p c.new-v.result c.self.invariant (ap (are_neighbours s.plan s.me) v ∙ (passed s.plan s.me (pairs_of p) f none).0)

pub accept-arrival-requires-clause-passes : goal.accept-arrival-requires-clause-passes
accept-arrival-requires-clause-passes c ch is =
    let s = c.self.inside in
    let p = pairs_value s.plan s.me s.table s.bar s.channels in
    let f = c.args.frame.now in
    let v : c.new-v.result ≡ f.from = c.new-v.ensures ∙ c.from.ensures in
    let none : frame_fault s.plan s.me (pairs_of p) f ≡ None = ap (λ (q : PairsValue). frame_fault q.plan q.me (pairs_of q) f) c.self.view_is ∙ c.requires.passes in
    passes_there p f ch c.self.invariant none (ap (slot_at s.channels) (sym v) ∙ is)

pub take_in-requires : goal.take_in-requires
take_in-requires c =
    let s = c.self.inside in
    let p = pairs_value s.plan s.me s.table s.bar s.channels in
    let f = c.args.frame.now in
    let v : c.new-v.result ≡ f.from = c.new-v.ensures ∙ c.from.ensures in
    let none : frame_fault s.plan s.me (pairs_of p) f ≡ None = ap (λ (q : PairsValue). frame_fault q.plan q.me (pairs_of q) f) c.self.view_is ∙ c.requires.passes in
    let laws : Laws = record { comes_away = c.what_comes_was_away.ensures; comes_held = c.what_comes_is_held.ensures; follows_away = c.what_follows_was_away.ensures; follows_held = c.what_follows_is_held.ensures; stays = c.what_is_shared_stays.ensures } in
    let it = took_in p c.new-v.result f c.accept-arrival.result c.accept-arrival.new.taken c.accept-arrival.new.self laws c.self.invariant none v c.accept-arrival.ensures.within c.accept-arrival.ensures.arrival c.accept-arrival.ensures.messages c.accept-arrival.ensures.slots in
    subst (MayAllBring (diner_of s.table) (drinker_of s.bar) c.new-v.result) (sym c.as_slice.ensures) it.may

pub invariant_of-self : goal.invariant_of-self
invariant_of-self c =
    let s = c.self.inside in
    let p = pairs_value s.plan s.me s.table s.bar s.channels in
    let f = c.args.frame.now in
    let v : c.new-v.result ≡ f.from = c.new-v.ensures ∙ c.from.ensures in
    let none : frame_fault s.plan s.me (pairs_of p) f ≡ None = ap (λ (q : PairsValue). frame_fault q.plan q.me (pairs_of q) f) c.self.view_is ∙ c.requires.passes in
    let laws : Laws = record { comes_away = c.what_comes_was_away.ensures; comes_held = c.what_comes_is_held.ensures; follows_away = c.what_follows_was_away.ensures; follows_held = c.what_follows_is_held.ensures; stays = c.what_is_shared_stays.ensures } in
    let it = took_in p c.new-v.result f c.accept-arrival.result c.accept-arrival.new.taken c.accept-arrival.new.self laws c.self.invariant none v c.accept-arrival.ensures.within c.accept-arrival.ensures.arrival c.accept-arrival.ensures.messages c.accept-arrival.ensures.slots in
    it.are c.take_in.new.table c.take_in.new.bar (c.take_in.ensures.forks ∙ ap (forks_came (diner_of s.table) c.new-v.result) c.as_slice.ensures) (c.take_in.ensures.bottles ∙ ap (bottles_came (drinker_of s.bar)) c.as_slice.ensures)

pub returns-clause-arrival : goal.returns-clause-arrival
returns-clause-arrival c =
    let s = c.self.inside in
    let p = pairs_value s.plan s.me s.table s.bar s.channels in
    let f = c.args.frame.now in
    let v : c.new-v.result ≡ f.from = c.new-v.ensures ∙ c.from.ensures in
    let none : frame_fault s.plan s.me (pairs_of p) f ≡ None = ap (λ (q : PairsValue). frame_fault q.plan q.me (pairs_of q) f) c.self.view_is ∙ c.requires.passes in
    let laws : Laws = record { comes_away = c.what_comes_was_away.ensures; comes_held = c.what_comes_is_held.ensures; follows_away = c.what_follows_was_away.ensures; follows_held = c.what_follows_is_held.ensures; stays = c.what_is_shared_stays.ensures } in
    let it = took_in p c.new-v.result f c.accept-arrival.result c.accept-arrival.new.taken c.accept-arrival.new.self laws c.self.invariant none v c.accept-arrival.ensures.within c.accept-arrival.ensures.arrival c.accept-arrival.ensures.messages c.accept-arrival.ensures.slots in
    it.told ∙ ap (λ (q : PairsValue). arrival_of (pairs_of q) f) c.self.view_is

pub returns-clause-taken : goal.returns-clause-taken
returns-clause-taken c =
    let s = c.self.inside in
    let p = pairs_value s.plan s.me s.table s.bar s.channels in
    let f = c.args.frame.now in
    let v : c.new-v.result ≡ f.from = c.new-v.ensures ∙ c.from.ensures in
    let none : frame_fault s.plan s.me (pairs_of p) f ≡ None = ap (λ (q : PairsValue). frame_fault q.plan q.me (pairs_of q) f) c.self.view_is ∙ c.requires.passes in
    let laws : Laws = record { comes_away = c.what_comes_was_away.ensures; comes_held = c.what_comes_is_held.ensures; follows_away = c.what_follows_was_away.ensures; follows_held = c.what_follows_is_held.ensures; stays = c.what_is_shared_stays.ensures } in
    let it = took_in p c.new-v.result f c.accept-arrival.result c.accept-arrival.new.taken c.accept-arrival.new.self laws c.self.invariant none v c.accept-arrival.ensures.within c.accept-arrival.ensures.arrival c.accept-arrival.ensures.messages c.accept-arrival.ensures.slots in
    it.is c.take_in.new.table c.take_in.new.bar (c.take_in.ensures.forks ∙ ap (forks_came (diner_of s.table) c.new-v.result) c.as_slice.ensures) (c.take_in.ensures.bottles ∙ ap (bottles_came (drinker_of s.bar)) c.as_slice.ensures)
    ∙ ap (λ (q : PairsValue). after_taking q.plan q.me (pairs_of q) f) c.self.view_is
