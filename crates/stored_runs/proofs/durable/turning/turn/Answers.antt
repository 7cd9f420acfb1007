use Rattle.std.proofs.Common.{◌≡◌, ◌∙◌, ℕ, true, [], refl, sym, ap, subst, ◌≤◌, length, append-nil, inl, inr}
use Rattle.socket_pump.specs.Last.{last_of}
use Rattle.socket_pump.specs.ChainLaws.{begins_both, does_begins}
use Rattle.stored_runs.specs.durable.Breaking.{BeforePump, InPump, AfterPump}
use Rattle.stored_runs.specs.durable.refinement.Mailed.{Mailed, IsMail, account_of}
use Rattle.stored_runs.proofs.durable_lemmas.Letting.{turned_begins, stage_begins, has_later, within_later, finds, posted, turns}
use Rattle.stored_runs.proofs.durable_lemmas.Faults.{wire_failed, pump_broke, standing_broke}
use Rattle.stored_runs.proofs.durable.turning.turn.Goals as goal

pub returns-in-Err-clause-found : goal.returns-in-Err-clause-found
returns-in-Err-clause-found g c = λ same. finds (g.S.Store.stood c.args.store.now) (g.S.Store.found c.args.store.now) c.args.desk.now.key c.args.pass.now.seen c.args.stood.now c.requires.has same

pub returns-in-Err-adaptive_turn-clause-has : goal.returns-in-Err-adaptive_turn-clause-has
returns-in-Err-adaptive_turn-clause-has g c =
    let b = stage_begins true c.args.pass.now.tag c.args.desk.now.key (last_of c.args.pump.now.lasts) c.args.now c.args.pass.now (account_of c.fetch.new.mail) c.in-Err-adaptive_turn.fault (account_of c.adaptive_turn.new.wire) c.adaptive_turn.new.pass (last_of c.adaptive_turn.new.self.lasts) c.in-Err-adaptive_turn.ensures.turned in
    has_later (g.S.Store.stood c.args.store.now) c.args.desk.now.key c.args.pass.now c.adaptive_turn.new.pass c.args.stood.now c.requires.within b c.requires.has

pub returns-in-Err-adaptive_turn-clause-within : goal.returns-in-Err-adaptive_turn-clause-within
returns-in-Err-adaptive_turn-clause-within g c =
    let b = stage_begins true c.args.pass.now.tag c.args.desk.now.key (last_of c.args.pump.now.lasts) c.args.now c.args.pass.now (account_of c.fetch.new.mail) c.in-Err-adaptive_turn.fault (account_of c.adaptive_turn.new.wire) c.adaptive_turn.new.pass (last_of c.adaptive_turn.new.self.lasts) c.in-Err-adaptive_turn.ensures.turned in
    within_later c.args.pass.now c.adaptive_turn.new.pass c.args.stood.now c.requires.within b

pub returns-in-Err-adaptive_turn-clause-found : goal.returns-in-Err-adaptive_turn-clause-found
returns-in-Err-adaptive_turn-clause-found g c = λ same.
    let b = stage_begins true c.args.pass.now.tag c.args.desk.now.key (last_of c.args.pump.now.lasts) c.args.now c.args.pass.now (account_of c.fetch.new.mail) c.in-Err-adaptive_turn.fault (account_of c.adaptive_turn.new.wire) c.adaptive_turn.new.pass (last_of c.adaptive_turn.new.self.lasts) c.in-Err-adaptive_turn.ensures.turned in
    let has = has_later (g.S.Store.stood c.args.store.now) c.args.desk.now.key c.args.pass.now c.adaptive_turn.new.pass c.args.stood.now c.requires.within b c.requires.has in
    finds (g.S.Store.stood c.args.store.now) (g.S.Store.found c.args.store.now) c.args.desk.now.key c.adaptive_turn.new.pass.seen c.args.stood.now has same

pub stand-requires-clause-has : goal.stand-requires-clause-has
stand-requires-clause-has g c =
    let b = turned_begins true c.args.pass.now.tag c.args.desk.now.key (last_of c.args.pump.now.lasts) c.args.now c.args.pass.now (account_of c.fetch.new.mail) c.in-Ok-adaptive_turn.turn (account_of c.adaptive_turn.new.wire) c.adaptive_turn.new.pass (last_of c.adaptive_turn.new.self.lasts) c.in-Ok-adaptive_turn.ensures.turned in
    has_later (g.S.Store.stood c.args.store.now) c.args.desk.now.key c.args.pass.now c.adaptive_turn.new.pass c.args.stood.now c.requires.within b c.requires.has

pub stand-requires-clause-within : goal.stand-requires-clause-within
stand-requires-clause-within g c =
    let b = turned_begins true c.args.pass.now.tag c.args.desk.now.key (last_of c.args.pump.now.lasts) c.args.now c.args.pass.now (account_of c.fetch.new.mail) c.in-Ok-adaptive_turn.turn (account_of c.adaptive_turn.new.wire) c.adaptive_turn.new.pass (last_of c.adaptive_turn.new.self.lasts) c.in-Ok-adaptive_turn.ensures.turned in
    within_later c.args.pass.now c.adaptive_turn.new.pass c.args.stood.now c.requires.within b

pub returns-in-Err-stand-clause-within : goal.returns-in-Err-stand-clause-within
returns-in-Err-stand-clause-within g c =
    let b = turned_begins true c.args.pass.now.tag c.args.desk.now.key (last_of c.args.pump.now.lasts) c.args.now c.args.pass.now (account_of c.fetch.new.mail) c.in-Ok-adaptive_turn.turn (account_of c.adaptive_turn.new.wire) c.adaptive_turn.new.pass (last_of c.adaptive_turn.new.self.lasts) c.in-Ok-adaptive_turn.ensures.turned in
    let on = begins_both c.args.pass.now c.adaptive_turn.new.pass c.stand.new.pass b (does_begins _ c.args.desk.now.key c.adaptive_turn.new.pass c.stand.new.pass c.stand.ensures.looked) in
    let same : c.args.stood.now ≡ c.stand.new.stood = sym c.in-Err-stand.ensures.same in
    subst (λ (n : ℕ). n ≤ length c.stand.new.pass.seen) same (within_later c.args.pass.now c.stand.new.pass c.args.stood.now c.requires.within on)

pub returns-in-Ok-post-clause-lets_out : goal.returns-in-Ok-post-clause-lets_out
returns-in-Ok-post-clause-lets_out g c =
    posted g.W.Wire.tells c.args.pass.now.tag c.args.desk.now.key (last_of c.args.pump.now.lasts) c.args.now c.args.pass.now c.in-Ok-adaptive_turn.turn c.fetch.new.mail c.adaptive_turn.new.wire c.adaptive_turn.new.pass c.stand.new.pass (last_of c.adaptive_turn.new.self.lasts)
    (g.W.Wire.account c.args.wire.now) (g.W.Wire.account c.fetch.new.wire) (g.W.Wire.account c.post.new.wire) c.stand.new.stood c.out.result.now c.in-Ok.ensures.fresh
    c.in-Ok-adaptive_turn.ensures.turned c.stand.ensures.looked c.fetch.ensures.nothing (c.out.ensures.value ∙ ap (λ (m : Mailed). m.out) c.mail.view_is) c.post.ensures.posts c.in-Ok-stand.ensures.all

pub returns-in-Err-post-clause-lets_out : goal.returns-in-Err-post-clause-lets_out
returns-in-Err-post-clause-lets_out g c =
    posted g.W.Wire.tells c.args.pass.now.tag c.args.desk.now.key (last_of c.args.pump.now.lasts) c.args.now c.args.pass.now c.in-Ok-adaptive_turn.turn c.fetch.new.mail c.adaptive_turn.new.wire c.adaptive_turn.new.pass c.stand.new.pass (last_of c.adaptive_turn.new.self.lasts)
    (g.W.Wire.account c.args.wire.now) (g.W.Wire.account c.fetch.new.wire) (g.W.Wire.account c.post.new.wire) c.stand.new.stood c.out.result.now c.in-Ok.ensures.fresh
    c.in-Ok-adaptive_turn.ensures.turned c.stand.ensures.looked c.fetch.ensures.nothing (c.out.ensures.value ∙ ap (λ (m : Mailed). m.out) c.mail.view_is) c.post.ensures.posts c.in-Ok-stand.ensures.all

pub returns-in-Ok-post-clause-turned : goal.returns-in-Ok-post-clause-turned
returns-in-Ok-post-clause-turned g c =
    turns g.W.Wire.tells c.args.pass.now.tag c.args.desk.now.key (last_of c.args.pump.now.lasts) c.args.now c.args.pass.now c.in-Ok-adaptive_turn.turn c.fetch.new.mail c.adaptive_turn.new.wire c.adaptive_turn.new.pass c.stand.new.pass (last_of c.adaptive_turn.new.self.lasts)
    (g.W.Wire.account c.args.wire.now) (g.W.Wire.account c.fetch.new.wire) (g.W.Wire.account c.post.new.wire) c.out.result.now c.in-Ok.ensures.fresh (subst (λ (m : Mailed). IsMail m.came m.handed m.ended) c.mail.view_is c.out.ensures.mail) c.in-Ok.ensures.fetches
    c.in-Ok-adaptive_turn.ensures.turned c.stand.ensures.looked (c.out.ensures.value ∙ ap (λ (m : Mailed). m.out) c.mail.view_is) c.in-Ok-post.ensures.all c.in-Ok-post.ensures.failures

pub returns-in-Err-post-clause-found : goal.returns-in-Err-post-clause-found
returns-in-Err-post-clause-found g c = λ same. finds (g.S.Store.stood c.stand.new.store) (g.S.Store.found c.stand.new.store) c.args.desk.now.key c.stand.new.pass.seen c.stand.new.stood c.stand.ensures.has (c.in-Ok-stand.ensures.whole same)

pub returns-in-Err-clause-fault : goal.returns-in-Err-clause-fault
returns-in-Err-clause-fault g c =
    wire_failed (g.S.Store.failed c.args.store.now) c.args.pass.now.seen (g.W.Wire.account c.args.wire.now) (g.W.Wire.account c.fetch.new.wire) c.in-Err.fault c.in-Err.ensures.fault c.requires.usable

pub returns-in-Err-adaptive_turn-clause-fault : goal.returns-in-Err-adaptive_turn-clause-fault
returns-in-Err-adaptive_turn-clause-fault g c =
    pump_broke true c.args.pass.now.tag c.args.desk.now.key (last_of c.args.pump.now.lasts) c.args.now c.args.pass.now (account_of c.fetch.new.mail) c.in-Err-adaptive_turn.fault (account_of c.adaptive_turn.new.wire) c.adaptive_turn.new.pass (last_of c.adaptive_turn.new.self.lasts)
    (g.S.Store.failed c.args.store.now) (g.W.Wire.account c.args.wire.now) (g.W.Wire.account c.fetch.new.wire) c.of_pump.result c.in-Err-adaptive_turn.ensures.turned c.requires.usable c.in-Ok.ensures.fetches.gives.0 c.of_pump.ensures

pub returns-in-Err-stand-clause-fault : goal.returns-in-Err-stand-clause-fault
returns-in-Err-stand-clause-fault g c =
    standing_broke (g.S.Store.failed c.stand.new.store) c.stand.new.pass.seen (g.W.Wire.account c.args.wire.now) (g.W.Wire.account c.fetch.new.wire) c.in-Err-stand.fault c.in-Err-stand.ensures.fault c.in-Ok.ensures.fetches.gives.0

pub returns-in-Err-post-clause-fault : goal.returns-in-Err-post-clause-fault
returns-in-Err-post-clause-fault g c =
    wire_failed (g.S.Store.failed c.stand.new.store) c.stand.new.pass.seen (g.W.Wire.account c.args.wire.now) (g.W.Wire.account c.post.new.wire) c.in-Err-post.fault c.in-Err-post.ensures.fault c.in-Ok-stand.ensures.usable

pub returns-in-Err-clause-steps : goal.returns-in-Err-clause-steps
returns-in-Err-clause-steps g c = inl refl

pub returns-in-Err-adaptive_turn-clause-steps : goal.returns-in-Err-adaptive_turn-clause-steps
returns-in-Err-adaptive_turn-clause-steps g c = inl refl

pub returns-in-Err-stand-clause-steps : goal.returns-in-Err-stand-clause-steps
returns-in-Err-stand-clause-steps g c = inl c.in-Err-stand.ensures.same

pub returns-in-Ok-post-clause-steps : goal.returns-in-Ok-post-clause-steps
returns-in-Ok-post-clause-steps g c = inr c.in-Ok-stand.ensures.all

pub returns-in-Err-post-clause-steps : goal.returns-in-Err-post-clause-steps
returns-in-Err-post-clause-steps g c = inr c.in-Ok-stand.ensures.all

pub returns-in-Err-clause-grows : goal.returns-in-Err-clause-grows
returns-in-Err-clause-grows g c = ([], append-nil c.args.pass.now.seen)

pub returns-in-Err-adaptive_turn-clause-grows : goal.returns-in-Err-adaptive_turn-clause-grows
returns-in-Err-adaptive_turn-clause-grows g c =
    let b = stage_begins true c.args.pass.now.tag c.args.desk.now.key (last_of c.args.pump.now.lasts) c.args.now c.args.pass.now (account_of c.fetch.new.mail) c.in-Err-adaptive_turn.fault (account_of c.adaptive_turn.new.wire) c.adaptive_turn.new.pass (last_of c.adaptive_turn.new.self.lasts) c.in-Err-adaptive_turn.ensures.turned in
    (b.0, sym b.1)

pub returns-in-Err-stand-clause-grows : goal.returns-in-Err-stand-clause-grows
returns-in-Err-stand-clause-grows g c =
    let b = turned_begins true c.args.pass.now.tag c.args.desk.now.key (last_of c.args.pump.now.lasts) c.args.now c.args.pass.now (account_of c.fetch.new.mail) c.in-Ok-adaptive_turn.turn (account_of c.adaptive_turn.new.wire) c.adaptive_turn.new.pass (last_of c.adaptive_turn.new.self.lasts) c.in-Ok-adaptive_turn.ensures.turned in
    let on = begins_both c.args.pass.now c.adaptive_turn.new.pass c.stand.new.pass b (does_begins _ c.args.desk.now.key c.adaptive_turn.new.pass c.stand.new.pass c.stand.ensures.looked) in
    (on.0, sym on.1)

pub returns-in-Ok-post-clause-grows : goal.returns-in-Ok-post-clause-grows
returns-in-Ok-post-clause-grows g c =
    let b = turned_begins true c.args.pass.now.tag c.args.desk.now.key (last_of c.args.pump.now.lasts) c.args.now c.args.pass.now (account_of c.fetch.new.mail) c.in-Ok-adaptive_turn.turn (account_of c.adaptive_turn.new.wire) c.adaptive_turn.new.pass (last_of c.adaptive_turn.new.self.lasts) c.in-Ok-adaptive_turn.ensures.turned in
    let on = begins_both c.args.pass.now c.adaptive_turn.new.pass c.stand.new.pass b (does_begins _ c.args.desk.now.key c.adaptive_turn.new.pass c.stand.new.pass c.stand.ensures.looked) in
    (on.0, sym on.1)

pub returns-in-Err-post-clause-grows : goal.returns-in-Err-post-clause-grows
returns-in-Err-post-clause-grows g c =
    let b = turned_begins true c.args.pass.now.tag c.args.desk.now.key (last_of c.args.pump.now.lasts) c.args.now c.args.pass.now (account_of c.fetch.new.mail) c.in-Ok-adaptive_turn.turn (account_of c.adaptive_turn.new.wire) c.adaptive_turn.new.pass (last_of c.adaptive_turn.new.self.lasts) c.in-Ok-adaptive_turn.ensures.turned in
    let on = begins_both c.args.pass.now c.adaptive_turn.new.pass c.stand.new.pass b (does_begins _ c.args.desk.now.key c.adaptive_turn.new.pass c.stand.new.pass c.stand.ensures.looked) in
    (on.0, sym on.1)

pub returns-in-Err-clause-broke : goal.returns-in-Err-clause-broke
returns-in-Err-clause-broke g c = BeforePump c.in-Err.ensures.fault refl (λ v n. refl)

pub returns-in-Err-adaptive_turn-clause-broke : goal.returns-in-Err-adaptive_turn-clause-broke
returns-in-Err-adaptive_turn-clause-broke g c = InPump c.in-Err-adaptive_turn.fault c.of_pump.ensures (account_of c.fetch.new.mail) (account_of c.adaptive_turn.new.wire) c.in-Err-adaptive_turn.ensures.turned

pub returns-in-Err-stand-clause-broke : goal.returns-in-Err-stand-clause-broke
returns-in-Err-stand-clause-broke g c =
    AfterPump c.in-Ok-adaptive_turn.turn (account_of c.fetch.new.mail) (account_of c.adaptive_turn.new.wire) (record { mid = c.adaptive_turn.new.pass; turned = c.in-Ok-adaptive_turn.ensures.turned; looked = c.stand.ensures.looked })

pub returns-in-Err-post-clause-broke : goal.returns-in-Err-post-clause-broke
returns-in-Err-post-clause-broke g c =
    AfterPump c.in-Ok-adaptive_turn.turn (account_of c.fetch.new.mail) (account_of c.adaptive_turn.new.wire) (record { mid = c.adaptive_turn.new.pass; turned = c.in-Ok-adaptive_turn.ensures.turned; looked = c.stand.ensures.looked })
