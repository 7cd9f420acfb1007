use Rattle.std.proofs.Common.{◌≤◌, ℕ, take, refl, sym, subst, ◌∙◌, arith}
use Rattle.locked_office.specs.Calls.{Key}
use Rattle.socket_pump.specs.Last.{last_of}
use Rattle.stored_runs.specs.durable.Letting.{LetsOut}
use Rattle.office_stations.specs.Rounds.{Standing}
use Rattle.office_stations.specs.refinement.Standings.{standing}
use Rattle.session_streams.specs.requests.refinement.{taking_of}
use Rattle.stored_runs.specs.Runs.{IsToldBy}
use Rattle.stored_runs.proofs.Outcomes.{both, itself}
use Rattle.stored_runs.proofs.Growing.{lets_out_both, no_datagram}
use Rattle.serving.specs.refinement.Hearing.{Hears}
use Rattle.serving.proofs.Rounding.{begins_first, none_so, one_so, went_before, went_cut, went_over}
use Rattle.serving.proofs.service.rounds.Goals as goal

pub loop-init : goal.loop-init
loop-init g c = record {
  stays = (c.requires.of, refl, c.requires.idle);
  key = c.requires.key;
  so = none_so c.args.form g.S.Wire.tells c.args.desk.now.key (g.I.Read.remaining c.args.incoming.now.input) (taking_of c.args.incoming.now.intake) c.args.incoming.now.has_ended (standing c.args.pass.now (g.S.Wire.account c.args.station.now.socket) (last_of c.args.station.now.pump.lasts)) c.new-waiting.result.items
      (g.O.Write.contents c.args.out.now) c.requires.nothing c.requires.going c.new-waiting.ensures.items;
  grows = itself c.args.pass.now.seen;
  usable = c.requires.usable;
  has = c.requires.has;
  all = c.requires.all;
  out = no_datagram g.S.Wire.tells c.args.pass.now.tag (g.S.Wire.account c.args.station.now.socket) c.args.pass.now.seen c.args.books.now.stood;
  told = c.requires.told;
  left = c.requires.left;
}

-- ---- it is over

pub returns-then-is_over-clause-went : goal.returns-then-is_over-clause-went
returns-then-is_over-clause-went g c =
    let i = c.loop.invariant in
    let begin : Standing = standing c.args.pass.now (g.S.Wire.account c.args.station.now.socket) (last_of c.args.station.now.pump.lasts) in
    let at : Standing = standing c.loop.pass (g.S.Wire.account c.loop.station.socket) (last_of c.loop.station.pump.lasts) in
    went_over (IsToldBy g.S.Wire.account) c.args.form g.S.Wire.tells c.args.desk.now.key (g.I.Read.remaining c.args.incoming.now.input) (g.I.Read.remaining c.loop.incoming.input) (taking_of c.loop.incoming.intake) c.loop.incoming.has_ended begin at c.loop.waiting.items i.so.xs i.so.bs (g.O.Write.contents c.args.out.now)
    (g.O.Write.contents c.loop.out) i.so.done i.so.heard i.so.written (c.loop.station.socket, refl) (take c.loop.books.stood c.loop.pass.seen) (begins_first c.loop.books.stood c.loop.pass.seen c.loop.pass.seen (omega (arith, i.all)) (itself c.loop.pass.seen)) (c.is_over.ensures.none c.if-is_over.true)
    (sym c.is_at_end.ensures ∙ c.is_over.ensures.no_more c.if-is_over.true) (sym i.left ∙ c.is_over.ensures.done c.if-is_over.true)

-- ---- its client can't be heard

pub returns-in-Err-clause-went : goal.returns-in-Err-clause-went
returns-in-Err-clause-went g c =
    let i = c.loop.invariant in
    let begin : Standing = standing c.args.pass.now (g.S.Wire.account c.args.station.now.socket) (last_of c.args.station.now.pump.lasts) in
    let at : Standing = standing c.loop.pass (g.S.Wire.account c.loop.station.socket) (last_of c.loop.station.pump.lasts) in
    went_before (IsToldBy g.S.Wire.account) c.args.form g.S.Wire.tells c.args.desk.now.key (g.I.Read.remaining c.args.incoming.now.input) (g.I.Read.remaining c.loop.incoming.input) (taking_of c.loop.incoming.intake) c.loop.incoming.has_ended begin at c.loop.waiting.items i.so.xs i.so.bs (g.O.Write.contents c.args.out.now)
    (g.O.Write.contents c.loop.out) i.so.done i.so.heard i.so.written (c.loop.station.socket, refl) c.in-Err.fault (take c.loop.books.stood c.loop.pass.seen) (begins_first c.loop.books.stood c.loop.pass.seen c.loop.pass.seen (omega (arith, i.all)) (itself c.loop.pass.seen))

-- ---- a round is cut off

pub returns-in-Err-round-clause-went : goal.returns-in-Err-round-clause-went
returns-in-Err-round-clause-went g c =
    let i = c.loop.invariant in
    let begin : Standing = standing c.args.pass.now (g.S.Wire.account c.args.station.now.socket) (last_of c.args.station.now.pump.lasts) in
    let at : Standing = standing c.loop.pass (g.S.Wire.account c.loop.station.socket) (last_of c.loop.station.pump.lasts) in
    let hears = subst (λ (x : Key). Hears x.0 x.1 (g.I.Read.remaining c.loop.incoming.input) (g.I.Read.remaining c.hear.new.self.input) (taking_of c.loop.incoming.intake) (taking_of c.hear.new.self.intake) c.loop.incoming.has_ended c.hear.new.self.has_ended c.loop.waiting.items c.hear.new.waiting.items)
    (sym c.requires.is) c.in-Ok.ensures.heard in
    let later : c.loop.books.stood ≤ c.round.new.books.stood = c.round.ensures.later in
    went_cut (IsToldBy g.S.Wire.account) c.args.form g.S.Wire.tells c.args.desk.now.key (g.I.Read.remaining c.args.incoming.now.input) (g.I.Read.remaining c.loop.incoming.input) (taking_of c.loop.incoming.intake) c.loop.incoming.has_ended begin at c.loop.waiting.items i.so.xs i.so.bs (g.O.Write.contents c.args.out.now)
    (g.O.Write.contents c.loop.out) i.so.done i.so.heard i.so.written (c.loop.station.socket, refl) c.parts_are_one.ensures c.in-Err-round.fault (take c.round.new.books.stood c.round.new.pass.seen) (g.I.Read.remaining c.hear.new.self.input) (g.O.Write.contents c.round.new.out) (taking_of c.hear.new.self.intake) c.hear.new.self.has_ended
    c.hear.new.waiting.items hears (begins_first c.round.new.books.stood c.loop.pass.seen c.round.new.pass.seen (omega (arith, i.all, later)) c.round.ensures.grows) c.in-Err-round.ensures.cut

pub returns-in-Err-round-clause-lets_out : goal.returns-in-Err-round-clause-lets_out
returns-in-Err-round-clause-lets_out g c =
    let i = c.loop.invariant in
    lets_out_both g.S.Wire.tells c.args.pass.now.tag (g.S.Wire.account c.args.station.now.socket) (g.S.Wire.account c.loop.station.socket) (g.S.Wire.account c.round.new.station.socket) c.loop.pass.seen c.round.new.pass.seen c.loop.books.stood c.round.new.books.stood c.round.ensures.later c.round.ensures.grows i.out
    (subst (λ (x : ℕ). LetsOut g.S.Wire.tells x (g.S.Wire.account c.loop.station.socket) (g.S.Wire.account c.round.new.station.socket) c.round.new.pass.seen c.round.new.books.stood) i.stays.1 c.round.ensures.lets_out)

-- ---- it goes on

pub loop-preserved : goal.loop-preserved
loop-preserved g c =
    let i = c.loop.invariant in
    let begin : Standing = standing c.args.pass.now (g.S.Wire.account c.args.station.now.socket) (last_of c.args.station.now.pump.lasts) in
    let at : Standing = standing c.loop.pass (g.S.Wire.account c.loop.station.socket) (last_of c.loop.station.pump.lasts) in
    let end : Standing = standing c.round.new.pass (g.S.Wire.account c.round.new.station.socket) (last_of c.round.new.station.pump.lasts) in
    let hears = subst (λ (x : Key). Hears x.0 x.1 (g.I.Read.remaining c.loop.incoming.input) (g.I.Read.remaining c.hear.new.self.input) (taking_of c.loop.incoming.intake) (taking_of c.hear.new.self.intake) c.loop.incoming.has_ended c.hear.new.self.has_ended c.loop.waiting.items c.hear.new.waiting.items)
    (sym c.requires.is) c.in-Ok.ensures.heard in
    record {
      stays = (c.round.ensures.stays.0, c.round.ensures.stays.1 ∙ i.stays.1, c.round.ensures.stays.2);
      key = i.key ∙ sym c.round.ensures.key;
      so = one_so c.parts_are_one.ensures c.args.form g.S.Wire.tells c.args.desk.now.key (g.I.Read.remaining c.args.incoming.now.input) (g.I.Read.remaining c.loop.incoming.input) (g.I.Read.remaining c.hear.new.self.input) (taking_of c.loop.incoming.intake) (taking_of c.hear.new.self.intake) c.loop.incoming.has_ended
          c.hear.new.self.has_ended begin at end c.loop.waiting.items c.hear.new.waiting.items c.round.new.waiting.items (g.O.Write.contents c.args.out.now) (g.O.Write.contents c.loop.out) (g.O.Write.contents c.round.new.out) c.in-Ok-round.turn i.so hears c.in-Ok-round.ensures.made;
      grows = both c.args.pass.now.seen c.loop.pass.seen c.round.new.pass.seen i.grows c.round.ensures.grows;
      usable = c.in-Ok-round.ensures.usable;
      has = c.round.ensures.has;
      all = c.in-Ok-round.ensures.all;
      out = lets_out_both g.S.Wire.tells c.args.pass.now.tag (g.S.Wire.account c.args.station.now.socket) (g.S.Wire.account c.loop.station.socket) (g.S.Wire.account c.round.new.station.socket) c.loop.pass.seen c.round.new.pass.seen c.loop.books.stood c.round.new.books.stood c.round.ensures.later c.round.ensures.grows i.out
          (subst (λ (x : ℕ). LetsOut g.S.Wire.tells x (g.S.Wire.account c.loop.station.socket) (g.S.Wire.account c.round.new.station.socket) c.round.new.pass.seen c.round.new.books.stood) i.stays.1 c.round.ensures.lets_out);
      told = c.in-Ok-round.ensures.told;
      left = c.in-Ok-round.ensures.left;
    }
