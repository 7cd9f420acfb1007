use Rattle.std.proofs.Common.{◌≡◌, ◌+◌, ◌<◌, ◌≤◌, ℕ, length, drop, Some, refl, sym, ap, subst, ◌∙◌, arith, length-append}
use Rattle.std.specs.List.{flat_map}
use Rattle.std.specs.Io.KnownBytes.{Appends}
use Rattle.std.proofs.lemmas.List.{take_all}
use Rattle.locked_office.specs.Calls.{office_with}
use Rattle.socket_pump.specs.Last.{PumpView, last_of}
use Rattle.stored_runs.specs.durable.Letting.{LetsOut}
use Rattle.stored_runs.specs.durable.LettingLaws.{has_on}
use Rattle.session_reports.specs.form.Forms.{outcome_as}
use Rattle.office_stations.specs.declared.turning.Turning.TheVariants.{Adaptive}
use Rattle.office_stations.specs.Rounds.{Standing, Fills, StopsFilling, Turns, of_office, with_pass}
use Rattle.office_stations.specs.Sessions.{finished_of}
use Rattle.office_stations.specs.refinement.Standings.{standing}
use Rattle.office_stations.specs.refinement.RoundLaws.{Made, none_made, one_round}
use Rattle.stored_runs.specs.declared.fault.StoredFault.TheVariants.{Run}
use Rattle.stored_runs.specs.Runs.{AtSessions, AtTurn, AfterTurn, IsToldBy}
use Rattle.stored_runs.specs.refinement.Running.{Told}
use Rattle.stored_runs.proofs.Growing.{looks_begin, fills_begin, stops_begin, within_on, no_datagram, lets_out_on, lets_out_both}
use Rattle.stored_runs.proofs.Outcomes.{itself, both, finished_on}
use Rattle.stored_runs.proofs.Told.{nothing_more, more_lines}
use Rattle.stored_runs.proofs.Running.{turned_and_looked, cut_short, grown_stood, told_at, unless, unless_then}
use Rattle.stored_runs.proofs.run.take_turns.Goals as goal

pub loop-init : goal.loop-init
loop-init g c = record {
  stays = (c.requires.of, refl, c.requires.idle);
  key = c.requires.key;
  few = omega arith;
  made = none_made Adaptive g.S.Wire.tells 0 c.args.desk.now.key c.args.turns (standing c.args.pass.now (g.S.Wire.account c.args.station.now.socket) (last_of c.args.station.now.pump.lasts)) (of_office c.args.me (drop c.args.from c.args.programs.now));
  grows = itself c.args.pass.now.seen;
  usable = c.requires.usable;
  has = c.requires.has;
  all = c.requires.all;
  out = no_datagram g.S.Wire.tells c.args.pass.now.tag (g.S.Wire.account c.args.station.now.socket) c.args.pass.now.seen c.args.books.now.stood;
  told = c.requires.told;
  more = omega arith;
  lines = nothing_more c.args.form c.args.plan.now c.args.books.now.told (finished_of (office_with c.args.desk.now.key c.args.pass.now.seen)) (g.O.Write.contents c.args.out.now) (omega (arith, c.requires.told));
}

pub returns-then-count-turns-clause-told : goal.returns-then-count-turns-clause-told
returns-then-count-turns-clause-told g c =
    let i = c.loop.invariant in
    let same : c.loop.books.stood ≤ c.loop.books.stood = omega arith in
    told_at c.args.form c.args.plan.now c.args.desk.now.key c.args.pass.now.seen c.loop.pass.seen c.loop.pass.seen c.loop.books.stood c.loop.books.stood c.args.books.now.told c.loop.books.told (g.O.Write.contents c.args.out.now) (g.O.Write.contents c.loop.out)
    i.grows (itself c.loop.pass.seen) i.all same i.told i.lines

pub returns-then-count-turns-clause-all_told : goal.returns-then-count-turns-clause-all_told
returns-then-count-turns-clause-all_told g c =
    c.loop.invariant.told ∙ ap (λ l. length (finished_of (office_with c.args.desk.now.key l))) (sym (take_all c.loop.books.stood c.loop.pass.seen (omega (arith, c.loop.invariant.all))))

-- ---- it ends at its sessions

pub returns-in-Err-clause-goes : goal.returns-in-Err-clause-goes
returns-in-Err-clause-goes g c =
    let begin : Standing = standing c.args.pass.now (g.S.Wire.account c.args.station.now.socket) (last_of c.args.station.now.pump.lasts) in
    let at : Standing = standing c.loop.pass (g.S.Wire.account c.loop.station.socket) (last_of c.loop.station.pump.lasts) in
    let end : Standing = standing c.submit_some.new.pass (g.S.Wire.account c.loop.station.socket) (last_of c.loop.station.pump.lasts) in
    cut_short (IsToldBy g.S.Wire.account) g.S.Wire.tells c.args.desk.now.key c.args.turns c.loop.count begin at end (of_office c.args.me (drop c.args.from c.args.programs.now)) (of_office c.args.me (drop c.loop.next c.args.programs.now)) (Run c.in-Err.fault) c.loop.invariant.made (c.loop.station.socket, refl)
    (AtSessions c.in-Err.fault (subst (λ (x : ℕ). StopsFilling x c.args.desk.now.key c.loop.pass c.submit_some.new.pass (of_office c.args.me (drop c.loop.next c.args.programs.now)) c.in-Err.fault) (c.loop.invariant.stays.1 ∙ c.requires.tag) c.in-Err.ensures.stops) refl)

pub returns-in-Err-clause-has : goal.returns-in-Err-clause-has
returns-in-Err-clause-has g c =
    let grown = stops_begin c.loop.pass.tag c.args.desk.now.key c.loop.pass c.submit_some.new.pass (of_office c.args.me (drop c.loop.next c.args.programs.now)) c.in-Err.fault c.in-Err.ensures.stops in
    has_on (g.T.Store.stood c.loop.store) c.args.desk.now.key c.loop.pass.seen c.submit_some.new.pass.seen c.loop.books.stood (omega (arith, c.loop.invariant.all)) grown c.loop.invariant.has

pub returns-in-Err-clause-within : goal.returns-in-Err-clause-within
returns-in-Err-clause-within g c =
    let grown = stops_begin c.loop.pass.tag c.args.desk.now.key c.loop.pass c.submit_some.new.pass (of_office c.args.me (drop c.loop.next c.args.programs.now)) c.in-Err.fault c.in-Err.ensures.stops in
    within_on c.loop.books.stood c.loop.pass.seen c.submit_some.new.pass.seen (omega (arith, c.loop.invariant.all)) grown

pub returns-in-Err-clause-lets_out : goal.returns-in-Err-clause-lets_out
returns-in-Err-clause-lets_out g c =
    let grown = stops_begin c.loop.pass.tag c.args.desk.now.key c.loop.pass c.submit_some.new.pass (of_office c.args.me (drop c.loop.next c.args.programs.now)) c.in-Err.fault c.in-Err.ensures.stops in
    lets_out_on g.S.Wire.tells c.args.pass.now.tag (g.S.Wire.account c.args.station.now.socket) (g.S.Wire.account c.loop.station.socket) c.loop.pass.seen c.submit_some.new.pass.seen c.loop.books.stood c.loop.books.stood (omega arith) grown c.loop.invariant.out

pub returns-in-Err-clause-told : goal.returns-in-Err-clause-told
returns-in-Err-clause-told g c =
    let i = c.loop.invariant in
    let grown = stops_begin c.loop.pass.tag c.args.desk.now.key c.loop.pass c.submit_some.new.pass (of_office c.args.me (drop c.loop.next c.args.programs.now)) c.in-Err.fault c.in-Err.ensures.stops in
    told_at c.args.form c.args.plan.now c.args.desk.now.key c.args.pass.now.seen c.loop.pass.seen c.submit_some.new.pass.seen c.loop.books.stood c.loop.books.stood c.args.books.now.told c.loop.books.told (g.O.Write.contents c.args.out.now) (g.O.Write.contents c.loop.out)
    i.grows grown i.all (omega arith) i.told i.lines

-- ---- it ends in its turn

pub turn_once-requires-clause-has : goal.turn_once-requires-clause-has
turn_once-requires-clause-has g c =
    let grown = fills_begin c.loop.pass.tag c.args.desk.now.key c.loop.pass c.submit_some.new.pass (of_office c.args.me (drop c.loop.next c.args.programs.now)) (of_office c.args.me (drop c.submit_some.new.next c.args.programs.now)) c.in-Ok.ensures.fills in
    has_on (g.T.Store.stood c.loop.store) c.args.desk.now.key c.loop.pass.seen c.submit_some.new.pass.seen c.loop.books.stood (omega (arith, c.loop.invariant.all)) grown c.loop.invariant.has

pub turn_once-requires-clause-within : goal.turn_once-requires-clause-within
turn_once-requires-clause-within g c =
    let grown = fills_begin c.loop.pass.tag c.args.desk.now.key c.loop.pass c.submit_some.new.pass (of_office c.args.me (drop c.loop.next c.args.programs.now)) (of_office c.args.me (drop c.submit_some.new.next c.args.programs.now)) c.in-Ok.ensures.fills in
    within_on c.loop.books.stood c.loop.pass.seen c.submit_some.new.pass.seen (omega (arith, c.loop.invariant.all)) grown

pub returns-in-Err-turn_once-clause-goes : goal.returns-in-Err-turn_once-clause-goes
returns-in-Err-turn_once-clause-goes g c =
    let begin : Standing = standing c.args.pass.now (g.S.Wire.account c.args.station.now.socket) (last_of c.args.station.now.pump.lasts) in
    let at : Standing = standing c.loop.pass (g.S.Wire.account c.loop.station.socket) (last_of c.loop.station.pump.lasts) in
    let end : Standing = standing c.turn_once.new.pass (g.S.Wire.account c.turn_once.new.station.socket) (last_of c.turn_once.new.station.pump.lasts) in
    let left = of_office c.args.me (drop c.submit_some.new.next c.args.programs.now) in
    cut_short (IsToldBy g.S.Wire.account) g.S.Wire.tells c.args.desk.now.key c.args.turns c.loop.count begin at end (of_office c.args.me (drop c.args.from c.args.programs.now)) (of_office c.args.me (drop c.loop.next c.args.programs.now)) c.in-Err-turn_once.fault c.loop.invariant.made (c.loop.station.socket, refl)
    (AtTurn c.submit_some.new.pass left (subst (λ (x : ℕ). Fills x c.args.desk.now.key c.loop.pass c.submit_some.new.pass (of_office c.args.me (drop c.loop.next c.args.programs.now)) left) (c.loop.invariant.stays.1 ∙ c.requires.tag) c.in-Ok.ensures.fills) c.in-Err-turn_once.ensures.broke)

pub returns-in-Err-turn_once-clause-lets_out : goal.returns-in-Err-turn_once-clause-lets_out
returns-in-Err-turn_once-clause-lets_out g c =
    let grown = fills_begin c.loop.pass.tag c.args.desk.now.key c.loop.pass c.submit_some.new.pass (of_office c.args.me (drop c.loop.next c.args.programs.now)) (of_office c.args.me (drop c.submit_some.new.next c.args.programs.now)) c.in-Ok.ensures.fills in
    let all = both c.loop.pass.seen c.submit_some.new.pass.seen c.turn_once.new.pass.seen grown c.turn_once.ensures.grows in
    let tag : c.submit_some.new.pass.tag ≡ c.args.pass.now.tag = c.submit_some.ensures.stays.1 ∙ c.loop.invariant.stays.1 in
    lets_out_both g.S.Wire.tells c.args.pass.now.tag (g.S.Wire.account c.args.station.now.socket) (g.S.Wire.account c.loop.station.socket) (g.S.Wire.account c.turn_once.new.station.socket) c.loop.pass.seen c.turn_once.new.pass.seen c.loop.books.stood c.turn_once.new.stood
    (grown_stood c.loop.pass.seen c.turn_once.new.pass.seen c.loop.books.stood c.turn_once.new.stood c.loop.invariant.all all c.turn_once.ensures.steps) all c.loop.invariant.out
    (subst (λ (x : ℕ). LetsOut g.S.Wire.tells x (g.S.Wire.account c.loop.station.socket) (g.S.Wire.account c.turn_once.new.station.socket) c.turn_once.new.pass.seen c.turn_once.new.stood) tag c.turn_once.ensures.lets_out)

pub returns-in-Err-turn_once-clause-told : goal.returns-in-Err-turn_once-clause-told
returns-in-Err-turn_once-clause-told g c =
    let i = c.loop.invariant in
    let grown = fills_begin c.loop.pass.tag c.args.desk.now.key c.loop.pass c.submit_some.new.pass (of_office c.args.me (drop c.loop.next c.args.programs.now)) (of_office c.args.me (drop c.submit_some.new.next c.args.programs.now)) c.in-Ok.ensures.fills in
    let all = both c.loop.pass.seen c.submit_some.new.pass.seen c.turn_once.new.pass.seen grown c.turn_once.ensures.grows in
    let later = grown_stood c.loop.pass.seen c.turn_once.new.pass.seen c.loop.books.stood c.turn_once.new.stood i.all all c.turn_once.ensures.steps in
    unless (Some c.in-Err-turn_once.fault) (Told c.args.form c.args.plan.now c.args.desk.now.key c.turn_once.new.pass.seen (length c.args.pass.now.seen) c.turn_once.new.stood c.args.books.now.told c.loop.books.told (g.O.Write.contents c.args.out.now) (g.O.Write.contents c.loop.out))
    (told_at c.args.form c.args.plan.now c.args.desk.now.key c.args.pass.now.seen c.loop.pass.seen c.turn_once.new.pass.seen c.loop.books.stood c.turn_once.new.stood c.args.books.now.told c.loop.books.told (g.O.Write.contents c.args.out.now) (g.O.Write.contents c.loop.out)
    i.grows all i.all later i.told i.lines)

-- ---- it ends where its entries were to stand, or to be told

pub returns-in-Err-stand_and_tell-clause-goes : goal.returns-in-Err-stand_and_tell-clause-goes
returns-in-Err-stand_and_tell-clause-goes g c =
    let k = c.args.desk.now.key in
    let begin : Standing = standing c.args.pass.now (g.S.Wire.account c.args.station.now.socket) (last_of c.args.station.now.pump.lasts) in
    let at : Standing = standing c.loop.pass (g.S.Wire.account c.loop.station.socket) (last_of c.loop.station.pump.lasts) in
    let turned : Standing = standing c.turn_once.new.pass (g.S.Wire.account c.turn_once.new.station.socket) (last_of c.turn_once.new.station.pump.lasts) in
    let end : Standing = standing c.stand_and_tell.new.pass (g.S.Wire.account c.turn_once.new.station.socket) (last_of c.turn_once.new.station.pump.lasts) in
    let mid = of_office c.args.me (drop c.loop.next c.args.programs.now) in
    let left = of_office c.args.me (drop c.submit_some.new.next c.args.programs.now) in
    let tag : c.loop.pass.tag ≡ 0 = c.loop.invariant.stays.1 ∙ c.requires.tag in
    cut_short (IsToldBy g.S.Wire.account) g.S.Wire.tells k c.args.turns c.loop.count begin at end (of_office c.args.me (drop c.args.from c.args.programs.now)) mid c.in-Err-stand_and_tell.fault c.loop.invariant.made (c.loop.station.socket, refl)
    (AfterTurn c.in-Ok-turn_once.turn turned left (record {
      filled = c.submit_some.new.pass;
      fills = subst (λ (x : ℕ). Fills x k c.loop.pass c.submit_some.new.pass mid left) tag c.in-Ok.ensures.fills;
      turns = subst (λ (x : ℕ). Turns Adaptive g.S.Wire.tells x k c.in-Ok-turn_once.turn (with_pass at c.submit_some.new.pass) turned) (c.submit_some.ensures.stays.1 ∙ tag) c.in-Ok-turn_once.ensures.turns;
    }) c.stand_and_tell.ensures.looked c.in-Err-stand_and_tell.ensures.cause)

pub returns-in-Err-stand_and_tell-clause-lets_out : goal.returns-in-Err-stand_and_tell-clause-lets_out
returns-in-Err-stand_and_tell-clause-lets_out g c =
    let k = c.args.desk.now.key in
    let grown = fills_begin c.loop.pass.tag k c.loop.pass c.submit_some.new.pass (of_office c.args.me (drop c.loop.next c.args.programs.now)) (of_office c.args.me (drop c.submit_some.new.next c.args.programs.now)) c.in-Ok.ensures.fills in
    let turned = both c.loop.pass.seen c.submit_some.new.pass.seen c.turn_once.new.pass.seen grown c.turn_once.ensures.grows in
    let looked = looks_begin k c.turn_once.new.pass c.stand_and_tell.new.pass c.stand_and_tell.ensures.looked in
    let tag : c.submit_some.new.pass.tag ≡ c.args.pass.now.tag = c.submit_some.ensures.stays.1 ∙ c.loop.invariant.stays.1 in
    let a = g.S.Wire.account c.args.station.now.socket in
    let b = g.S.Wire.account c.loop.station.socket in
    let d = g.S.Wire.account c.turn_once.new.station.socket in
    lets_out_on g.S.Wire.tells c.args.pass.now.tag a d c.turn_once.new.pass.seen c.stand_and_tell.new.pass.seen c.turn_once.new.stood c.stand_and_tell.new.books.stood
    (grown_stood c.turn_once.new.pass.seen c.stand_and_tell.new.pass.seen c.turn_once.new.stood c.stand_and_tell.new.books.stood c.in-Ok-turn_once.ensures.all looked c.stand_and_tell.ensures.steps) looked
    (lets_out_both g.S.Wire.tells c.args.pass.now.tag a b d c.loop.pass.seen c.turn_once.new.pass.seen c.loop.books.stood c.turn_once.new.stood (grown_stood c.loop.pass.seen c.turn_once.new.pass.seen c.loop.books.stood c.turn_once.new.stood c.loop.invariant.all turned c.turn_once.ensures.steps)
    turned c.loop.invariant.out (subst (λ (x : ℕ). LetsOut g.S.Wire.tells x b d c.turn_once.new.pass.seen c.turn_once.new.stood) tag c.turn_once.ensures.lets_out))

pub returns-in-Err-stand_and_tell-clause-told : goal.returns-in-Err-stand_and_tell-clause-told
returns-in-Err-stand_and_tell-clause-told g c =
    let i = c.loop.invariant in
    let k = c.args.desk.now.key in
    let grown = fills_begin c.loop.pass.tag k c.loop.pass c.submit_some.new.pass (of_office c.args.me (drop c.loop.next c.args.programs.now)) (of_office c.args.me (drop c.submit_some.new.next c.args.programs.now)) c.in-Ok.ensures.fills in
    let turned = both c.loop.pass.seen c.submit_some.new.pass.seen c.turn_once.new.pass.seen grown c.turn_once.ensures.grows in
    let looked = looks_begin k c.turn_once.new.pass c.stand_and_tell.new.pass c.stand_and_tell.ensures.looked in
    let all = both c.loop.pass.seen c.turn_once.new.pass.seen c.stand_and_tell.new.pass.seen turned looked in
    let first : c.loop.books.stood ≤ c.turn_once.new.stood = grown_stood c.loop.pass.seen c.turn_once.new.pass.seen c.loop.books.stood c.turn_once.new.stood i.all turned c.turn_once.ensures.steps in
    let second : c.turn_once.new.stood ≤ c.stand_and_tell.new.books.stood =
    grown_stood c.turn_once.new.pass.seen c.stand_and_tell.new.pass.seen c.turn_once.new.stood c.stand_and_tell.new.books.stood c.in-Ok-turn_once.ensures.all looked c.stand_and_tell.ensures.steps in
    let same : c.stand_and_tell.new.books.told ≡ c.loop.books.told = c.in-Err-stand_and_tell.ensures.same in
    unless_then (Some c.in-Err-stand_and_tell.fault) (g.O.Write.contents c.stand_and_tell.new.out ≡ g.O.Write.contents c.loop.out)
    (Told c.args.form c.args.plan.now k c.stand_and_tell.new.pass.seen (length c.args.pass.now.seen) c.stand_and_tell.new.books.stood c.args.books.now.told c.stand_and_tell.new.books.told (g.O.Write.contents c.args.out.now) (g.O.Write.contents c.stand_and_tell.new.out))
    (λ still. told_at c.args.form c.args.plan.now k c.args.pass.now.seen c.loop.pass.seen c.stand_and_tell.new.pass.seen c.loop.books.stood c.stand_and_tell.new.books.stood c.args.books.now.told c.stand_and_tell.new.books.told (g.O.Write.contents c.args.out.now)
    (g.O.Write.contents c.stand_and_tell.new.out) i.grows all i.all (omega (arith, first, second)) (same ∙ i.told)
    (subst (λ x. Appends (g.O.Write.contents c.args.out.now) x (flat_map (outcome_as c.args.form c.args.plan.now) (drop c.args.books.now.told (finished_of (office_with k c.loop.pass.seen))))) (sym still) i.lines)) c.in-Err-stand_and_tell.ensures.untold

-- ---- it goes on

pub loop-preserved : goal.loop-preserved
loop-preserved g c =
    let i = c.loop.invariant in
    let k = c.args.desk.now.key in
    let p = c.args.plan.now in
    let begin : Standing = standing c.args.pass.now (g.S.Wire.account c.args.station.now.socket) (last_of c.args.station.now.pump.lasts) in
    let own = of_office c.args.me (drop c.args.from c.args.programs.now) in
    let mid = of_office c.args.me (drop c.loop.next c.args.programs.now) in
    let left = of_office c.args.me (drop c.submit_some.new.next c.args.programs.now) in
    let grown = fills_begin c.loop.pass.tag k c.loop.pass c.submit_some.new.pass mid left c.in-Ok.ensures.fills in
    let turned = both c.loop.pass.seen c.submit_some.new.pass.seen c.turn_once.new.pass.seen grown c.turn_once.ensures.grows in
    let looked = looks_begin k c.turn_once.new.pass c.stand_and_tell.new.pass c.stand_and_tell.ensures.looked in
    let all = both c.loop.pass.seen c.turn_once.new.pass.seen c.stand_and_tell.new.pass.seen turned looked in
    let tag : c.loop.pass.tag ≡ 0 = i.stays.1 ∙ c.requires.tag in
    let still : c.submit_some.new.pass.tag ≡ c.loop.pass.tag = c.submit_some.ensures.stays.1 in
    let below : c.loop.count < c.args.turns = omega (arith, c.if-count-turns.false) in
    let one : c.counted-count.result ≤ 1 = c.counted-count.ensures.one in
    let a = g.S.Wire.account c.args.station.now.socket in
    let b = g.S.Wire.account c.loop.station.socket in
    let d = g.S.Wire.account c.turn_once.new.station.socket in
    let socket : c.tell_alone.new.self.socket ≡ c.turn_once.new.station.socket = c.tell_alone.ensures.socket ∙ c.note_finished.ensures.socket in
    let pump : c.tell_alone.new.self.pump ≡ c.turn_once.new.station.pump = c.tell_alone.ensures.pump ∙ c.note_finished.ensures.pump in
    let end : Standing = standing c.turn_once.new.pass d (last_of c.turn_once.new.station.pump.lasts) in
    let looked_end : Standing = standing c.stand_and_tell.new.pass d (last_of c.turn_once.new.station.pump.lasts) in
    let done = turned_and_looked g.S.Wire.tells c.submit_some.new.pass.tag k c.in-Ok-turn_once.turn (standing c.submit_some.new.pass b (last_of c.loop.station.pump.lasts)) end c.stand_and_tell.new.pass c.in-Ok-turn_once.ensures.turns c.stand_and_tell.ensures.looked in
    let round = one_round Adaptive g.S.Wire.tells 0 c.loop.pass.tag c.submit_some.new.pass.tag k c.args.turns c.loop.count c.counted-count.result c.in-Ok-turn_once.turn begin c.loop.pass c.submit_some.new.pass c.stand_and_tell.new.pass b d (last_of c.loop.station.pump.lasts)
    (last_of c.turn_once.new.station.pump.lasts) own mid left tag (still ∙ tag) below c.counted-count.ensures.counted i.made c.in-Ok.ensures.fills done in
    let first : c.loop.books.stood ≤ c.turn_once.new.stood = grown_stood c.loop.pass.seen c.turn_once.new.pass.seen c.loop.books.stood c.turn_once.new.stood i.all turned c.turn_once.ensures.steps in
    let second : c.turn_once.new.stood ≤ c.stand_and_tell.new.books.stood =
    grown_stood c.turn_once.new.pass.seen c.stand_and_tell.new.pass.seen c.turn_once.new.stood c.stand_and_tell.new.books.stood c.in-Ok-turn_once.ensures.all looked c.stand_and_tell.ensures.steps in
    let out = lets_out_on g.S.Wire.tells c.args.pass.now.tag a d c.turn_once.new.pass.seen c.stand_and_tell.new.pass.seen c.turn_once.new.stood c.stand_and_tell.new.books.stood second looked
    (lets_out_both g.S.Wire.tells c.args.pass.now.tag a b d c.loop.pass.seen c.turn_once.new.pass.seen c.loop.books.stood c.turn_once.new.stood first turned i.out
    (subst (λ (x : ℕ). LetsOut g.S.Wire.tells x b d c.turn_once.new.pass.seen c.turn_once.new.stood) (still ∙ i.stays.1) c.turn_once.ensures.lets_out)) in
    let before = finished_of (office_with k c.loop.pass.seen) in
    let after = finished_of (office_with k c.stand_and_tell.new.pass.seen) in
    let more = finished_on k c.loop.pass.seen c.stand_and_tell.new.pass.seen c.stand_and_tell.ensures.looked.1.legal all in
    record {
      stays = (c.stand_and_tell.ensures.stays.0, c.stand_and_tell.ensures.stays.1 ∙ (c.turn_once.ensures.stays.1 ∙ (still ∙ i.stays.1)), c.stand_and_tell.ensures.stays.2);
      key = i.key ∙ (sym c.turn_once.ensures.key ∙ sym (ap (λ (v : PumpView). v.key) pump));
      few = omega (arith, below, one);
      made = subst (λ (v : PumpView). Made Adaptive g.S.Wire.tells 0 k c.args.turns (c.loop.count + c.counted-count.result) begin (standing c.stand_and_tell.new.pass (g.S.Wire.account c.tell_alone.new.self.socket) (last_of v.lasts)) own left) (sym pump)
          (subst (λ s. Made Adaptive g.S.Wire.tells 0 k c.args.turns (c.loop.count + c.counted-count.result) begin (standing c.stand_and_tell.new.pass (g.S.Wire.account s) (last_of c.turn_once.new.station.pump.lasts)) own left) (sym socket) round);
      grows = both c.args.pass.now.seen c.loop.pass.seen c.stand_and_tell.new.pass.seen i.grows all;
      usable = c.in-Ok-stand_and_tell.ensures.usable;
      has = c.stand_and_tell.ensures.has;
      all = c.in-Ok-stand_and_tell.ensures.all;
      out = subst (λ s. LetsOut g.S.Wire.tells c.args.pass.now.tag a (g.S.Wire.account s) c.stand_and_tell.new.pass.seen c.stand_and_tell.new.books.stood) (sym socket) out;
      told = c.in-Ok-stand_and_tell.ensures.told;
      more = omega (arith, i.more, i.told, c.in-Ok-stand_and_tell.ensures.told, ap length more.1, length-append before more.0);
      lines = more_lines c.args.form p c.args.books.now.told before after (g.O.Write.contents c.args.out.now) (g.O.Write.contents c.loop.out) (g.O.Write.contents c.stand_and_tell.new.out) c.loop.books.told (omega (arith, i.more, i.told)) i.told more i.lines c.in-Ok-stand_and_tell.ensures.lines;
    }

-- ---- its journal only grows

pub returns-in-Err-clause-grows : goal.returns-in-Err-clause-grows
returns-in-Err-clause-grows g c =
    both c.args.pass.now.seen c.loop.pass.seen c.submit_some.new.pass.seen c.loop.invariant.grows
    (stops_begin c.loop.pass.tag c.args.desk.now.key c.loop.pass c.submit_some.new.pass (of_office c.args.me (drop c.loop.next c.args.programs.now)) c.in-Err.fault c.in-Err.ensures.stops)

pub returns-in-Err-turn_once-clause-grows : goal.returns-in-Err-turn_once-clause-grows
returns-in-Err-turn_once-clause-grows g c =
    let grown = fills_begin c.loop.pass.tag c.args.desk.now.key c.loop.pass c.submit_some.new.pass (of_office c.args.me (drop c.loop.next c.args.programs.now)) (of_office c.args.me (drop c.submit_some.new.next c.args.programs.now)) c.in-Ok.ensures.fills in
    both c.args.pass.now.seen c.loop.pass.seen c.turn_once.new.pass.seen c.loop.invariant.grows (both c.loop.pass.seen c.submit_some.new.pass.seen c.turn_once.new.pass.seen grown c.turn_once.ensures.grows)

pub returns-in-Err-stand_and_tell-clause-grows : goal.returns-in-Err-stand_and_tell-clause-grows
returns-in-Err-stand_and_tell-clause-grows g c =
    let grown = fills_begin c.loop.pass.tag c.args.desk.now.key c.loop.pass c.submit_some.new.pass (of_office c.args.me (drop c.loop.next c.args.programs.now)) (of_office c.args.me (drop c.submit_some.new.next c.args.programs.now)) c.in-Ok.ensures.fills in
    let turned = both c.loop.pass.seen c.submit_some.new.pass.seen c.turn_once.new.pass.seen grown c.turn_once.ensures.grows in
    let looked = looks_begin c.args.desk.now.key c.turn_once.new.pass c.stand_and_tell.new.pass c.stand_and_tell.ensures.looked in
    both c.args.pass.now.seen c.loop.pass.seen c.stand_and_tell.new.pass.seen c.loop.invariant.grows (both c.loop.pass.seen c.turn_once.new.pass.seen c.stand_and_tell.new.pass.seen turned looked)
