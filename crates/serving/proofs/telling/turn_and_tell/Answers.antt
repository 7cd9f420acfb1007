use Rattle.std.proofs.Common.{◌≡◌, ◌≤◌, length, drop, Some, inl, refl, sym, ap, subst, ◌∙◌, arith, length-append}
use Rattle.std.specs.List.{flat_map}
use Rattle.std.proofs.KnownBytes.{Appends-trans}
use Rattle.locked_office.specs.Calls.{office_with}
use Rattle.session_reports.specs.form.Forms.{outcome_as}
use Rattle.socket_pump.specs.Last.{PumpView, last_of}
use Rattle.stored_runs.specs.durable.Letting.{LetsOut}
use Rattle.office_stations.specs.declared.turning.Turning.TheVariants.{Adaptive}
use Rattle.office_stations.specs.Rounds.{Standing, Turns}
use Rattle.office_stations.specs.Sessions.{finished_of}
use Rattle.office_stations.specs.refinement.Standings.{standing}
use Rattle.stored_runs.proofs.Outcomes.{both}
use Rattle.stored_runs.proofs.Growing.{looks_begin, lets_out_on}
use Rattle.stored_runs.proofs.Running.{turned_and_looked}
use Rattle.serving.specs.declared.fault.ServeFault.TheVariants.{Run}
use Rattle.serving.specs.refinement.Telling.{SaidOrNot}
use Rattle.serving.proofs.Rounding.{unless}
use Rattle.serving.proofs.Untold.{later_of, run_unless, said_before, stood_within, unknown, untold_fault}
use Rattle.serving.proofs.telling.turn_and_tell.Goals as goal

-- ---- its turn breaks off

pub returns-in-Err-clause-later : goal.returns-in-Err-clause-later
returns-in-Err-clause-later g c = later_of c.args.pass.now.seen c.turn_once.new.pass.seen c.args.books.now.stood c.turn_once.new.stood c.requires.within c.turn_once.ensures.grows c.turn_once.ensures.steps

pub returns-in-Err-clause-untold : goal.returns-in-Err-clause-untold
returns-in-Err-clause-untold g c =
    unless (Some (Run c.in-Err.fault)) (SaidOrNot (g.O.Write.contents c.args.out.now) (g.O.Write.contents c.args.out.now) c.args.said.now (length c.args.pass.now.seen) c.turn_once.new.stood) (inl refl)

-- ---- what was said can't be told

pub returns-in-Err-write_some-clause-later : goal.returns-in-Err-write_some-clause-later
returns-in-Err-write_some-clause-later g c = later_of c.args.pass.now.seen c.turn_once.new.pass.seen c.args.books.now.stood c.turn_once.new.stood c.requires.within c.turn_once.ensures.grows c.turn_once.ensures.steps

pub returns-in-Err-write_some-clause-fault : goal.returns-in-Err-write_some-clause-fault
returns-in-Err-write_some-clause-fault g c = untold_fault (g.T.Store.failed c.turn_once.new.store) c.in-Err-write_some.fault c.in-Err-write_some.ensures.fault

pub returns-in-Err-write_some-clause-untold : goal.returns-in-Err-write_some-clause-untold
returns-in-Err-write_some-clause-untold g c =
    unknown c.in-Err-write_some.fault (SaidOrNot (g.O.Write.contents c.args.out.now) (g.O.Write.contents c.write_some.new.out) c.args.said.now (length c.args.pass.now.seen) c.turn_once.new.stood) c.in-Err-write_some.ensures.fault

-- ---- what finished doesn't stand, or can't be told

pub returns-in-Err-stand_and_tell-clause-grows : goal.returns-in-Err-stand_and_tell-clause-grows
returns-in-Err-stand_and_tell-clause-grows g c =
    both c.args.pass.now.seen c.turn_once.new.pass.seen c.stand_and_tell.new.pass.seen c.turn_once.ensures.grows (looks_begin c.args.desk.now.key c.turn_once.new.pass c.stand_and_tell.new.pass c.stand_and_tell.ensures.looked)

pub returns-in-Err-stand_and_tell-clause-later : goal.returns-in-Err-stand_and_tell-clause-later
returns-in-Err-stand_and_tell-clause-later g c =
    let looked = looks_begin c.args.desk.now.key c.turn_once.new.pass c.stand_and_tell.new.pass c.stand_and_tell.ensures.looked in
    let first = later_of c.args.pass.now.seen c.turn_once.new.pass.seen c.args.books.now.stood c.turn_once.new.stood c.requires.within c.turn_once.ensures.grows c.turn_once.ensures.steps in
    let second = later_of c.turn_once.new.pass.seen c.stand_and_tell.new.pass.seen c.turn_once.new.stood c.stand_and_tell.new.books.stood c.turn_once.ensures.within looked c.stand_and_tell.ensures.steps in
    omega (arith, first, second)

pub returns-in-Err-stand_and_tell-clause-within : goal.returns-in-Err-stand_and_tell-clause-within
returns-in-Err-stand_and_tell-clause-within g c =
    let looked = looks_begin c.args.desk.now.key c.turn_once.new.pass c.stand_and_tell.new.pass c.stand_and_tell.ensures.looked in
    stood_within c.turn_once.new.pass.seen c.stand_and_tell.new.pass.seen c.turn_once.new.stood c.stand_and_tell.new.books.stood c.turn_once.ensures.within looked c.stand_and_tell.ensures.steps

pub returns-in-Err-stand_and_tell-clause-lets_out : goal.returns-in-Err-stand_and_tell-clause-lets_out
returns-in-Err-stand_and_tell-clause-lets_out g c =
    let looked = looks_begin c.args.desk.now.key c.turn_once.new.pass c.stand_and_tell.new.pass c.stand_and_tell.ensures.looked in
    let second = later_of c.turn_once.new.pass.seen c.stand_and_tell.new.pass.seen c.turn_once.new.stood c.stand_and_tell.new.books.stood c.turn_once.ensures.within looked c.stand_and_tell.ensures.steps in
    lets_out_on g.S.Wire.tells c.args.pass.now.tag (g.S.Wire.account c.args.station.now.socket) (g.S.Wire.account c.turn_once.new.station.socket) c.turn_once.new.pass.seen c.stand_and_tell.new.pass.seen c.turn_once.new.stood c.stand_and_tell.new.books.stood second looked c.turn_once.ensures.lets_out

pub returns-in-Err-stand_and_tell-clause-untold : goal.returns-in-Err-stand_and_tell-clause-untold
returns-in-Err-stand_and_tell-clause-untold g c =
    let looked = looks_begin c.args.desk.now.key c.turn_once.new.pass c.stand_and_tell.new.pass c.stand_and_tell.ensures.looked in
    let second = later_of c.turn_once.new.pass.seen c.stand_and_tell.new.pass.seen c.turn_once.new.stood c.stand_and_tell.new.books.stood c.turn_once.ensures.within looked c.stand_and_tell.ensures.steps in
    let grown : length c.args.pass.now.seen ≤ c.stand_and_tell.new.books.stood =
    omega (arith, second, c.in-Ok.ensures.all, ap length c.turn_once.ensures.grows.1, length-append c.args.pass.now.seen c.turn_once.ensures.grows.0) in
    run_unless c.in-Err-stand_and_tell.fault (g.O.Write.contents c.stand_and_tell.new.out ≡ g.O.Write.contents c.write_some.new.out)
    (SaidOrNot (g.O.Write.contents c.args.out.now) (g.O.Write.contents c.stand_and_tell.new.out) c.args.said.now (length c.args.pass.now.seen) c.stand_and_tell.new.books.stood)
    (said_before (g.O.Write.contents c.args.out.now) (g.O.Write.contents c.write_some.new.out) (g.O.Write.contents c.stand_and_tell.new.out) c.args.said.now (length c.args.pass.now.seen) c.stand_and_tell.new.books.stood c.in-Ok-write_some.ensures.written grown)
    c.in-Err-stand_and_tell.ensures.untold

-- ---- all is told

pub returns-clause-key : goal.returns-clause-key
returns-clause-key g c = ap (λ (v : PumpView). v.key) (c.tell.ensures.pump ∙ c.note_finished.ensures.pump) ∙ c.turn_once.ensures.key

pub returns-clause-grows : goal.returns-clause-grows
returns-clause-grows g c =
    both c.args.pass.now.seen c.turn_once.new.pass.seen c.stand_and_tell.new.pass.seen c.turn_once.ensures.grows (looks_begin c.args.desk.now.key c.turn_once.new.pass c.stand_and_tell.new.pass c.stand_and_tell.ensures.looked)

pub returns-clause-later : goal.returns-clause-later
returns-clause-later g c =
    let looked = looks_begin c.args.desk.now.key c.turn_once.new.pass c.stand_and_tell.new.pass c.stand_and_tell.ensures.looked in
    let first = later_of c.args.pass.now.seen c.turn_once.new.pass.seen c.args.books.now.stood c.turn_once.new.stood c.requires.within c.turn_once.ensures.grows c.turn_once.ensures.steps in
    let second = later_of c.turn_once.new.pass.seen c.stand_and_tell.new.pass.seen c.turn_once.new.stood c.stand_and_tell.new.books.stood c.turn_once.ensures.within looked c.stand_and_tell.ensures.steps in
    omega (arith, first, second)

pub returns-clause-lets_out : goal.returns-clause-lets_out
returns-clause-lets_out g c =
    let looked = looks_begin c.args.desk.now.key c.turn_once.new.pass c.stand_and_tell.new.pass c.stand_and_tell.ensures.looked in
    let second = later_of c.turn_once.new.pass.seen c.stand_and_tell.new.pass.seen c.turn_once.new.stood c.stand_and_tell.new.books.stood c.turn_once.ensures.within looked c.stand_and_tell.ensures.steps in
    let a = g.S.Wire.account c.args.station.now.socket in
    let socket : c.tell.new.self.socket ≡ c.turn_once.new.station.socket = c.tell.ensures.socket ∙ c.note_finished.ensures.socket in
    subst (λ s. LetsOut g.S.Wire.tells c.args.pass.now.tag a (g.S.Wire.account s) c.stand_and_tell.new.pass.seen c.stand_and_tell.new.books.stood) (sym socket)
    (lets_out_on g.S.Wire.tells c.args.pass.now.tag a (g.S.Wire.account c.turn_once.new.station.socket) c.turn_once.new.pass.seen c.stand_and_tell.new.pass.seen c.turn_once.new.stood c.stand_and_tell.new.books.stood second looked c.turn_once.ensures.lets_out)

pub returns-clause-legal : goal.returns-clause-legal
returns-clause-legal g c = c.stand_and_tell.ensures.looked.1.legal

pub returns-clause-turns : goal.returns-clause-turns
returns-clause-turns g c =
    let k = c.args.desk.now.key in
    let d = g.S.Wire.account c.turn_once.new.station.socket in
    let socket : c.tell.new.self.socket ≡ c.turn_once.new.station.socket = c.tell.ensures.socket ∙ c.note_finished.ensures.socket in
    let pump : c.tell.new.self.pump ≡ c.turn_once.new.station.pump = c.tell.ensures.pump ∙ c.note_finished.ensures.pump in
    let begin : Standing = standing c.args.pass.now (g.S.Wire.account c.args.station.now.socket) (last_of c.args.station.now.pump.lasts) in
    let end : Standing = standing c.turn_once.new.pass d (last_of c.turn_once.new.station.pump.lasts) in
    let done = turned_and_looked g.S.Wire.tells c.args.pass.now.tag k c.in-Ok.turn begin end c.stand_and_tell.new.pass c.in-Ok.ensures.turns c.stand_and_tell.ensures.looked in
    subst (λ (v : PumpView). Turns Adaptive g.S.Wire.tells c.args.pass.now.tag k c.in-Ok.turn begin (standing c.stand_and_tell.new.pass (g.S.Wire.account c.tell.new.self.socket) (last_of v.lasts))) (sym pump)
    (subst (λ s. Turns Adaptive g.S.Wire.tells c.args.pass.now.tag k c.in-Ok.turn begin (standing c.stand_and_tell.new.pass (g.S.Wire.account s) (last_of c.turn_once.new.station.pump.lasts))) (sym socket) done)

pub returns-clause-lines : goal.returns-clause-lines
returns-clause-lines g c =
    let k = c.args.desk.now.key in
    Appends-trans (g.O.Write.contents c.args.out.now) (g.O.Write.contents c.write_some.new.out) (g.O.Write.contents c.stand_and_tell.new.out) c.args.said.now (flat_map (outcome_as c.args.form c.args.plan.now) (drop c.args.books.now.told (finished_of (office_with k c.stand_and_tell.new.pass.seen)))) c.in-Ok-write_some.ensures.written
    c.in-Ok-stand_and_tell.ensures.lines
