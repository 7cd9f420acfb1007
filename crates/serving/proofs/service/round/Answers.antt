use Rattle.std.proofs.Common.{rules, ◌≡◌, ℕ, List, [], ◌∷◌, ◌++◌, length, take, drop, Some, refl, sym, ap, subst, ◌∙◌, arith}
use Rattle.std.specs.Prelude.{IfOk, OnOk}
use Rattle.std.specs.List.{flat_map}
use Rattle.std.specs.String.{string_bytes}
use Rattle.std.specs.Io.KnownBytes.{Appends}
use mathlib.Core.List.{IsPrefix}
use Rattle.office_map.specs.PlanValue.{PlanValue}
use Rattle.locked_office.specs.Calls.{Key, office_with}
use Rattle.session_reports.specs.form.Forms.{outcome_as}
use Rattle.socket_pump.specs.Last.{PumpView, last_of}
use Rattle.stored_runs.specs.durable.Letting.{LetsOut}
use Rattle.stored_runs.specs.durable.LettingLaws.{has_on}
use Rattle.office_stations.specs.declared.pace.TimedTurn.{TimedTurn}
use Rattle.office_stations.specs.declared.turning.Turning.TheVariants.{Adaptive}
use Rattle.office_stations.specs.Rounds.{Standing, Turns}
use Rattle.office_stations.specs.Sessions.{finished_of}
use Rattle.office_stations.specs.refinement.Standings.{standing}
use Rattle.stored_runs.proofs.Outcomes.{both}
use Rattle.stored_runs.proofs.Growing.{looks_begin, no_datagram, within_on}
use Rattle.serving.specs.answers.Said.{Said, said_as}
use Rattle.serving.specs.declared.fault.ServeFault.{ServeFault}
use Rattle.serving.specs.Rounds.{AnswersSome, CutOff, StopsAnswering}
use Rattle.serving.specs.Serving.{Unless}
use Rattle.serving.specs.refinement.Telling.{SaidOrNot}
use Rattle.serving.specs.refinement.Rounding.{RoundCut}
use Rattle.serving.proofs.Answering.{lack_begin, mid_begin, some_begin, stops_begin}
use Rattle.serving.proofs.Rounding.{begins_first, cut_from, if_err, made_of, unless_then}
use Rattle.serving.proofs.Untold.{later_of, stood_within}
use Rattle.serving.proofs.service.round.Goals as goal

-- ---- the office lacks something

pub tell_before_lack-requires-clause-has : goal.tell_before_lack-requires-clause-has
tell_before_lack-requires-clause-has g c =
    let grown = stops_begin c.args.form c.args.pass.now.tag c.args.desk.now.key c.args.pass.now c.answer_some.new.pass c.args.waiting.now.items c.in-Err.lack (string_bytes c.clear.new.self) (string_bytes c.answer_some.new.text) c.in-Err.ensures.stops in
    has_on (g.T.Store.stood c.args.store.now) c.args.desk.now.key c.args.pass.now.seen c.answer_some.new.pass.seen c.args.books.now.stood (omega (arith, c.requires.all)) grown c.requires.has

pub tell_before_lack-requires-clause-within : goal.tell_before_lack-requires-clause-within
tell_before_lack-requires-clause-within g c =
    let grown = stops_begin c.args.form c.args.pass.now.tag c.args.desk.now.key c.args.pass.now c.answer_some.new.pass c.args.waiting.now.items c.in-Err.lack (string_bytes c.clear.new.self) (string_bytes c.answer_some.new.text) c.in-Err.ensures.stops in
    within_on c.args.books.now.stood c.args.pass.now.seen c.answer_some.new.pass.seen (omega (arith, c.requires.all)) grown

pub returns-in-Err-clause-grows : goal.returns-in-Err-clause-grows
returns-in-Err-clause-grows g c =
    let grown = stops_begin c.args.form c.args.pass.now.tag c.args.desk.now.key c.args.pass.now c.answer_some.new.pass c.args.waiting.now.items c.in-Err.lack (string_bytes c.clear.new.self) (string_bytes c.answer_some.new.text) c.in-Err.ensures.stops in
    both c.args.pass.now.seen c.answer_some.new.pass.seen c.tell_before_lack.new.pass.seen grown (looks_begin c.args.desk.now.key c.answer_some.new.pass c.tell_before_lack.new.pass c.tell_before_lack.ensures.looked)

pub returns-in-Err-clause-later : goal.returns-in-Err-clause-later
returns-in-Err-clause-later g c =
    let grown = stops_begin c.args.form c.args.pass.now.tag c.args.desk.now.key c.args.pass.now c.answer_some.new.pass c.args.waiting.now.items c.in-Err.lack (string_bytes c.clear.new.self) (string_bytes c.answer_some.new.text) c.in-Err.ensures.stops in
    let all = both c.args.pass.now.seen c.answer_some.new.pass.seen c.tell_before_lack.new.pass.seen grown (looks_begin c.args.desk.now.key c.answer_some.new.pass c.tell_before_lack.new.pass c.tell_before_lack.ensures.looked) in
    later_of c.args.pass.now.seen c.tell_before_lack.new.pass.seen c.args.books.now.stood c.tell_before_lack.new.books.stood (omega (arith, c.requires.all)) all c.tell_before_lack.ensures.steps

pub returns-in-Err-clause-within : goal.returns-in-Err-clause-within
returns-in-Err-clause-within g c =
    let grown = stops_begin c.args.form c.args.pass.now.tag c.args.desk.now.key c.args.pass.now c.answer_some.new.pass c.args.waiting.now.items c.in-Err.lack (string_bytes c.clear.new.self) (string_bytes c.answer_some.new.text) c.in-Err.ensures.stops in
    let all = both c.args.pass.now.seen c.answer_some.new.pass.seen c.tell_before_lack.new.pass.seen grown (looks_begin c.args.desk.now.key c.answer_some.new.pass c.tell_before_lack.new.pass c.tell_before_lack.ensures.looked) in
    stood_within c.args.pass.now.seen c.tell_before_lack.new.pass.seen c.args.books.now.stood c.tell_before_lack.new.books.stood (omega (arith, c.requires.all)) all c.tell_before_lack.ensures.steps

pub returns-in-Err-clause-lets_out : goal.returns-in-Err-clause-lets_out
returns-in-Err-clause-lets_out g c = no_datagram g.S.Wire.tells c.args.pass.now.tag (g.S.Wire.account c.args.station.now.socket) c.tell_before_lack.new.pass.seen c.tell_before_lack.new.books.stood

pub returns-in-Err-clause-cut : goal.returns-in-Err-clause-cut
returns-in-Err-clause-cut g c =
    let k = c.args.desk.now.key in
    let p = c.args.pass.now in
    let m = c.answer_some.new.pass in
    let q = c.tell_before_lack.new.pass in
    let stood = c.tell_before_lack.new.books.stood in
    let waiting = c.args.waiting.now.items in
    let old = g.O.Write.contents c.args.out.now in
    let new = g.O.Write.contents c.tell_before_lack.new.out in
    let empty : string_bytes c.clear.new.self ≡ [] = c.clear.ensures.bytes in
    let text : c.as_str-before.result.now ≡ string_bytes c.answer_some.new.text = search rules in
    let stops : StopsAnswering c.args.form 0 k p m waiting c.in-Err.lack (string_bytes c.clear.new.self) (string_bytes c.answer_some.new.text) =
    subst (λ (x : ℕ). StopsAnswering c.args.form x k p m waiting c.in-Err.lack (string_bytes c.clear.new.self) (string_bytes c.answer_some.new.text)) c.requires.tag c.in-Err.ensures.stops in
    let grown = stops_begin c.args.form 0 k p m waiting c.in-Err.lack (string_bytes c.clear.new.self) (string_bytes c.answer_some.new.text) stops in
    let looked = looks_begin k m q c.tell_before_lack.ensures.looked in
    let all = both p.seen m.seen q.seen grown looked in
    let later = later_of p.seen q.seen c.args.books.now.stood stood (omega (arith, c.requires.all)) all c.tell_before_lack.ensures.steps in
    let begins : IsPrefix p.seen (take stood q.seen) = begins_first stood p.seen q.seen (omega (arith, later, c.requires.all)) all in
    let lines : c.as_str-before.result.now ≡ flat_map (said_as c.args.form k.0) stops.said = text ∙ stops.lines ∙ ap (λ l. l ++ flat_map (said_as c.args.form k.0) stops.said) empty in
    unless_then (Some c.tell_before_lack.result) (SaidOrNot old new c.as_str-before.result.now (length m.seen) stood) ((ws : List Said) × CutOff 0 k p waiting ws (take stood q.seen) × Appends old new (flat_map (said_as c.args.form k.0) ws))
    (cut_from c.args.form k p stops.mid m waiting stops.asked (stops.next ∷ stops.left) stops.said q.seen (length m.seen) stood c.as_str-before.result.now old new stops.are stops.answers begins (lack_begin c.args.form 0 k p m waiting c.in-Err.lack (string_bytes c.clear.new.self) (string_bytes c.answer_some.new.text) stops) looked refl lines)
    c.tell_before_lack.ensures.told

-- ---- it turns

pub turn_and_tell-requires-clause-key : goal.turn_and_tell-requires-clause-key
turn_and_tell-requires-clause-key g c = c.requires.key ∙ sym (ap (λ (v : PumpView). v.key) c.hurry_for.ensures.pump)

pub turn_and_tell-requires-clause-has : goal.turn_and_tell-requires-clause-has
turn_and_tell-requires-clause-has g c =
    let answers = c.in-Ok.ensures.answers in
    let grown = some_begin c.args.pass.now.tag c.args.desk.now.key c.args.pass.now c.answer_some.new.pass c.args.waiting.now.items c.answer_some.new.waiting.items answers.0 answers.1 in
    has_on (g.T.Store.stood c.args.store.now) c.args.desk.now.key c.args.pass.now.seen c.answer_some.new.pass.seen c.args.books.now.stood (omega (arith, c.requires.all)) grown c.requires.has

pub turn_and_tell-requires-clause-within : goal.turn_and_tell-requires-clause-within
turn_and_tell-requires-clause-within g c =
    let answers = c.in-Ok.ensures.answers in
    let grown = some_begin c.args.pass.now.tag c.args.desk.now.key c.args.pass.now c.answer_some.new.pass c.args.waiting.now.items c.answer_some.new.waiting.items answers.0 answers.1 in
    within_on c.args.books.now.stood c.args.pass.now.seen c.answer_some.new.pass.seen (omega (arith, c.requires.all)) grown

pub returns-clause-key : goal.returns-clause-key
returns-clause-key g c = c.turn_and_tell.ensures.key ∙ ap (λ (v : PumpView). v.key) c.hurry_for.ensures.pump

pub returns-clause-grows : goal.returns-clause-grows
returns-clause-grows g c =
    let answers = c.in-Ok.ensures.answers in
    let grown = some_begin c.args.pass.now.tag c.args.desk.now.key c.args.pass.now c.answer_some.new.pass c.args.waiting.now.items c.answer_some.new.waiting.items answers.0 answers.1 in
    both c.args.pass.now.seen c.answer_some.new.pass.seen c.turn_and_tell.new.pass.seen grown c.turn_and_tell.ensures.grows

pub returns-clause-lets_out : goal.returns-clause-lets_out
returns-clause-lets_out g c =
    subst (λ s. LetsOut g.S.Wire.tells c.args.pass.now.tag (g.S.Wire.account s) (g.S.Wire.account c.turn_and_tell.new.station.socket) c.turn_and_tell.new.pass.seen c.turn_and_tell.new.books.stood) c.hurry_for.ensures.socket
    (subst (λ (x : ℕ). LetsOut g.S.Wire.tells x (g.S.Wire.account c.hurry_for.new.station.socket) (g.S.Wire.account c.turn_and_tell.new.station.socket) c.turn_and_tell.new.pass.seen c.turn_and_tell.new.books.stood) c.answer_some.ensures.stays.1 c.turn_and_tell.ensures.lets_out)

pub returns-clause-made : goal.returns-clause-made
returns-clause-made g c =
    let k = c.args.desk.now.key in
    let p = c.args.pass.now in
    let m = c.answer_some.new.pass in
    let q = c.turn_and_tell.new.pass in
    let waiting = c.args.waiting.now.items in
    let left = c.answer_some.new.waiting.items in
    let r = c.turn_and_tell.result in
    let old = g.O.Write.contents c.args.out.now in
    let new = g.O.Write.contents c.turn_and_tell.new.out in
    let answers = c.in-Ok.ensures.answers in
    let some : AnswersSome 0 k p m waiting left answers.0 = subst (λ (x : ℕ). AnswersSome x k p m waiting left answers.0) c.requires.tag answers.1 in
    let grown = both p.seen m.seen q.seen (some_begin 0 k p m waiting left answers.0 some) c.turn_and_tell.ensures.grows in
    let empty : string_bytes c.clear.new.self ≡ [] = c.clear.ensures.bytes in
    let begin : Standing = standing p (g.S.Wire.account c.args.station.now.socket) (last_of c.args.station.now.pump.lasts) in
    let end : Standing = standing q (g.S.Wire.account c.turn_and_tell.new.station.socket) (last_of c.turn_and_tell.new.station.pump.lasts) in
    let turns : IfOk r (λ (t : TimedTurn). Turns Adaptive g.S.Wire.tells 0 k t (standing m (g.S.Wire.account c.args.station.now.socket) (last_of c.args.station.now.pump.lasts)) end) =
    subst (λ (x : ℕ). IfOk r (λ (t : TimedTurn). Turns Adaptive g.S.Wire.tells x k t (standing m (g.S.Wire.account c.args.station.now.socket) (last_of c.args.station.now.pump.lasts)) end)) (c.answer_some.ensures.stays.1 ∙ c.requires.tag)
    (subst (λ (v : PumpView). IfOk r (λ (t : TimedTurn). Turns Adaptive g.S.Wire.tells m.tag k t (standing m (g.S.Wire.account c.args.station.now.socket) (last_of v.lasts)) end)) c.hurry_for.ensures.pump
    (subst (λ s. IfOk r (λ (t : TimedTurn). Turns Adaptive g.S.Wire.tells m.tag k t (standing m (g.S.Wire.account s) (last_of c.hurry_for.new.station.pump.lasts)) end)) c.hurry_for.ensures.socket c.turn_and_tell.ensures.turns)) in
    let said = c.as_str-lines.result.now in
    let same : said ≡ string_bytes c.answer_some.new.text = search rules in
    let lines : said ≡ flat_map (said_as c.args.form k.0) answers.0 = same ∙ answers.2 ∙ ap (λ l. l ++ flat_map (said_as c.args.form k.0) answers.0) empty in
    let wrote = subst (λ (x : PlanValue). OnOk r (Appends old new (said ++ flat_map (outcome_as c.args.form x) (drop c.args.books.now.told (finished_of (office_with k q.seen)))))) (sym (ap (λ (x : Key). x.0) c.requires.is)) c.turn_and_tell.ensures.lines in
    made_of c.args.form g.S.Wire.tells k r answers.0 p m q begin end c.args.books.now.told waiting left said old new refl refl grown c.requires.told some lines turns c.turn_and_tell.ensures.legal wrote

pub returns-clause-cut : goal.returns-clause-cut
returns-clause-cut g c =
    let k = c.args.desk.now.key in
    let p = c.args.pass.now in
    let m = c.answer_some.new.pass in
    let q = c.turn_and_tell.new.pass in
    let stood = c.turn_and_tell.new.books.stood in
    let waiting = c.args.waiting.now.items in
    let left = c.answer_some.new.waiting.items in
    let old = g.O.Write.contents c.args.out.now in
    let new = g.O.Write.contents c.turn_and_tell.new.out in
    let answers = c.in-Ok.ensures.answers in
    let some : AnswersSome 0 k p m waiting left answers.0 = subst (λ (x : ℕ). AnswersSome x k p m waiting left answers.0) c.requires.tag answers.1 in
    let first = some_begin 0 k p m waiting left answers.0 some in
    let all = both p.seen m.seen q.seen first c.turn_and_tell.ensures.grows in
    let empty : string_bytes c.clear.new.self ≡ [] = c.clear.ensures.bytes in
    let said = c.as_str-lines.result.now in
    let same : said ≡ string_bytes c.answer_some.new.text = search rules in
    let lines : said ≡ flat_map (said_as c.args.form k.0) answers.0 = same ∙ answers.2 ∙ ap (λ l. l ++ flat_map (said_as c.args.form k.0) answers.0) empty in
    let begins : IsPrefix p.seen (take stood q.seen) = begins_first stood p.seen q.seen (omega (arith, c.turn_and_tell.ensures.later, c.requires.all)) all in
    if_err c.turn_and_tell.result (λ (f : ServeFault). Unless (Some f) (SaidOrNot old new said (length m.seen) stood)) (λ (f : ServeFault). RoundCut c.args.form f k p waiting (take stood q.seen) old new)
    (λ f. unless_then (Some f) (SaidOrNot old new said (length m.seen) stood) ((ws : List Said) × CutOff 0 k p waiting ws (take stood q.seen) × Appends old new (flat_map (said_as c.args.form k.0) ws))
    (cut_from c.args.form k p some.mid m waiting some.asked left answers.0 q.seen (length m.seen) stood said old new some.are some.answers begins (mid_begin 0 k p m waiting left answers.0 some) c.turn_and_tell.ensures.grows refl lines)) c.turn_and_tell.ensures.untold
