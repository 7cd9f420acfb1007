use Rattle.std.proofs.Common.{rules, ◌≡◌, ℕ, List, length, take, Option, refl, sym, ap, subst, ◌∙◌}
use Rattle.std.specs.Prelude.{IfSome}
use Rattle.std.specs.Result.{result_err}
use Rattle.office_journal.specs.declared.event.Entry.{Entry}
use Rattle.site_core.specs.Journals.{Site}
use Rattle.locked_office.specs.Calls.{Key, DeskPass}
use Rattle.stored_runs.specs.durable.Letting.{LetsOut}
use Rattle.socket_pump.specs.Last.{last_of}
use Rattle.office_stations.specs.Rounds.{Standing}
use Rattle.office_stations.specs.refinement.Standings.{standing}
use Rattle.stored_runs.specs.Keeping.{HasText}
use Rattle.stored_runs.specs.Runs.{IsToldBy}
use Rattle.serving.specs.answers.Said.{ready_as}
use Rattle.serving.specs.answers.Answers.{tickets_of}
use Rattle.serving.specs.declared.fault.ServeFault.{ServeFault}
use Rattle.serving.specs.declared.served.Served.{Served}
use Rattle.serving.specs.Serving.{IsEndBy, Serves}
use Rattle.serving.specs.refinement.Rounding.{WentAfter}
use Rattle.serving.proofs.Whole.{end_by, whole}
use Rattle.serving.proofs.service.serve.Goals as goal

pub start-requires-clause-text : goal.start-requires-clause-text
start-requires-clause-text g c =
    let p = c.args.plan.now in
    let me = c.args.me in
    let kept = c.args.kept in
    let stood = g.T.Store.stood c.args.store.now.store in
    let seen : c.in_ok-desk.pass.seen ≡ kept.site.entries = ap (λ (x : DeskPass). x.seen) c.in_ok-desk.ensures.pass ∙ ap (λ (s : Site). s.entries) c.into_office-office.ensures.site in
    let size : c.bytes-bytes.result ≡ kept.bytes = search rules in
    subst (λ (n : ℕ). IfSome stood (λ text. (length text ≡ n) × HasText p me text c.in_ok-desk.pass.seen)) (sym size) (subst (λ (l : List Entry). IfSome stood (λ text. (length text ≡ kept.bytes) × HasText p me text l)) (sym seen) c.requires.text)

pub returns-clause-serves : goal.returns-clause-serves
returns-clause-serves g c =
    let p = c.args.plan.now in
    let me = c.args.me in
    let k : Key = c.in_ok-desk.desk.key in
    let kept = c.args.kept in
    let tells = g.S.Wire.tells in
    let a = g.S.Wire.account c.args.station.now.socket in
    let b = g.S.Wire.account c.start.new.station.socket in
    let first : Standing = standing c.in_ok-desk.pass a (last_of c.args.station.now.pump.lasts) in
    let key : k ≡ (p, me) = search rules in
    let tag : c.in_ok-desk.pass.tag ≡ 0 = ap (λ (x : DeskPass). x.tag) c.in_ok-desk.ensures.pass in
    let seen : c.in_ok-desk.pass.seen ≡ kept.site.entries = ap (λ (x : DeskPass). x.seen) c.in_ok-desk.ensures.pass ∙ ap (λ (s : Site). s.entries) c.into_office-office.ensures.site in
    let fault : result_err c.start.result ≡ c.err-fault.result = sym c.err-fault.ensures.value in
    let ready : c.deref.result.now ≡ ready_as c.args.form (tickets_of kept.site) = search rules in
    let input : g.I.Read.remaining c.new-incoming.result.input ≡ g.I.Read.remaining c.args.input = ap g.I.Read.remaining c.new-incoming.ensures.input in
    let e : Served = record { unfinished = c.count_unfinished-unfinished.result; fault = c.end-fault.result } in
    let last = c.start.new.pass in
    let stood = c.start.new.books.stood in
    let after = subst (λ (x : Option (List ℕ)). WentAfter (IsToldBy g.S.Wire.account) c.deref.result.now c.args.form tells k x first (take stood last.seen) (result_err c.start.result) (g.O.Write.contents c.args.out.now) (g.O.Write.contents c.start.new.out)) input c.start.ensures.went in
    subst (λ (x : Key). Serves (IsToldBy g.S.Wire.account) c.args.form tells x.0 x.1 kept (g.I.Read.remaining c.args.input) (g.T.Store.stood c.start.new.store.store) a b e (g.O.Write.contents c.args.out.now) (g.O.Write.contents c.end-fault.new.out)) key
    (whole (IsToldBy g.S.Wire.account) c.args.form tells k kept (g.I.Read.remaining c.args.input) (g.T.Store.stood c.start.new.store.store) a b e c.err-fault.result c.deref.result.now first last c.count_unfinished-unfinished.new.pass stood (g.O.Write.contents c.args.out.now) (g.O.Write.contents c.start.new.out) (g.O.Write.contents c.end-fault.new.out)
    (tag, seen, refl, c.requires.last)
    (subst (λ (f : Option ServeFault). WentAfter (IsToldBy g.S.Wire.account) c.deref.result.now c.args.form tells k (g.I.Read.remaining c.args.input) first (take stood last.seen) f (g.O.Write.contents c.args.out.now) (g.O.Write.contents c.start.new.out)) fault after) c.count_unfinished-unfinished.ensures.looked c.start.ensures.within c.start.ensures.has
    (subst (λ (t : ℕ). LetsOut tells t a b last.seen stood) tag c.start.ensures.lets_out) ready c.count_unfinished-unfinished.ensures.count c.end-fault.ensures)

pub returns-clause-fault : goal.returns-clause-fault
returns-clause-fault g c =
    let fault : result_err c.start.result ≡ c.err-fault.result = sym c.err-fault.ensures.value in
    end_by (g.T.Store.failed c.start.new.store.store) c.err-fault.result c.end-fault.result c.end-fault.ensures.still (subst (IsEndBy (g.T.Store.failed c.start.new.store.store)) fault c.start.ensures.fault)
