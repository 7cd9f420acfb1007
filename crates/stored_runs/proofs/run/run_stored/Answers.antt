use Rattle.std.proofs.Common.{rules, ◌≡◌, ℕ, List, length, drop, Option, refl, sym, ap, subst, ◌∙◌}
use mathlib.Core.List.{IsPrefix}
use Rattle.std.specs.Result.{result_err}
use Rattle.session_meaning.specs.declared.ending.Outcome.{Outcome}
use Rattle.office_journal.specs.declared.event.Entry.{Entry}
use Rattle.locked_office.specs.Calls.{Key, DeskPass, office_with}
use Rattle.socket_pump.specs.Last.{last_of}
use Rattle.stored_runs.specs.durable.Letting.{LetsOut}
use Rattle.office_stations.specs.Rounds.{Standing, of_office}
use Rattle.office_stations.specs.Sessions.{finished_of}
use Rattle.office_stations.specs.refinement.Standings.{standing}
use Rattle.stored_runs.specs.declared.fault.StoredFault.{StoredFault}
use Rattle.stored_runs.specs.Runs.{told_text, finished_by, Goes, IsToldBy, Unless}
use Rattle.stored_runs.specs.refinement.Running.{TellsAfter}
use Rattle.stored_runs.proofs.Goes.{ok_none, site_is, whole}
use Rattle.stored_runs.proofs.run.run_stored.Goals as goal

pub returns-clause-goes_on : goal.returns-clause-goes_on
returns-clause-goes_on g c =
    let p = c.args.plan.now in
    let me = c.args.me in
    let k : Key = c.in_ok-desk.desk.key in
    let kept = c.args.kept in
    let first : Standing = standing c.in_ok-desk.pass (g.S.Wire.account c.args.station.now.socket) (last_of c.args.station.now.pump.lasts) in
    let last : Standing = standing c.start.new.pass (g.S.Wire.account c.start.new.station.socket) (last_of c.start.new.station.pump.lasts) in
    let site : kept.site ≡ office_with (p, me) kept.site.entries = site_is kept.site p me c.requires.site in
    let key : k ≡ (p, me) = search rules in
    let tag : c.in_ok-desk.pass.tag ≡ 0 = ap (λ (x : DeskPass). x.tag) c.in_ok-desk.ensures.pass in
    let seen : c.in_ok-desk.pass.seen ≡ kept.site.entries = search rules in
    let next : c.kept.inside.next ≡ kept.next = search rules in
    let office : kept.site ≡ office_with k kept.site.entries = site ∙ ap (λ (x : Key). office_with x kept.site.entries) (sym key) in
    let fault : result_err c.start.result ≡ c.err-fault.result = sym c.err-fault.ensures.value in
    let done : c.outcomes.result.now ≡ finished_of kept.site = search rules in
    let done_too : c.outcomes-2.result.now ≡ finished_of kept.site = search rules in
    let there : finished_of kept.site ≡ finished_of (office_with k kept.site.entries) = ap finished_of office in
    let text : c.deref.result.now ≡ told_text c.args.form p (length c.outcomes-2.result.now) c.outcomes-2.result.now = search rules in
    let tells = g.S.Wire.tells in
    let a = g.S.Wire.account c.args.station.now.socket in
    let b = g.S.Wire.account c.start.new.station.socket in
    let old = g.O.Write.contents c.args.out.now in
    let mid = g.O.Write.contents c.start.new.out in
    let n : ℕ = length c.outcomes.result.now in
    whole (IsToldBy g.S.Wire.account) c.args.form tells p me c.args.programs.now c.args.turns kept (g.T.Store.stood c.start.new.store) a b _ c.err-fault.result c.deref.result.now first last c.remarks-remarks.new.pass c.start.new.books.stood n c.start.new.books.told old mid (g.O.Write.contents c.tell_end-fault.new.out) k
    (record {
      grows = subst (λ (l : List Entry). IsPrefix l c.start.new.pass.seen) seen c.start.ensures.grows;
      goes = subst (λ (f : Option StoredFault). Goes (IsToldBy g.S.Wire.account) f tells k c.args.turns first last (of_office me (drop kept.next c.args.programs.now))) fault
          (subst (λ (m : ℕ). Goes (IsToldBy g.S.Wire.account) (result_err c.start.result) tells k c.args.turns first last (of_office me (drop m c.args.programs.now))) next c.start.ensures.goes);
      looked = c.remarks-remarks.ensures.looked;
      within = c.start.ensures.within;
      all = λ none. ok_none c.start.result (c.start.new.books.stood ≡ length c.start.new.pass.seen) c.start.ensures.all (fault ∙ none);
      has = c.start.ensures.has;
      all_told = λ none. ok_none c.start.result (c.start.new.books.told ≡ length (finished_by k c.start.new.pass.seen c.start.new.books.stood)) c.start.ensures.all_told (fault ∙ none);
      before = text ∙ ap (λ (l : List Outcome). told_text c.args.form p (length l) l) (done_too ∙ there) ∙ ap (λ (l : List Outcome). told_text c.args.form p (length l) (finished_of (office_with k kept.site.entries))) (sym (done ∙ there));
      count = ap length (done ∙ there);
      tells_after = subst (λ (f : Option StoredFault). Unless f (TellsAfter c.deref.result.now c.args.form p k c.start.new.pass.seen (length kept.site.entries) c.start.new.books.stood n c.start.new.books.told old mid)) fault
          (subst (λ (l : List Entry). Unless (result_err c.start.result) (TellsAfter c.deref.result.now c.args.form p k c.start.new.pass.seen (length l) c.start.new.books.stood n c.start.new.books.told old mid)) seen c.start.ensures.told);
    })
    key site (tag, seen, refl, c.requires.last) refl (subst (λ (t : ℕ). LetsOut tells t a b c.start.new.pass.seen c.start.new.books.stood) tag c.start.ensures.lets_out) c.tell_end-fault.ensures (search rules)
