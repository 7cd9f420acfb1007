use Rattle.std.proofs.Common.{List, length, inl, inr, sym, ap, subst, ◌∙◌, ⊎_elim}
use Rattle.journal_weave.specs.ReplayValue.{ReplayValue}
use Rattle.journal_weave.specs.Replays.{AreReplays, IsRecord}
use Rattle.day_audits.proofs.audit_lemmas.Telling.{left_by, tells_woven, tells_unwoven}
use Rattle.day_audits.proofs.audit.auditing.told.Goals as goal

pub woven-requires : goal.woven-requires
woven-requires c = ap length c.deref.ensures.value ∙ c.requires.one_each

pub world_of-requires : goal.world_of-requires
world_of-requires c =
    let p = c.args.plan.now in
    let rs = c.args.replays.items in
    let js = c.requires.follow.0 in
    let are = subst (λ (l : List ReplayValue). AreReplays p js l) (sym c.deref.ensures.value) c.requires.follow.1 in
    let h = subst (λ (l : List ReplayValue). IsRecord p js l c.in-Ok.left.sent.items c.in-Ok.left.finished.items) c.deref.ensures.value (c.in-Ok.ensures.woven js are) in
    (h.events, left_by p js rs c.in-Ok.left.sent.items c.in-Ok.left.finished.items h)

pub returns-in_ok-text-in-Ok-clause-woven : goal.returns-in_ok-text-in-Ok-clause-woven
returns-in_ok-text-in-Ok-clause-woven c js follow =
    let p = c.args.plan.now in
    let rs = c.args.replays.items in
    let are = subst (λ (l : List ReplayValue). AreReplays p js l) (sym c.deref.ensures.value) follow in
    let h = subst (λ (l : List ReplayValue). IsRecord p js l c.in-Ok.left.sent.items c.in-Ok.left.finished.items) c.deref.ensures.value (c.in-Ok.ensures.woven js are) in
    tells_woven c.args.form p js rs c.in-Ok.left.sent.items c.in-Ok.left.finished.items _ _ h c.in_ok-world-in-Ok.ensures c.in_ok-text-in-Ok.ensures

pub returns-in_ok-text-in-Err-clause-unwoven : goal.returns-in_ok-text-in-Err-clause-unwoven
returns-in_ok-text-in-Err-clause-unwoven c js follow =
    let p = c.args.plan.now in
    let are = subst (λ (l : List ReplayValue). AreReplays p js l) (sym c.deref.ensures.value) follow in
    tells_unwoven c.args.form p js c.in-Err.fault _ c.in_ok-text-in-Err.ensures (c.in-Err.ensures.unwoven js are) (⊎_elim (λ memory. inl memory) (λ never. inr (never js are)) c.in-Err.ensures.never)
