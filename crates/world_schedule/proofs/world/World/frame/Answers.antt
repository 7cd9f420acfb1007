use Rattle.std.proofs.Common.{◌≡◌, ◌-◌, ◌<◌, ◌≤◌, length, get_or, sym, ap, subst, ◌∙◌, arith}
use Rattle.std.proofs.lemmas.Bool.{ltb-false}
use Rattle.world_schedule.proofs.SentEntries.{frame_past, office_there, frame_here}
use Rattle.world_schedule.proofs.world.World.frame.Goals as goal

pub returns-in_err-sent : goal.returns-in_err-sent
returns-in_err-sent c =
    let w = c.self.inside in
    let past : length w.sent.items ≤ c.args.k - 1 = subst (λ l. length l ≤ c.args.k - 1) c.deref.ensures.value (ltb-false _ _ (sym c.in_err-sent.ensures.lookup.0)) in
    c.from_residual.ensures ∙ frame_past w.plan w.offices.items w.sent.items w.finished.items c.args.self.now c.args.k c.self.view_is c.if-k-eq0.false past

pub index-requires-2 : goal.index-requires-2
index-requires-2 c =
    let w = c.self.inside in
    let m = c.in_ok-sent.sent.now in
    let found = c.in_ok-sent.ensures.lookup in
    let lt : c.args.k - 1 < length w.sent.items = subst (λ l. c.args.k - 1 < length l) c.deref.ensures.value found.3.0 in
    let is : m ≡ get_or w.sent.items (c.args.k - 1) m = found.1 ∙ ap (λ l. get_or l (c.args.k - 1) m) c.deref.ensures.value in
    omega (arith, c.index.ensures, office_there w.plan w.offices.items w.sent.items (c.args.k - 1) m c.self.invariant.1 lt is)

pub returns : goal.returns
returns c =
    let w = c.self.inside in
    let m = c.in_ok-sent.sent.now in
    let s = c.index-2.result.now in
    let found = c.in_ok-sent.ensures.lookup in
    let lt : c.args.k - 1 < length w.sent.items = subst (λ l. c.args.k - 1 < length l) c.deref.ensures.value found.3.0 in
    let is : m ≡ get_or w.sent.items (c.args.k - 1) m = found.1 ∙ ap (λ l. get_or l (c.args.k - 1) m) c.deref.ensures.value in
    c.frame_told.ensures
    ∙ frame_here w.plan w.offices.items w.sent.items w.finished.items c.args.self.now c.args.k m s c.self.view_is c.self.invariant.1 c.if-k-eq0.false lt is (c.index-2.ensures ∙ ap (λ k. get_or w.offices.items k s) c.index.ensures)
