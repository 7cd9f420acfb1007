use Rattle.std.proofs.Common.{◌≡◌, ◌-◌, ◌≤◌, length, Some, refl, sym, ap, ◌∙◌, subst, arith}
use Rattle.std.specs.Prelude.{slice_get}
use Rattle.std.proofs.lemmas.Bool.{ltb-false}
use Rattle.std.proofs.lemmas.List.{length-map}
use Rattle.std.proofs.lemmas.Option.{slice_get_read, slice_get_within}
use Rattle.journal_weave.specs.refinement.Merging.{told_by}
use Rattle.journal_weave.proofs.SentFrames.{told_there}
use Rattle.journal_weave.proofs.sent.SentFrames.frame_at.Goals as goal

pub returns-then-number-eq0 : goal.returns-then-number-eq0
returns-then-number-eq0 c frames f known sent = absurd (omega (arith, c.if-number-eq0.true, sent.1))

-- as many entries are kept as frames were sent
pub returns-in_err-sent : goal.returns-in_err-sent
returns-in_err-sent c frames f known sent =
    let kept = c.args.self.now.sent.items in
    let past : length kept ≤ c.args.number - 1 = subst (λ l. length l ≤ c.args.number - 1) c.deref.ensures.value (ltb-false _ _ (sym c.in_err-sent.ensures.lookup.0)) in
    absurd (omega (arith, past, sent.1, slice_get_within frames sent.0 f sent.2, ap length known.told, length-map kept (told_by c.args.replays.now), length-map frames Some))

pub returns : goal.returns
returns c frames f known sent =
    let kept = c.args.self.now.sent.items in
    let m = c.in_ok-sent.sent.now in
    let found = c.in_ok-sent.ensures.lookup in
    let at : c.args.number - 1 ≡ sent.0 = omega (arith, sent.1) in
    let read : slice_get kept (c.args.number - 1) ≡ Some m = subst (λ l. slice_get l (c.args.number - 1) ≡ Some m) c.deref.ensures.value (slice_get_read _ _ _ _ refl found.3.0 found.1) in
    let there : slice_get kept sent.0 ≡ Some m = subst (λ n. slice_get kept n ≡ Some m) at read in
    c.told_at.ensures ∙ told_there (told_by c.args.replays.now) kept frames sent.0 m f known.told there sent.2
