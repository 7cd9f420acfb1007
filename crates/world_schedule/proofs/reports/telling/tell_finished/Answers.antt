use Rattle.std.proofs.Common.{◌≡◌, ◌+◌, [], ◌++◌, length, get_or, take, Some, take_all, refl, ap, sym, subst, ◌∙◌, arith}
use Rattle.std.specs.List.{slice_get, flat_map}
use Rattle.std.specs.String.{string_bytes}
use Rattle.std.specs.Io.KnownBytes.{Appends, append_known}
use Rattle.std.proofs.KnownBytes.{Appends-nil, Appends-trans}
use Rattle.std.proofs.lemmas.List.{length-map}
use Rattle.std.proofs.lemmas.Option.{slice_get-get_or}
use Rattle.std.proofs.lemmas.Result.{err_from_is_err_and}
use Rattle.frame_world.specs.Worlds.{Finished}
use Rattle.frame_world.specs.Headline.{outcomes}
use Rattle.world_schedule.specs.Readers.{listed_as}
use Rattle.session_reports.specs.form.Forms.{outcome_as}
use Rattle.world_schedule.proofs.reports_lemmas.Rows.{line_more, no_outcome}
use Rattle.world_schedule.proofs.reports.telling.tell_finished.Goals as goal

pub loop-i-init : goal.loop-i-init
loop-i-init g c = record {
  lines = Appends-nil (append_known (g.W.Write.contents c.args.out.now) (string_bytes c.args.told.now.text));
  before = λ h. h;
  still = λ h. refl;
}

pub loop-i-preserved : goal.loop-i-preserved
loop-i-preserved g c =
    let w = c.args.world.now in
    let f = outcome_as c.args.form w.plan in
    let xs = outcomes w in
    let i = c.loop-i.i in
    let size = ap length c.finished-i-end.ensures.listed ∙ length-map w.finished listed_as ∙ sym (length-map w.finished (λ (f : Finished). f.outcome)) in
    let test = c.loop-i-test.true in
    let x = get_or xs i no_outcome in
    let here : slice_get xs i ≡ Some x = slice_get-get_or xs i no_outcome (omega (arith, size, test)) in
    let start = append_known (g.W.Write.contents c.args.out.now) (string_bytes c.args.told.now.text) in
    let held = append_known (g.W.Write.contents c.loop-i.out) (string_bytes c.loop-i.told.text) in
    let now = append_known (g.W.Write.contents c.tell_nth.new.out) (string_bytes c.tell_nth.new.told.text) in
    let so_far = flat_map f (take i xs) in
    let rows : so_far ++ f x ≡ flat_map f (take (i + 1) xs) = line_more f xs i x so_far (so_far ++ f x) here refl [] refl in
    record {
      lines = subst (Appends start now) rows (Appends-trans start held now so_far (f x) c.loop-i.invariant.lines (c.in_ok-tell_nth.ensures.line x here));
      before = λ h. c.loop-i.invariant.before (c.tell_nth.ensures.before h);
      still = λ h. c.tell_nth.ensures.still h ∙ c.loop-i.invariant.still (c.tell_nth.ensures.before h);
    }

pub returns-in_err-tell_nth-clause-before : goal.returns-in_err-tell_nth-clause-before
returns-in_err-tell_nth-clause-before g c = λ h. c.loop-i.invariant.before (c.tell_nth.ensures.before h)

pub returns-in_err-tell_nth-clause-still : goal.returns-in_err-tell_nth-clause-still
returns-in_err-tell_nth-clause-still g c = λ h. c.tell_nth.ensures.still h ∙ c.loop-i.invariant.still (c.tell_nth.ensures.before h)

pub returns-in_err-tell_nth-clause-fault : goal.returns-in_err-tell_nth-clause-fault
returns-in_err-tell_nth-clause-fault g c =
    let e = err_from_is_err_and c.from_residual.result c.from_residual.ensures.1 in
    rw (e.1, e.2) c.in_err-tell_nth.ensures.fault

pub returns-clause-lines : goal.returns-clause-lines
returns-clause-lines g c =
    let w = c.args.world.now in
    let size = ap length c.finished-i-end.ensures.listed ∙ length-map w.finished listed_as ∙ sym (length-map w.finished (λ (f : Finished). f.outcome)) in
    let test = c.loop-i-test.false in
    let start = append_known (g.W.Write.contents c.args.out.now) (string_bytes c.args.told.now.text) in
    let now = append_known (g.W.Write.contents c.loop-i.out) (string_bytes c.loop-i.told.text) in
    subst (λ l. Appends start now (flat_map (outcome_as c.args.form w.plan) l)) (take_all c.loop-i.i (outcomes w) (omega (arith, size, test))) c.loop-i.invariant.lines

pub returns-clause-before : goal.returns-clause-before
returns-clause-before g c = c.loop-i.invariant.before

pub returns-clause-still : goal.returns-clause-still
returns-clause-still g c = c.loop-i.invariant.still
