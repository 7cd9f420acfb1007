use Rattle.std.proofs.Common.{◌≡◌, ◌++◌, length, get_or, Some, take_all, ap, sym, ◌∙◌, arith}
use Rattle.std.specs.List.{slice_get, flat_map}
use Rattle.std.specs.String.{string_bytes}
use Rattle.std.proofs.lemmas.List.{length-map}
use Rattle.std.proofs.lemmas.Option.{slice_get-get_or}
use Rattle.frame_world.specs.Worlds.{Finished}
use Rattle.frame_world.specs.Headline.{outcomes}
use Rattle.world_schedule.specs.Readers.{listed_as}
use Rattle.session_reports.specs.form.Forms.{outcome_as}
use Rattle.world_schedule.proofs.reports_lemmas.Rows.{line_more, no_outcome}
use Rattle.world_schedule.proofs.reports.world.add_finished.Goals as goal

pub loop-i-preserved : goal.loop-i-preserved
loop-i-preserved c =
    let w = c.args.world.now in
    let xs = outcomes w in
    let i = c.loop-i.i in
    let size = ap length c.finished-i-end.ensures.listed ∙ length-map w.finished listed_as ∙ sym (length-map w.finished (λ (f : Finished). f.outcome)) in
    let test = c.loop-i-test.true in
    let here : slice_get xs i ≡ Some (get_or xs i no_outcome) = slice_get-get_or xs i no_outcome (omega (arith, size, test)) in
    line_more (outcome_as c.args.form w.plan) xs i (get_or xs i no_outcome) (string_bytes c.loop-i.text) (string_bytes c.add_nth.new.text) here (c.in_ok-add_nth.ensures (get_or xs i no_outcome) here) (string_bytes c.args.text.now) c.loop-i.invariant

pub returns : goal.returns
returns c =
    let w = c.args.world.now in
    let size = ap length c.finished-i-end.ensures.listed ∙ length-map w.finished listed_as ∙ sym (length-map w.finished (λ (f : Finished). f.outcome)) in
    let test = c.loop-i-test.false in
    c.loop-i.invariant ∙ ap (λ l. string_bytes c.args.text.now ++ flat_map (outcome_as c.args.form w.plan) l) (take_all c.loop-i.i (outcomes w) (omega (arith, size, test)))
