use Rattle.std.proofs.Common.{◌≡◌, ◌++◌, ap, subst, ◌∙◌}
use Rattle.std.specs.Prelude.{All}
use Rattle.std.specs.String.{string_bytes}
use Rattle.frame_world.specs.Worlds.{site_at}
use Rattle.day_audits.specs.left.Left.{left_programs}
use Rattle.day_audits.specs.left.LeftTexts.{ReadsBack, texts_of}
use Rattle.day_audits.specs.ends.DayEnds.{IsLeftOnce}
use Rattle.day_audits.proofs.ends_lemmas.Offices.{none_yet, one_more}
use Rattle.day_audits.proofs.ends.worlds.left_of.Goals as goal

pub loop-a-init : goal.loop-a-init
loop-a-init c = none_yet c.args.world.now (string_bytes c.new-text.result) c.new-text.ensures.bytes

pub loop-a-preserved : goal.loop-a-preserved
loop-a-preserved c =
    let w = c.args.world.now in
    let here : c.new.result ≡ c.loop-a.a = c.new.ensures in
    one_more w c.loop-a.a (string_bytes c.loop-a.text) (string_bytes c.add_office.new.text) c.loop-a.invariant
    (c.in_ok-add_office.ensures.added ∙ ap (λ a. string_bytes c.loop-a.text ++ texts_of w.plan (left_programs (site_at w a))) here)
    (subst (λ a. All (ReadsBack w.plan) (left_programs (site_at w a))) here c.in_ok-add_office.ensures.read)
    (subst (λ a. IsLeftOnce (site_at w a)) here c.add_office.ensures.once)
