use Rattle.std.proofs.Common.{◌≡◌, ◌++◌, OnOk, subst}
use Rattle.std.specs.Prelude.{All}
use Rattle.std.specs.String.{string_bytes}
use Rattle.office_map.specs.PlanValue.{PlanValue}
use Rattle.site_core.specs.Journals.{Site}
use Rattle.frame_world.specs.Worlds.{site_at}
use Rattle.day_audits.specs.left.Left.{left_programs}
use Rattle.day_audits.specs.left.LeftTexts.{ReadsBack, texts_of}
use Rattle.day_audits.proofs.ends.worlds.add_office.Goals as goal

pub returns-clause-added : goal.returns-clause-added
returns-clause-added c =
    let w = c.args.world.now in
    subst (λ (s : Site). OnOk c.add_left.result (string_bytes c.add_left.new.text ≡ string_bytes c.args.text.now ++ texts_of w.plan (left_programs s))) c.office.ensures.site
    (subst (λ (p : PlanValue). OnOk c.add_left.result (string_bytes c.add_left.new.text ≡ string_bytes c.args.text.now ++ texts_of p (left_programs c.office.result.now))) c.office.ensures.plan c.add_left.ensures.added)

pub returns-clause-read : goal.returns-clause-read
returns-clause-read c =
    let w = c.args.world.now in
    subst (λ (s : Site). OnOk c.add_left.result (All (ReadsBack w.plan) (left_programs s))) c.office.ensures.site
    (subst (λ (p : PlanValue). OnOk c.add_left.result (All (ReadsBack p) (left_programs c.office.result.now))) c.office.ensures.plan c.add_left.ensures.read)

pub returns-clause-once : goal.returns-clause-once
returns-clause-once c = c.nothing_is_lost_or_twice.ensures (site_at c.args.world.now c.args.office) c.journal.ensures.legal
