use Rattle.std.proofs.Common.{◌≡◌, true, is_some, IfSome, ap, ◌∙◌, subst}
use Rattle.office_map.specs.PlanText.{and_then}
use Rattle.text_lines.specs.Text.{statements}
use Rattle.simulation.specs.scripts.Script.{act_with}
use Rattle.simulation.proofs.scripts_lemmas.Scripts.{further}
use Rattle.simulation.proofs.scripts.script.events.Goals as goal

pub loop-line-preserved : goal.loop-line-preserved
loop-line-preserved c =
    let ps = c.args.programs.now in
    record {
      short = c.loop-line.invariant.short;
      fits = c.in-Some.ensures.fits;
      walked = further c.args.plan.now ps (statements c.args.text.now) _ _ c.in-Some.line c.in-Some.statement.now c.in-Some-event.event c.loop-line.events.items c.push.new.self.items
          c.in-Some.ensures.gives (c.event.ensures.meaning ∙ ap (λ o. and_then o (act_with ps)) c.in-Some-event.is)
          (subst (λ o. IfSome o (λ e. is_some (act_with ps e) ≡ true)) c.in-Some-event.is c.event.ensures.there)
          c.in_ok-push-in-Some-event.ensures.items c.loop-line.invariant.walked;
    }
