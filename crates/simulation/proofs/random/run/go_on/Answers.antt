use Rattle.std.proofs.Common.{◌≡◌, ◌<◌, length, map, ap, refl, inl, inr, ◌∙◌, arith}
use Rattle.std.proofs.lemmas.List.{length-map}
use Rattle.world_schedule.specs.Readers.{listed_as}
use Rattle.simulation.proofs.random_lemmas.Running.{follows, step_leads}
use Rattle.simulation.proofs.random_lemmas.Refusals.{after_step}
use Rattle.simulation.proofs.random.run.go_on.Goals as goal

pub returns-then-finished-all-clause-goes : goal.returns-then-finished-all-clause-goes
returns-then-finished-all-clause-goes c =
    let size : length c.finished-finished.result.now ≡ length c.args.world.now.finished = ap length c.finished-finished.ensures.listed ∙ length-map c.args.world.now.finished listed_as in
    let all = c.if-finished-all.true in
    inr (omega (arith, size, all), refl, refl)

pub returns-then-finished-clause-goes : goal.returns-then-finished-clause-goes
returns-then-finished-clause-goes c =
    let w = c.args.world.now in
    let size : length c.finished-finished.result.now ≡ length w.finished = ap length c.finished-finished.ensures.listed ∙ length-map w.finished listed_as in
    let open_yet = c.if-finished-all.false in
    inl (omega (arith, size, open_yet), step_leads c.args.loss w c.step.new.world (map (λ p. p.now) c.args.waiting.now.items) c.in_ok-step.ensures c.requires)

pub returns-then-finished-clause-refused : goal.returns-then-finished-clause-refused
returns-then-finished-clause-refused c =
    let w = c.args.world.now in
    let v = c.step.new.world in
    let before : length c.finished-finished.result.now ≡ length w.finished = ap length c.finished-finished.ensures.listed ∙ length-map w.finished listed_as in
    let now : length c.finished.result.now ≡ length v.finished = ap length c.finished.ensures.listed ∙ length-map v.finished listed_as in
    let same = c.if-finished.true in
    after_step w v c.args.loss (map (λ p. p.now) c.args.waiting.now.items) c.events_lead_to.ensures c.in_ok-step.ensures (omega (arith, before, now, same)) c.requires

pub returns-clause-goes : goal.returns-clause-goes
returns-clause-goes c =
    let w = c.args.world.now in
    let old = map (λ p. p.now) c.args.waiting.now.items in
    let size : length c.finished-finished.result.now ≡ length w.finished = ap length c.finished-finished.ensures.listed ∙ length-map w.finished listed_as in
    let open_yet = c.if-finished-all.false in
    inl (
      omega (arith, size, open_yet),
      follows c.args.loss 1 0 w c.step.new.world c.submit_waiting.new.world old old (map (λ p. p.now) c.submit_waiting.new.waiting.items)
          (step_leads c.args.loss w c.step.new.world old c.in_ok-step.ensures c.requires) (c.in_ok-submit_waiting.ensures.leads c.args.loss),
    )
