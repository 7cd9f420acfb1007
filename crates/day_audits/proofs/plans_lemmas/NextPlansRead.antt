-- The text of the next day's plan means it.
use Rattle.std.proofs.Common.{◌≡◌, ℕ, ◌+◌, ◌<◌, length, refl, ap, ◌∙◌, arith}
use Rattle.std.specs.Prelude.{IsTrue}
use Rattle.bottle_values.specs.Operations.{is_value}
use Rattle.day_audits.specs.carried.Days.{CarriedStartsWith}
use Rattle.day_audits.specs.carried.RunNumbers.{run_after}
use Rattle.day_audits.specs.plans.NextPlans.{next_plan, NextPlansAreRead}
use Rattle.day_audits.proofs.plans_lemmas.CarriedPlans.{consistent_with, ordered_with, each_with}
use Rattle.day_audits.proofs.plans_lemmas.TextsRead.{texts_are_read}

pub next_plans_read : CarriedStartsWith → NextPlansAreRead
next_plans_read starts p m accepted values =
    let run = run_after p.run 1 in
    let each : (r : ℕ) → r < length p.records → IsTrue (is_value (m (0 + r))) = λ r lt. (let on : 0 + r ≡ r = omega arith in ap (λ k. is_value (m k)) on ∙ values r lt) in
    record {
      written = refl;
      read = λ admitted short. texts_are_read (next_plan p m) (record {
        consistent = consistent_with p run m accepted.consistent admitted;
        two_offices = accepted.two_offices;
        run = omega arith;
        values = each_with is_value m 0 p.records each;
        short = short;
      });
      ordered = ordered_with p run m accepted.no_ring;
      starts = λ r lt. starts p run m r lt;
    }
