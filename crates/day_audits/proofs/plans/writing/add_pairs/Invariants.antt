use Rattle.std.proofs.Common.{◌≡◌, ◌++◌, take}
use Rattle.std.specs.List.{flat_map}
use Rattle.std.specs.String.{string_bytes}
use Rattle.day_audits.specs.plans.WrittenPlans.{ended, pair_words}
use Rattle.day_audits.proofs.plans.writing.add_pairs.Given as goal

abbrev pub invariant-loop-pair : goal.invariant-loop-pair
invariant-loop-pair l = string_bytes l.text ≡ string_bytes l.initial.text ++ flat_map (λ x. ended (pair_words l.plan x)) (take l.pair-index l.pairs)
