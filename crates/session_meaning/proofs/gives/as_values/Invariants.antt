use Rattle.std.proofs.Common.{◌≡◌, map, take}
use Rattle.bottle_values.specs.declared.Value.TheVariants.{Number}
use Rattle.session_meaning.proofs.gives.as_values.Given as goal

abbrev pub invariant-loop-number : goal.invariant-loop-number
invariant-loop-number l = l.values.items ≡ map Number (take l.number-index l.number-items)
