-- Why a store isn't made.
use Rattle.std.specs.Prelude.{true}
use Rattle.stored_runs.specs.declared.fault.KeptFault.{KeptFault}
use Rattle.command_outputs.specs.declared.fault.StoreRefusal.{StoreRefusal}
use Rattle.command_outputs.specs.declared.fault.StoreRefusal.TheVariants as refusal
use Rattle.drink_commands.specs.Stored.{IsRefusal}

-- whatever else is asked of a store that is there
pub unmade : (Same : Type 0) (Not : KeptFault → Type 0) (why : StoreRefusal) → IsRefusal ⊥ true (λ _. ⊥) why → IsRefusal Same true Not why
unmade Same Not (refusal.Failed cause) h = tt
unmade Same Not refusal.InUse h = tt
unmade Same Not refusal.Missing h = absurd h.0
unmade Same Not refusal.There h = h
unmade Same Not (refusal.Faulty line why text) h = absurd h.0
