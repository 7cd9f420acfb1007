use Rattle.std.specs.Prelude.{◌≡◌, true}
use Rattle.drink_commands.specs.Stored.{IsNotHeld}
use Rattle.drink_commands.proofs.StoreRefusals.{unmade}
use Rattle.drink_commands.proofs.commands.stored.make.Goals as goal

pub returns-in-Err-create-clause-fault : goal.returns-in-Err-create-clause-fault
returns-in-Err-create-clause-fault g c =
    unmade (c.create.new.self ≡ c.args.stores.now) (IsNotHeld (g.K.Stores.has c.args.stores.now c.args.name.now) true c.args.plan.now c.args.me c.args.programs.now) c.not_made.result c.not_made.ensures
