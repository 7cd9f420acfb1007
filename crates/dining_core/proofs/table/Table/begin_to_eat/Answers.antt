use Rattle.std.proofs.Common.{List, ap, ◌∙◌, false}
use Rattle.dining_core.specs.declared.phase.Phase.TheVariants.{Eating}
use Rattle.dining_core.specs.declared.shared_fork.SharedFork.{SharedFork}
use Rattle.dining_core.specs.Diners.{Diner}
use Rattle.dining_core.specs.refinement.Tables.{TableValue, diner_of, holds, has_token}
use Rattle.dining_core.proofs.TableUpdates.{forks_used}
use Rattle.dining_core.proofs.table.Table.begin_to_eat.Goals as goal

abbrev eaten : TableValue → Diner
eaten t = record { neighbours = t.neighbours; phase = Eating; held = holds t.places; clean = λ v. false; token = has_token t.places }

pub returns : goal.returns
returns c =
    ap (λ (l : List SharedFork). diner_of (record { neighbours = c.self.inside.neighbours.items; phase = Eating; places = l })) c.use_all.ensures
    ∙ forks_used c.self.inside.neighbours.items Eating c.self.inside.places.items
    ∙ ap (λ (t : TableValue). eaten t) c.self.view_is
