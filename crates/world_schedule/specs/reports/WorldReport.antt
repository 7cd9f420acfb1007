-- The report of a world: what is printed of the sessions and the records of all offices.
use Rattle.std.specs.Prelude.{ℕ, List, ◌++◌, get_or}
use Rattle.std.specs.List.{flat_map}
use Rattle.bottle_values.specs.declared.Value.{Value}
use Rattle.bottle_values.specs.Operations.{nought}
use Rattle.frame_world.specs.Worlds.{World}
use Rattle.frame_world.specs.Ways.{bottles_of}
use Rattle.frame_world.specs.Headline.{outcomes}
use Rattle.session_reports.specs.declared.form.forms.Form.{Form}
use Rattle.session_reports.specs.form.Forms.{outcome_as, unfinished_as, values_as}

-- the value of a record: that of its bottle
abbrev pub bottle_value : World → ℕ → Value
bottle_value w r = get_or (bottles_of w r) 0 nought

-- the finished sessions in finishing order, how many haven't finished, and the values of the bottles, in that form
abbrev pub world_report : Form → World → ℕ → List ℕ
world_report f w n = flat_map (outcome_as f w.plan) (outcomes w) ++ (unfinished_as f n ++ values_as f w.plan (bottle_value w))
