-- What the view of a seat says of the pass that sits there.
use Rattle.std.specs.Prelude.{◌≡◌, ℕ, ◌<◌, [], ◌∷◌, Option, None, if◌then◌else◌}
use Rattle.atomic_table.specs.Table.{Me}
use Rattle.atomic_table.specs.Seated.{TableId}
use Rattle.own_lock.specs.declared.seat_view.SeatView.{SeatView}
use Rattle.own_lock.specs.Entries.{tagged}
use Rattle.own_lock.specs.Rule.{place}
use Rattle.own_lock.specs.Steps.{the_part}
use Rattle.own_lock.specs.Passes.{PassView}

module _ {S K E : Type 0} where
  abbrev pub pass_view : TableId → Me (Option S) (SeatView K E) → PassView K E
  pass_view name me = record { lock = name; key = me.0.key; tag = (the_part me.0).tag; holds = me.0.holds; seen = (the_part me.0).seen; mine = (the_part me.0).mine }

  -- the seat has one pass, and the slot, which is empty, where it holds the state
  pub record HasOnePass (tag_of : E → ℕ) (tag : ℕ) (me : Me (Option S) (SeatView K E)) : Type 0 where
    pub one : me.0.parts ≡ the_part me.0 ∷ []
    pub tag_is : (the_part me.0).tag ≡ tag
    pub below : tag < 16
    pub own : tagged tag_of tag (the_part me.0).seen ≡ (the_part me.0).mine
    pub slots : me.1 ≡ (if me.0.holds then (place, None) ∷ [] else [])
