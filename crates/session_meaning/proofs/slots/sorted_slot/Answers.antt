use Rattle.std.proofs.Common.{sym, ◌∙◌, arith}
use Rattle.std.proofs.lemmas.Bool.{eqb-true}
use Rattle.session_meaning.proofs.working_copies.SortedSlots.{placed, past_all, another}
use Rattle.session_meaning.proofs.slots.sorted_slot.Goals as goal
use Rattle.session_meaning.proofs.slots.sorted_slot.Goals.{else-place-slots-via-then-place-slots+else-eq, else-place-slots-via-else-place-slots}

pub returns-then-eq : goal.returns-then-eq
returns-then-eq c =
    sym (placed c.args.slots.now c.args.id c.place_of-place.result c.index-slots-place.result c.place_of-place.ensures.before c.if-place-slots.true (eqb-true _ _ (sym c.eq.ensures ∙ c.if-eq.true)))

pub returns-else-place-slots : goal.returns-else-place-slots
returns-else-place-slots c =
    elim c.else-place-slots.branch [
      | else-place-slots-via-then-place-slots+else-eq w ↦
          sym (another c.args.slots.now c.requires c.args.id c.place_of-place.result c.place_of-place.ensures.before w.index-slots-place.result w.if-place-slots.true
          (c.place_of-place.ensures.after c.place_of-place.result w.index-slots-place.result (omega arith) w.if-place-slots.true) (sym w.eq.ensures ∙ w.if-eq.false))
      | else-place-slots-via-else-place-slots w ↦ sym (past_all c.args.slots.now c.requires c.args.id c.place_of-place.result c.place_of-place.ensures.before w.if-place-slots.false)
    ]
