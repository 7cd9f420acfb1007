use Rattle.std.proofs.Common.{◌∙◌, ◌+◌, ap, refl}
use Rattle.office_stations.specs.remarks.Left.{is_left}
use Rattle.office_stations.proofs.remarks_lemmas.Kept.{ticket_kept, ticket_left_out}
use Rattle.office_stations.proofs.remarks.left.tickets_left.Goals as goal
use Rattle.office_stations.proofs.remarks.left.tickets_left.Goals.{then-is_left+in_ok-push, else-is_left}

pub loop-i-preserved : goal.loop-i-preserved
loop-i-preserved c =
    elim c.if-is_left.branch [
      | then-is_left+in_ok-push w ↦ ticket_kept (is_left c.args.office.now) c.loop-i.i (c.loop-i.i + 1) c.is_left.result c.loop-i.tickets.items _ c.is_left.ensures refl w.if-is_left.true c.loop-i.invariant (ap (λ v. v.items) w.tickets-is ∙ w.in_ok-push.ensures.items)
      | else-is_left w ↦ ticket_left_out (is_left c.args.office.now) c.loop-i.i (c.loop-i.i + 1) c.is_left.result c.loop-i.tickets.items _ c.is_left.ensures refl w.if-is_left.false c.loop-i.invariant (ap (λ v. v.items) w.tickets-is)
    ]
