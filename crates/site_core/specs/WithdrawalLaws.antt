-- What follows of a session that is withdrawn.
use Rattle.std.proofs.Common.{◌≡◌, ℕ, Bool, true, false}
use Rattle.std.proofs.lemmas.Bool.{cond_both}
use Rattle.drinking_core.specs.Drinkers as bottles
use Rattle.site_core.specs.neighbours.Pairs.{after_bottle_rule}
use Rattle.site_core.specs.agendas.Agenda.{Idle, is_waiting, without_waiting, with_current}
use Rattle.site_core.specs.Offices.{Office, may_withdraw, withdrawn, withdraw, done_if}
use Rattle.site_core.specs.Journals.{next_or}

-- the office after it, by whether it waits or is the current one
pub either_withdrawn : (P : Office → Type 0) (o : Office) (t : ℕ) → (is_waiting o.agenda.queue t ≡ true → P (record { pairs = o.pairs; agenda = without_waiting o.agenda t })) →
    (is_waiting o.agenda.queue t ≡ false → P (record { pairs = after_bottle_rule o.pairs bottles.Withdraw; agenda = with_current o.agenda Idle })) → P (withdrawn o t)
either_withdrawn P o t =
    cond_both (is_waiting o.agenda.queue t) (record { pairs = o.pairs; agenda = without_waiting o.agenda t }) (record { pairs = after_bottle_rule o.pairs bottles.Withdraw; agenda = with_current o.agenda Idle }) P

-- what holds of an office and of it then holds after the event, accepted or refused
pub after_withdrawal : (P : Office → Type 0) (o : Office) (t : ℕ) → P o → P (withdrawn o t) → P (next_or o (withdraw o t))
after_withdrawal P o t before done = go (may_withdraw o t)
  where
    go : (b : Bool) → P (next_or o (done_if b (withdrawn o t)))
    go true = done
    go false = before
