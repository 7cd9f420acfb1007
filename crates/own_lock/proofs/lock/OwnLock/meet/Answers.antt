use Rattle.std.proofs.Common.{rules, ap, ◌∙◌}
use Rattle.own_lock.proofs.StepsKeepRule.{joins, tells}
use Rattle.own_lock.proofs.PassCalls.{no_slot}
use Rattle.own_lock.proofs.lock.OwnLock.meet.Goals as goal

pub join_seat-requires : goal.join_seat-requires
join_seat-requires g c =
    let first = c.first.invariant in
    let second = c.second.invariant in
    let idle = ap (λ p. p.holds) c.second.view_is ∙ c.requires.second_idle in
    let idle' = ap (λ p. p.holds) c.first.view_is ∙ c.requires.first_idle in
    let bare = no_slot _ _ _ _ _ first c.first.view_is c.requires.first_idle in
    (search rules, search rules, bare, search rules, joins _ _ _ _ _ _ _ _ _ _ idle second.one idle' first.one)

pub load-requires : goal.load-requires
load-requires g c = (search rules, search rules, rw (c.self.invariant.1, c.join_seat.ensures.2) (tells _ _ _ _ _ _ _ _ _ _ _))

pub returns-clause-first : goal.returns-clause-first
returns-clause-first c = search rules

pub returns-clause-first_mine : goal.returns-clause-first_mine
returns-clause-first_mine c = search rules

pub returns-clause-mine : goal.returns-clause-mine
returns-clause-mine c = search rules

pub returns-clause-seen : goal.returns-clause-seen
returns-clause-seen c = search rules

pub returns-clause-second : goal.returns-clause-second
returns-clause-second c = search rules
