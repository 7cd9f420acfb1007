use Rattle.own_lock.proofs.PassCalls.{closed}
use Rattle.own_lock.proofs.lock.OwnLock.close.Goals as goal

pub returns-in-Some-clause-fits : goal.returns-in-Some-clause-fits
returns-in-Some-clause-fits g c =
    let end = closed _ _ _ _ _ _ _ _ _ _ _ _ _ _ _ _ _ _ c.pass.invariant c.pass.view_is c.requires.of.1 c.close_with-closed.ensures.values.2 c.word-word.ensures c.if-word-eq-FREE.true c.take-state.ensures.value c.in-Some.is c.into_state.ensures in
    end.0

pub returns-in-Some-clause-key : goal.returns-in-Some-clause-key
returns-in-Some-clause-key g c =
    let end = closed _ _ _ _ _ _ _ _ _ _ _ _ _ _ _ _ _ _ c.pass.invariant c.pass.view_is c.requires.of.1 c.close_with-closed.ensures.values.2 c.word-word.ensures c.if-word-eq-FREE.true c.take-state.ensures.value c.in-Some.is c.into_state.ensures in
    end.1

pub returns-in-Some-clause-begins : goal.returns-in-Some-clause-begins
returns-in-Some-clause-begins g c =
    let end = closed _ _ _ _ _ _ _ _ _ _ _ _ _ _ _ _ _ _ c.pass.invariant c.pass.view_is c.requires.of.1 c.close_with-closed.ensures.values.2 c.word-word.ensures c.if-word-eq-FREE.true c.take-state.ensures.value c.in-Some.is c.into_state.ensures in
    end.2

pub returns-in-Some-clause-mine : goal.returns-in-Some-clause-mine
returns-in-Some-clause-mine g c =
    let end = closed _ _ _ _ _ _ _ _ _ _ _ _ _ _ _ _ _ _ c.pass.invariant c.pass.view_is c.requires.of.1 c.close_with-closed.ensures.values.2 c.word-word.ensures c.if-word-eq-FREE.true c.take-state.ensures.value c.in-Some.is c.into_state.ensures in
    end.3
