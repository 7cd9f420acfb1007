use Rattle.std.proofs.Common.{refl, ◌∙◌}
use Rattle.stored_runs.specs.durable.Letting.{key_of}
use Rattle.stored_runs.proofs.durable_lemmas.Letting.{stood_all, finds, torn_later}
use Rattle.stored_runs.proofs.durable.standing.stand_office.Goals as goal

pub returns-in-Err-clause-found : goal.returns-in-Err-clause-found
returns-in-Err-clause-found g c = λ same. finds (g.S.Store.stood c.args.store.now) (g.S.Store.found c.args.store.now) (key_of c.args.office.now) c.args.office.now.entries c.args.stood.now c.requires.has same

pub returns-in-Err-append-clause-found : goal.returns-in-Err-append-clause-found
returns-in-Err-append-clause-found g c = λ same.
    torn_later (g.S.Store.stood c.args.store.now) (g.S.Store.stood c.append.new.self) (g.S.Store.found c.append.new.self) c.args.office.now c.args.stood.now c.as_bytes.result.now c.requires.has
    (c.as_bytes.ensures.value ∙ c.in-Ok.ensures.lines) c.in-Err-append.ensures.finds c.in-Err-append.ensures.keeps

pub returns-clause-has : goal.returns-clause-has
returns-clause-has g c =
    stood_all (g.S.Store.stood c.args.store.now) (g.S.Store.stood c.append.new.self) c.args.office.now c.args.office.now.plan c.args.stood.now c.in-Ok.count c.as_bytes.result.now c.requires.has refl
    (c.as_bytes.ensures.value ∙ c.in-Ok.ensures.lines) c.in-Ok.ensures.count c.in-Ok-append.ensures.stands
