use Rattle.std.proofs.Common.{rules, ◌≡◌, ◌∙◌, ap}
use Rattle.stored_runs.specs.durable.Letting.{key_of}
use Rattle.stored_runs.proofs.durable_lemmas.Letting.{has_taken, has_given}
use Rattle.stored_runs.proofs.durable.standing.stand.Goals as goal

pub stand_office-stands-requires-clause-has : goal.stand_office-stands-requires-clause-has
stand_office-stands-requires-clause-has g c =
    let held : key_of c.take-held.result ≡ c.args.desk.now.key = search rules in
    let key : key_of c.get.result.now ≡ c.args.desk.now.key = ap key_of c.get.ensures ∙ held in
    let begins : mathlib.Core.List.IsPrefix c.args.pass.now.seen c.get.result.now.entries = search rules in
    has_taken (g.S.Store.stood c.args.store.now) c.args.desk.now.key c.args.pass.now.seen c.get.result.now c.args.stood.now c.requires.within begins key c.requires.has

pub returns-clause-has : goal.returns-clause-has
returns-clause-has g c =
    let held : key_of c.take-held.result ≡ c.args.desk.now.key = search rules in
    let key : key_of c.get.result.now ≡ c.args.desk.now.key = ap key_of c.get.ensures ∙ held in
    let seen : c.give.new.pass.seen ≡ c.get.result.now.entries = search rules in
    has_given (g.S.Store.stood c.stand_office-stands.new.store) c.args.desk.now.key c.get.result.now c.give.new.pass.seen c.stand_office-stands.new.stood key seen c.stand_office-stands.ensures.has
