use Rattle.std.proofs.Common.{◌≤◌, length, Some, inl, inr, refl, ap, arith, length-append}
use Rattle.serving.specs.declared.fault.ServeFault.TheVariants.{Run}
use Rattle.serving.specs.refinement.Telling.{SaidOrNot}
use Rattle.serving.proofs.Rounding.{unless}
use Rattle.serving.proofs.Untold.{unknown, untold_fault}
use Rattle.stored_runs.proofs.Growing.{looks_begin}
use Rattle.serving.proofs.telling.tell_before_lack.Goals as goal

pub returns-in-Err-clause-told : goal.returns-in-Err-clause-told
returns-in-Err-clause-told g c =
    unless (Some (Run c.in-Err.fault)) (SaidOrNot (g.O.Write.contents c.args.out.now) (g.O.Write.contents c.args.out.now) c.args.said.now (length c.args.pass.now.seen) c.stand.new.books.stood) (inl refl)

pub returns-in-Err-write_some-clause-fault : goal.returns-in-Err-write_some-clause-fault
returns-in-Err-write_some-clause-fault g c = untold_fault (g.T.Store.failed c.stand.new.store) c.in-Err-write_some.fault c.in-Err-write_some.ensures.fault

pub returns-in-Err-write_some-clause-told : goal.returns-in-Err-write_some-clause-told
returns-in-Err-write_some-clause-told g c =
    unknown c.in-Err-write_some.fault (SaidOrNot (g.O.Write.contents c.args.out.now) (g.O.Write.contents c.write_some.new.out) c.args.said.now (length c.args.pass.now.seen) c.stand.new.books.stood) c.in-Err-write_some.ensures.fault

pub returns-in-JournalFull-clause-told : goal.returns-in-JournalFull-clause-told
returns-in-JournalFull-clause-told g c =
    let grown = looks_begin c.args.desk.now.key c.args.pass.now c.stand.new.pass c.stand.ensures.looked in
    let le : length c.args.pass.now.seen ≤ c.stand.new.books.stood = omega (arith, c.in-Ok.ensures.all, ap length grown.1, length-append c.args.pass.now.seen grown.0) in
    inr (c.in-Ok-write_some.ensures.written, le)

pub returns-in-Memory-clause-told : goal.returns-in-Memory-clause-told
returns-in-Memory-clause-told g c =
    let grown = looks_begin c.args.desk.now.key c.args.pass.now c.stand.new.pass c.stand.ensures.looked in
    let le : length c.args.pass.now.seen ≤ c.stand.new.books.stood = omega (arith, c.in-Ok.ensures.all, ap length grown.1, length-append c.args.pass.now.seen grown.0) in
    inr (c.in-Ok-write_some.ensures.written, le)
