use Rattle.std.proofs.Common.{Result, Ok, Err}
use Rattle.std.specs.Prelude.{OnOk}
use Rattle.session_streams.specs.requests.refinement.{taking_of}
use Rattle.serving.proofs.Hearing.{kept, nothing_comes}
use Rattle.serving.proofs.incoming.Incoming.hear.Goals as goal

-- what holds whatever comes of a call
always : {T E P : Type 0} (r : Result T E) → P → OnOk r P
always (Ok x) h = h
always (Err e) h = record {}

pub returns-in-Err-clause-heard : goal.returns-in-Err-clause-heard
returns-in-Err-clause-heard g c =
    let old = g.I.Read.remaining c.args.self.now.input in
    let new = g.I.Read.remaining c.read.new.self in
    always c.unless_nothing.result (nothing_comes c.args.plan.now c.args.me old new (taking_of c.args.self.now.intake) c.args.self.now.has_ended c.args.waiting.now.items (kept old new c.in-Err.ensures.bytes))
