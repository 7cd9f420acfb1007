use Rattle.std.proofs.Common.{map, ap}
use Rattle.std.proofs.lemmas.Result.{on_ok_weaker}
use Rattle.session_streams.specs.Streams.{Came}
use Rattle.session_streams.specs.refinement.{faults_of}
use Rattle.session_streams.specs.requests.Requests.{Asking}
use Rattle.session_streams.specs.requests.refinement.{asking_of}
use Rattle.session_streams.proofs.requests_lemmas.Heard.{asked_thrice}
use Rattle.session_streams.proofs.requests.requests.RequestReader.put_heard.Goals as goal

pub returns-clause-asked : goal.returns-clause-asked
returns-clause-asked c =
    on_ok_weaker c.put_fault-2.result
    (asked_thrice (asking_of c.args.self.now).ticket (asking_of c.put_fault.new.self).ticket (asking_of c.put_closed.new.self).ticket c.args.asked.now.items c.put_fault.new.asked.items c.put_closed.new.asked.items c.put_fault-2.new.asked.items
    (faults_of c.args.heard.cut) (map Came c.args.heard.closed.items) (faults_of c.args.heard.fault) (ap (λ (a : Asking). a.ticket) c.in_ok-put_fault.ensures.state) (ap (λ (a : Asking). a.ticket) c.in_ok-put_closed.ensures.state)
    c.in_ok-put_fault.ensures.asked c.in_ok-put_closed.ensures.asked)
    c.put_fault-2.ensures.asked
