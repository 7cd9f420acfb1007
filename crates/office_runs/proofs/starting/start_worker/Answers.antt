use denote.Param.Send.{IsSend, AllSend, sendable}
use denote.Struct.Declared.{shape}
use Rattle.std.proofs.Crossing.{crosses}
use Rattle.std.proofs.option.Option.TheSendSync as option
use Rattle.own_lock.proofs.pass.Pass.TheSendSync as pass
use Rattle.site_core.specs.contracts.office.Office as Office
use Rattle.office_stations.specs.contracts.fault.RunFault as RunFault
use Rattle.office_stations.proofs.fault.RunFault.TheSendSync as fault
use Rattle.office_stations.proofs.hearing.Ways.TheSendSync as ways
use Rattle.office_runs.specs.contracts.threads.WorkerEnd as WorkerEnd
use Rattle.office_runs.proofs.starting.start_worker.Goals as goal

-- the parts of how a worker ends may be handed from thread to thread
parts_send : IsSend Office.the_row → AllSend (shape WorkerEnd.the_type).fields
parts_send office = (search (pass.the_send, office, sendable, crosses) depth 40, (option.the_field_send RunFault.the_row fault.the_send, (search (sendable, crosses) depth 40, (ways.the_field_send, tt))))

pub start-requires-send-T : goal.start-requires-send-T
start-requires-send-T g c κs within = search (parts_send c.an_office_crosses_threads.ensures, sendable) depth 40
