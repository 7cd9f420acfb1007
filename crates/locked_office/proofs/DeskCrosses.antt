-- A desk may be handed from thread to thread, and threads may share it, since an office may be handed on.
use denote.Param.Send.{IsSend, IsSync, AllSend, sendable}
use denote.Struct.Declared.{shape}
use Rattle.std.proofs.Crossing.{crosses}
use Rattle.std.proofs.alloc.Global.TheSendSync as heap
use Rattle.own_lock.proofs.lock.OwnLock.TheSendSync as lock
use Rattle.site_core.specs.contracts.office.Office as Office
use Rattle.locked_office.specs.contracts.desk.Desk as Desk
use Rattle.locked_office.specs.contracts.desk.Desk.TheInside as inside

pub desk_sync : IsSend Office.the_row → IsSync Desk.the_row
desk_sync office = search (lock.the_sync, office, sendable, crosses) depth 40

-- first its parts, as a search for the whole looks into the lock
pub desk_send : IsSend Office.the_row → IsSend Desk.the_row
desk_send office =
    let parts : AllSend (shape inside.the_type).fields = search (heap.the_field_send, lock.the_send, office) in
    search (parts, sendable) depth 20
