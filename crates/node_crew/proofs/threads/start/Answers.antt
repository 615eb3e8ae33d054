use denote.Exit.{yes}
use denote.Param.Send.{param_send, arg_send, shr_send, sendable}
use Rattle.std.proofs.sync.atomic.AtomicU64.TheSendSync.{the_sync as atomic_sync}
use Rattle.node_crew.proofs.Sent.{crew_send, captured_send}
use Rattle.node_crew.proofs.threads.start.Goals as goal

pub spawn_with-requires-send-F : goal.spawn_with-requires-send-F
spawn_with-requires-send-F g c κs within =
    param_send 2 _ (arg_send _ yes _ (captured_send _ _ _ _ _ _ crew_send
    (shr_send _ _ _ c.type_bounds.sync-R) (shr_send _ _ _ c.type_bounds.sync-G) (shr_send _ _ _ atomic_sync) (shr_send _ _ _ atomic_sync)))

pub spawn_with-requires-send-T : goal.spawn_with-requires-send-T
spawn_with-requires-send-T g c κs within = search (crew_send, sendable)
