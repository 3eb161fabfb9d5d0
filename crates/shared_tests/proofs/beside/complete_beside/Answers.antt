use denote.Exit.{no}
use denote.Param.Send.{arg_send, param_send, param_sync}
use Rattle.shared_tests.proofs.Sent.{stepping_send}
use Rattle.shared_tests.proofs.beside.Meets.TheSendSync as meets
use Rattle.shared_tests.proofs.beside.complete_beside.Goals as goal

pub join-is_one-requires-send-F : goal.join-is_one-requires-send-F
join-is_one-requires-send-F g c κs within =
    param_send 1 _ (arg_send _ no _ (stepping_send _ _ _ _ _ (param_sync 0 _ c.type_bounds.sync-R) (meets.the_send _)))
