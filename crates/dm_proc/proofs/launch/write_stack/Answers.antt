use Rattle.std.proofs.Common.{sym}
use Rattle.dm_load.proofs.Loadable.{is_mz-com}
use Rattle.dm_proc.proofs.Placing.{com_room}
use Rattle.dm_proc.proofs.launch.write_stack.Goals as goal

pub com_stack-requires : goal.com_stack-requires
com_stack-requires c = com_room c.args.image.now _ c.requires (is_mz-com c.args.image.now (sym c.in-Com.ensures.kind))
