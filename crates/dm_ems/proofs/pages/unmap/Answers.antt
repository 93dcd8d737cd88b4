use Rattle.dm_space.specs.Memory.{IsPage}
use Rattle.dm_ems.proofs.Owned.{unmapped_each}
use Rattle.dm_ems.proofs.pages.unmap.Goals as goal

pub set_windows-requires : goal.set_windows-requires
set_windows-requires c =
    λ k. rw c.unmapped_windows-windows.ensures (unmapped_each (IsPage c.args.space.now.memory)
    (IsPage c.args.space.now.memory) c.args.block (λ b n p. p) c.windows.result c.windows.ensures.pages k)
