-- What the pointer of a handle owns.
use Rattle.std.specs.Prelude.{Option, Some, None}
use Rattle.std.specs.Borrow.{Fml}
use base.Fml.{ftrue}
use denote.RawPtr.{Ptr}
use Rattle.std.specs.declared.alloc.Global.{Global}
use Rattle.std.specs.contracts.impls.GlobalAllocator.TheImpl.{ghosts}
use Rattle.std.specs.Box.Ownership.{box_owns}
use Rattle.dm_host.specs.Hosts.{Hosted}
use Rattle.dm_host.specs.contracts.host.Host.{the_row}

-- the allocator of C's memory, which the exports have as `Global`
abbrev pub heap : Global
heap = record { memory = record { seal = tt } }

-- ownership of what a handle's pointer p holds: a box of C's memory with the machine in it, or nothing
abbrev pub held : Ptr → Option Hosted → Fml
held p None = ftrue
held p (Some h) = box_owns (ghosts.dealloc_token heap) the_row p h
