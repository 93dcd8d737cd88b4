-- When an instruction touches only bytes of which nothing can be found.
use Rattle.std.specs.Prelude.{◌≡◌, ◌<◌, ℕ, true, None}
use Rattle.dm_space.specs.Memory.{Memory}
use Rattle.dm_ins.specs.declared.ins.Ins.{Ins}
use Rattle.dm_ins.specs.Ins.{BeginsWith}
use Rattle.dm_cpu.specs.Guest.{guest}
use Rattle.dm_services.specs.state.State.{State}
use Rattle.dm_machine.specs.Step.{fetched}
use Rattle.dm_touches.specs.quiet.Marks.{satisfy}
use Rattle.dm_touches.specs.declared.elements.Elements.{Elements}
use Rattle.dm_touches.specs.Touches.{reads, writes}
use Rattle.dm_checker.specs.declared.arena_copy.ArenaCopy.{ArenaCopy}
use Rattle.dm_checker.specs.Unfound.{is_read_unfound, is_write_unfound}

-- nothing is found of these reads and writes, and no header is written to; no list of headers breaks
pub record FindsNothing (m : Memory) (w : ArenaCopy) (rs ws : Elements) : Type 0 where
  pub whole : w.broken ≡ None
  pub reads : satisfy (is_read_unfound w.headers.items) m.a20 rs ≡ true
  pub writes : satisfy (is_write_unfound m w.headers.items) m.a20 ws ≡ true

-- the instruction at CS:IP, below the segment of services and drivers, touches only bytes of which nothing is found,
-- and writes to no header; w is what memory shows of the arena before it
pub record FindsNothingAt (s : State) (w : ArenaCopy) : Type 0 where
  pub ins : Ins
  pub length : ℕ
  pub below : s.cpu.cs < 0xF000
  pub begins : BeginsWith (fetched s.memory s.cpu) ins length
  pub nothing : FindsNothing s.memory w (reads (guest s.cpu s.memory) ins length)
      (writes (guest s.cpu s.memory) ins length)
