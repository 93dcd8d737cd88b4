-- Watchpoints: which steps hit a range of linear addresses.
-- Source: GDB manual, "GDB Remote Serial Protocol", "Packets" (`Z2`, `Z3`, `Z4`). What counts for a step of a service
-- or a driver is this server's own choice.
use Rattle.std.specs.Prelude.{◌≡◌, ℕ, ◌+◌, ◌-◌, ◌&&◌, ◌||◌, Bool, false, not, min, nat_lt, nat_le, if◌then◌else◌, List, [], Option, Some, None}
use Rattle.std.specs.List.{find}
use Rattle.dm_space.specs.Memory.{Memory}
use Rattle.dm_space.specs.declared.entry_points.EntryPoint.{EntryPoint}
use Rattle.dm_space.specs.EntryPoints.{entry_point_at}
use Rattle.dm_ins.specs.declared.ins.Ins.{Ins}
use Rattle.dm_ins.specs.Ins.{BeginsWith}
use Rattle.dm_cpu.specs.Guest.{guest}
use Rattle.dm_touches.specs.declared.elements.Elements.{Elements}
use Rattle.dm_touches.specs.Touches.{reads, writes}
use Rattle.dm_touches.specs.quiet.Marks.{satisfy}
use Rattle.dm_requests.specs.declared.request.WatchedAccess.{WatchedAccess}
use Rattle.dm_requests.specs.declared.request.WatchedAccess.TheVariants.{Execute, Write, Read, Either}
use Rattle.dm_requests.specs.declared.request.Point.{Point}
use Rattle.dm_services.specs.state.State.{State}
use Rattle.dm_machine.specs.Step.{fetched}
use Rattle.dm_target.specs.Memory.{bytes_from, reads_as}

-- whether a linear address is in the range of a watchpoint
abbrev pub is_in_range : Point → ℕ → Bool
is_in_range p a = nat_le p.address a && nat_lt a (p.address + p.length)

-- whether a watchpoint counts what is read (r) or written (w)
abbrev pub by_access : WatchedAccess → Bool → Bool → Bool
by_access Execute r w = false
by_access Write r w = w
by_access Read r w = r
by_access Either r w = r || w

-- whether a byte of these elements is in the range
abbrev pub is_met : Bool → Elements → Point → Bool
is_met a20 e p = not (satisfy (λ a. not (is_in_range p a)) a20 e)

-- whether an instruction that reads and writes these elements hits the watchpoint
abbrev pub is_touched : Bool → Elements → Elements → Point → Bool
is_touched a20 rs ws p = by_access p.access (is_met a20 rs p) (is_met a20 ws p)

-- how many bytes of the range there are: those up to FFFF:FFFF
abbrev pub bytes_there : Point → ℕ
bytes_there p = if nat_lt 0x10FFEF p.address then 0 else min p.length (0x10FFF0 - p.address)

-- the bytes of the range, as a program reads them
abbrev pub watched_bytes : Memory → Point → List ℕ
watched_bytes m p = bytes_from m p.address (bytes_there p)

-- whether a service or driver that leaves the memory n for m hits the watchpoint: one that counts writes, if a byte of
-- the range reads otherwise
abbrev pub is_changed : Memory → Memory → Point → Bool
is_changed m n p = by_access p.access false (not (reads_as n p.address (watched_bytes m p)))

-- the first of these watchpoints, in their order, that the step from s to t hits; None if it hits none. A service or
-- driver acts in the step (`acted`), or an instruction is performed (`performed`)
pub data Hits (watches : List Point) (s t : State) (hit : Option Point) : Type 0 where
  unwatched : watches ≡ [] → hit ≡ None → Hits watches s t hit
  acted : (what : EntryPoint) → entry_point_at s.cpu.cs s.cpu.ip ≡ Some what →
      hit ≡ find (is_changed s.memory t.memory) watches → Hits watches s t hit
  performed : (i : Ins) (length : ℕ) → entry_point_at s.cpu.cs s.cpu.ip ≡ None →
      BeginsWith (fetched s.memory s.cpu) i length
      → hit ≡ find (is_touched s.memory.a20 (reads (guest s.cpu s.memory) i length)
      (writes (guest s.cpu s.memory) i length)) watches
      → Hits watches s t hit
