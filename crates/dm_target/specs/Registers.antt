-- The registers by their numbers: those of the feature `org.gnu.gdb.i386.core`, and three of this server's own.
-- Source: GDB manual, "Target Descriptions", "i386 Features"; the registers `ip`, `sp` and `steps` are this server's
-- own.
use Rattle.std.specs.Prelude.{ℕ, Bool, ◌==◌, nat_lt, if◌then◌else◌, List, [], ◌∷◌, slice_index, replicate}
use Rattle.std.specs.Int.{to_le_bytes, w16, w32, w64}
use Rattle.dm_alu.specs.Flags.{flags_word}
use Rattle.dm_cpu.specs.declared.cpu.Cpu.{Cpu}
use Rattle.dm_space.specs.Memory.{Memory}
use Rattle.dm_services.specs.state.State.{State}
use Rattle.dm_views.specs.Digits.{in_turn}
use Rattle.dm_target.specs.Memory.{linear_of}

-- the registers 0 to 15: EAX, ECX, EDX, EBX, ESP, EBP, ESI, EDI, EIP, EFLAGS, CS, SS, DS, ES, FS, GS; ESP and EIP are
-- linear addresses, the others the 16-bit registers, and FS and GS 0
abbrev pub core_values : Cpu → Memory → List ℕ
core_values c m =
    c.ax ∷ c.cx ∷ c.dx ∷ c.bx ∷ linear_of m c.ss c.sp ∷ c.bp ∷ c.si ∷ c.di ∷ linear_of m c.cs c.ip ∷ flags_word c.flags
    ∷ c.cs ∷ c.ss ∷ c.ds ∷ c.es ∷ 0 ∷ 0 ∷ []

-- whether there is a register with this number
abbrev pub has_register : ℕ → Bool
has_register n = nat_lt n 35

-- the bytes of a register, the lowest first: of 16 to 31, the floating-point registers, all are 0
abbrev pub register_bytes : State → ℕ → List ℕ
register_bytes s n =
    if nat_lt n 16 then to_le_bytes w32 (slice_index (core_values s.cpu s.memory) n)
    else if nat_lt n 24 then replicate 10 0
    else if nat_lt n 32 then replicate 4 0
    else if n == 32 then to_le_bytes w16 s.cpu.ip
    else if n == 33 then to_le_bytes w16 s.cpu.sp
    else to_le_bytes w64 s.steps

-- the bytes of all registers, in the order of their numbers
abbrev pub all_registers : State → List ℕ
all_registers s = in_turn (register_bytes s) 35
