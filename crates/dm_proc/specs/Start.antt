-- What the start of a process writes, and its registers: MS-DOS Programmer's Reference, "Program Segment Prefix" and
-- function 4Bh "Load and Execute Program". Segments wrap at 65,536. A `Placed` says where the two blocks of the
-- process are.
use Rattle.std.specs.Prelude.{ℕ, ◌+◌, ◌-◌, ◌*◌, ◌/◌, ◌%◌, min, Bool, true, false, if◌then◌else◌, List, [], ◌∷◌, ◌++◌, length, replicate}
use Rattle.dm_space.specs.Memory.{Memory, linear}
use Rattle.dm_load.specs.declared.format.FarPointer.{FarPointer}
use Rattle.dm_cpu.specs.declared.cpu.Cpu.{Cpu}
use Rattle.dm_alu.specs.declared.flags.Flags.{Flags}
use Rattle.dm_load.specs.Image.{is_mz, relocated, start_pointer, stack}
use Rattle.dm_arena.specs.Pair.{Placed}
use Rattle.dm_proc.specs.Request.{Passed}
use Rattle.dm_proc.specs.Writes.{Write, block, bytes_from}

-- a word of the prefix as two bytes, low byte first
abbrev pub word_bytes : ℕ → List ℕ
word_bytes w = w % 256 ∷ w / 256 ∷ []

-- n bytes of zero, for the prefix
unfoldable pub zeros : ℕ → List ℕ
zeros n = replicate n 0

-- the 256 bytes of the program segment prefix: INT 20h; the segment past the program's block; at 0Ah the vectors 22h to
-- 24h, read from memory m; at 16h the segment of the parent's prefix; at 2Ch the environment's segment; at 50h INT 21h
-- and RETF; at 5Ch and 6Ch the file control blocks; at 80h the tail's length, the tail and 0Dh; else zeros
unfoldable pub prefix : Memory → Placed → ℕ → Passed → List ℕ
prefix m p parent a =
    (0xCD ∷ 0x20 ∷ []) ++ word_bytes ((p.program + p.size) % 65536) ++ zeros 6 ++ bytes_from m 0 0x88 12
    ++ word_bytes parent ++ zeros 20 ++ word_bytes p.environment ++ zeros 34 ++ (0xCD ∷ 0x21 ∷ 0xCB ∷ [])
    ++ zeros 9 ++ a.first ++ a.second ++ zeros 4 ++ (length a.tail ∷ []) ++ a.tail ++ (0x0D ∷ [])
    ++ zeros (126 - length a.tail)

-- SP of a COM program at its start: the offset of the last word of its block, FFFEh if the block is larger than 64 KiB
abbrev pub com_stack : Placed → ℕ
com_stack p = min 0xFFFE (16 * p.size - 2)

-- the writes of the zero word of a COM program's stack at segment:offset; the offset of the high byte wraps
abbrev pub zero_word : Bool → ℕ → ℕ → List Write
zero_word a20 segment offset =
    record { address = linear a20 segment offset; byte = 0 }
    ∷ record { address = linear a20 segment ((offset + 1) % 65536); byte = 0 } ∷ []

-- the writes of the zero word on a COM program's stack, which leads a near return to offset 0; none for an MZ program
abbrev pub stack_writes : Bool → Placed → List ℕ → List Write
stack_writes a20 p file = if is_mz file then [] else zero_word a20 p.program (com_stack p)

-- the start segment, to which the image is relocated: 16 paragraphs after the prefix begins
abbrev pub start : Placed → ℕ
start p = (p.program + 0x10) % 65536

-- all writes of a start after those of the arena's headers, in their order: environment and prefix, each from its
-- block's segment on, the image at `start`, and the zero word on a COM program's stack
unfoldable pub start_writes : Bool → Placed → List ℕ → List ℕ → List ℕ → List Write
start_writes a20 p environment prefix file =
    block a20 p.environment environment
    ++ block a20 p.program prefix
    ++ block a20 (start p) (relocated file (start p))
    ++ stack_writes a20 p file

-- the flags of a new process: interrupts are enabled, all other flags clear
abbrev pub start_flags : Flags
start_flags = record {
  carry = false;
  parity = false;
  adjust = false;
  zero = false;
  sign = false;
  trap = false;
  interrupt = true;
  direction = false;
  overflow = false;
}

-- the registers of a new process, with this CS:IP and SS:SP: DS and ES are the segment of its prefix, the general
-- registers are 0, and IF is the only flag that is set
abbrev pub registers : ℕ → FarPointer → FarPointer → Cpu
registers segment code stack = record {
  ax = 0;
  cx = 0;
  dx = 0;
  bx = 0;
  sp = stack.offset;
  bp = 0;
  si = 0;
  di = 0;
  es = segment;
  cs = code.segment;
  ss = stack.segment;
  ds = segment;
  ip = code.offset;
  flags = start_flags;
}

-- CS:IP or SS:SP of an MZ header with the start segment `by` added to the pointer's segment
abbrev pub relocated_pointer : FarPointer → ℕ → FarPointer
relocated_pointer p by = record p { segment = (p.segment + by) % 65536 }

-- the registers of a new process: CS:IP and SS:SP are those of an MZ header with the start segment added; a COM program
-- begins at offset 0100h of its block, with SS its block's segment and SP as in `com_stack`
abbrev pub start_registers : Placed → List ℕ → Cpu
start_registers p file =
    if is_mz file then registers p.program (relocated_pointer (start_pointer file) (start p))
    (relocated_pointer (stack file) (start p))
    else registers p.program (record { segment = p.program; offset = 0x100 }) (record {
      segment = p.program;
      offset = com_stack p;
    })
