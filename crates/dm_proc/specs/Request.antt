-- What function 4Bh reads of the registers c and of guest memory m: MS-DOS Programmer's Reference, function 4Bh "Load
-- and Execute Program". Offsets wrap in their segment.
use Rattle.std.specs.Prelude.{◌≡◌, ℕ, ◌+◌, ◌%◌, ◌<◌, ◌≤◌, ◌⊎◌, min, List, length, Some, None, ◌==◌, if◌then◌else◌}
use Rattle.dm_space.specs.Memory.{Memory, linear, peek, peek16}
use Rattle.dm_space.specs.EightBytes.{byte_after}
use Rattle.dm_load.specs.declared.format.FarPointer.{FarPointer}
use Rattle.dm_load.specs.Image.{IsGood}
use Rattle.dm_cpu.specs.declared.cpu.Cpu.{Cpu}
use Rattle.dm_proc.specs.declared.refusal.ExecRefusal.{ExecRefusal}
use Rattle.dm_proc.specs.declared.refusal.ExecRefusal.TheVariants.{NotFound, BadFormat}
use Rattle.dm_proc.specs.Programs.{program_of}
use Rattle.dm_proc.specs.Writes.{bytes_from}
use Rattle.dm_proc.specs.declared.arguments.Arguments.{Arguments}

-- AL, the number of the action: 0 loads and starts a program, 3 loads an overlay
abbrev pub action : Cpu → ℕ
action c = c.ax % 256

-- the name at segment:offset: the bytes up to the first zero, at most 64
pub record IsNameAt (m : Memory) (segment offset : ℕ) (name : List ℕ) : Type 0 where
  pub short : length name ≤ 64
  pub bytes : name ≡ bytes_from m segment offset (length name)
  pub before : (k : ℕ) → k < length name → byte_after m segment offset k ≡ 0 → ⊥
  pub closed : byte_after m segment offset (length name) ≡ 0

-- there is no name at segment:offset: none of the first 65 bytes is zero
abbrev pub NoNameAt : Memory → ℕ → ℕ → Type 0
NoNameAt m segment offset = (k : ℕ) → k < 65 → byte_after m segment offset k ≡ 0 → ⊥

-- DS:DX points to the name of a program in the store, and `file` are its bytes
pub record Names (c : Cpu) (m : Memory) (store : List (List ℕ × List ℕ)) (name file : List ℕ) : Type 0 where
  pub named : IsNameAt m c.ds c.dx name
  pub found : program_of store name ≡ Some file

-- DS:DX points to the name of a program in the store that can be loaded, and `file` are its bytes
abbrev pub NamesGood : Cpu → Memory → List (List ℕ × List ℕ) → List ℕ → List ℕ → Type 0
NamesGood c m store name file = Names c m store name file × IsGood file

-- why the name at DS:DX is refused: `NotFound` if it is too long or the store has no such program, `BadFormat` if the
-- file can't be loaded. No other error is returned
abbrev pub NameRefused : Cpu → Memory → List (List ℕ × List ℕ) → ExecRefusal → Type 0
NameRefused c m store NotFound = NoNameAt m c.ds c.dx ⊎ ((name : List ℕ) × IsNameAt m c.ds c.dx name ×
    (program_of store name ≡ None))
NameRefused c m store BadFormat = (name : List ℕ) × (file : List ℕ) × Names c m store name file × (IsGood file → ⊥)
NameRefused c m store _ = ⊥

-- the far pointer that begins at byte k of the parameter block at ES:BX: its offset word, then its segment word
abbrev pub pointer_at : Cpu → Memory → ℕ → FarPointer
pointer_at c m k = record {
  segment = peek16 m c.es ((c.bx + (k + 2)) % 65536);
  offset = peek16 m c.es ((c.bx + k) % 65536);
}

-- what a program is passed: its command tail, at most 126 bytes, and the first 16 bytes of its two file control
-- blocks
pub record Passed : Type 0 where
  pub tail : List ℕ
  pub first : List ℕ
  pub second : List ℕ

-- an `Arguments` as contracts see it
abbrev pub passed_of : Arguments → Passed
passed_of a = record { tail = a.tail.items; first = a.first; second = a.second }

-- the command tail at a far pointer: the first byte is the tail's length, where more than 126 counts as 126; the tail's
-- bytes follow
unfoldable pub tail_at : Memory → FarPointer → List ℕ
tail_at m p = bytes_from m p.segment ((p.offset + 1) % 65536) (min (peek m (linear m.a20 p.segment p.offset)) 126)

-- the 16 bytes at a far pointer, the first of a file control block
unfoldable pub control_block : Memory → FarPointer → List ℕ
control_block m p = bytes_from m p.segment p.offset 16

-- what the parameter block at ES:BX passes to a program: its far pointers at 2, 6 and 10 lead to the tail and to the
-- file control blocks
abbrev pub passed : Cpu → Memory → Passed
passed c m = record {
  tail = tail_at m (pointer_at c m 2);
  first = control_block m (pointer_at c m 6);
  second = control_block m (pointer_at c m 10);
}

-- the segment of the environment to be copied: the parameter block's first word, or, where that is 0, the word at 2Ch
-- in the prefix of the present process
abbrev pub environment_segment : Memory → ℕ → Cpu → ℕ
environment_segment m present c = if peek16 m c.es c.bx == 0 then peek16 m present 0x2C else peek16 m c.es c.bx

-- the segment where an overlay is loaded: the parameter block's first word
abbrev pub load_segment : Cpu → Memory → ℕ
load_segment c m = peek16 m c.es c.bx

-- the segment that an overlay's relocations add: the parameter block's second word
abbrev pub relocation_factor : Cpu → Memory → ℕ
relocation_factor c m = peek16 m c.es ((c.bx + 2) % 65536)
