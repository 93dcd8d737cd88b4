-- The listing of instructions in memory: lines with the address, the bytes as joined pairs of digits, and the text.
-- Source: MS-DOS User's Reference, "DEBUG" (Unassemble); Intel 8086 Family User's Manual, section 4 (encoding). The
-- form is this machine's own.
use Rattle.std.specs.Prelude.{ℕ, ◌+◌, List, [], ◌∷◌, ◌++◌, take, codes}
use Rattle.std.specs.List.{flat_map}
use Rattle.dm_space.specs.Memory.{Memory}
use Rattle.dm_space.specs.EightBytes.{byte_after, sixteen_after}
use Rattle.dm_ins.specs.declared.ins.Ins.{Ins}
use Rattle.dm_ins.specs.Ins.{BeginsWith}
use Rattle.dm_cpu.specs.Guest.{up}
use Rattle.dm_decode.specs.Texts.{text_of}
use Rattle.dm_views.specs.Digits.{two_digits, address_text}

-- the line of an instruction: its address, its bytes and its text. `next` is the offset after it
abbrev pub instruction_line : ℕ → ℕ → List ℕ → Ins → ℕ → List ℕ
instruction_line segment offset bytes i next = address_text segment offset ++ codes " " ++ flat_map two_digits bytes
    ++ codes " " ++ text_of i next ++ 10 ∷ []

-- the line of a byte with which no instruction begins: its address, the byte and `DB`
abbrev pub byte_line : ℕ → ℕ → ℕ → List ℕ
byte_line segment offset byte = address_text segment offset ++ codes " " ++ two_digits byte ++ codes " DB" ++ 10 ∷ []

-- the line of the k bytes at segment:offset: of the instruction there, or of one byte with which none begins
pub data IsLine (m : Memory) (segment offset : ℕ) : ℕ → List ℕ → Type 0 where
  listed : (i : Ins) (k : ℕ) → BeginsWith (sixteen_after m segment offset) i k →
      IsLine m segment offset k (instruction_line segment offset (take k (sixteen_after m segment offset)) i
      (up offset k))
  unlisted : ((i : Ins) (k : ℕ) → BeginsWith (sixteen_after m segment offset) i k → ⊥) →
      IsLine m segment offset 1 (byte_line segment offset (byte_after m segment offset 0))

-- the text of n lines, the first at segment:offset, each at the offset after the bytes of the one before; and the
-- offset after the last
pub data AreLines (m : Memory) (segment offset : ℕ) : ℕ → ℕ → List ℕ → Type 0 where
  none : AreLines m segment offset 0 offset []
  more : (n at k : ℕ) (text line : List ℕ) → AreLines m segment offset n at text → IsLine m segment at k line →
      AreLines m segment offset (n + 1) (up at k) (text ++ line)

-- the text is the listing of n instructions from segment:offset on
abbrev pub IsCode : Memory → ℕ → ℕ → ℕ → List ℕ → Type 0
IsCode m segment offset n text = (end : ℕ) × AreLines m segment offset n end text
