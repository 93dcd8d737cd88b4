-- What the exports of the assembler and the disassembler return and write.
use Rattle.std.specs.Prelude.{◌≡◌, ◌⊎◌, ℕ, ◌<◌, ◌≤◌, List, length}
use Rattle.dm_asm.specs.declared.refusal.AssemblyRefusal.{AssemblyRefusal}
use Rattle.dm_asm.specs.declared.refusal.AssemblyRefusal.TheVariants.{Memory}
use Rattle.dm_asm.specs.Programs.{Assembles, Refuses}
use Rattle.dm_decode.specs.disassembly.Listing.{IsListing}
use Rattle.dm_c.specs.Statuses.{text_status_of, wrong_line}
use Rattle.dm_c.specs.calls.Calls.{GivesItems}

-- `dm_c_assemble`: the bytes of the text's program are copied to the front of the buffer, if they fit, `wanted` is
-- how many they are, and `line` stays; or the text has an error, or an allocation failed: then buffer and `wanted`
-- stay, and `line` becomes the line of the error, if it has one
pub data AssemblesTo (text before after : List ℕ) (wanted_before wanted line_before line status : ℕ) : Type 0 where
  assembled : (bytes : List ℕ) → Assembles text bytes → GivesItems bytes before after wanted status →
      line ≡ line_before → AssemblesTo text before after wanted_before wanted line_before line status
  refused : (why : AssemblyRefusal) → (why ≡ Memory) ⊎ Refuses text why → status ≡ text_status_of why →
      line ≡ wrong_line why line_before → after ≡ before → wanted ≡ wanted_before
      → AssemblesTo text before after wanted_before wanted line_before line status

-- `dm_c_disassemble`: the assembly text of the program, which has at most 65,278 bytes, is copied to the front of the
-- buffer, if it fits, and `wanted` is how many bytes it has; or the program is longer, or an allocation failed, and
-- buffer and `wanted` stay
pub data DisassemblesTo (program before after : List ℕ) (wanted_before wanted status : ℕ) : Type 0 where
  listed : (text : List ℕ) → length program ≤ 65278 → IsListing program text →
      GivesItems text before after wanted status → DisassemblesTo program before after wanted_before wanted status
  too_long : 65278 < length program → status ≡ 21 → after ≡ before → wanted ≡ wanted_before →
      DisassemblesTo program before after wanted_before wanted status
  no_memory : length program ≤ 65278 → status ≡ 3 → after ≡ before → wanted ≡ wanted_before →
      DisassemblesTo program before after wanted_before wanted status
