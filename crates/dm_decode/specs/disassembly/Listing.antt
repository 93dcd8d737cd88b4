-- The listing of a program's bytes, by which `disassemble` is defined: for each instruction its text where its bytes
-- are its preferred ones, else the bytes as data with the text in a comment; and a byte that begins no instruction as
-- data. The program is for offset 0100h; places count from its first byte. Source: Intel 8086 Family User's Manual,
-- section 2.9 (statements of ASM-86); how data is written is this machine's own.
use Rattle.std.specs.Prelude.{ℕ, ◌+◌, ◌<◌, ◌≤◌, List, [], ◌∷◌, ◌++◌, length, take, drop, flat_map, codes}
use Rattle.dm_ins.specs.declared.ins.Ins.{Ins}
use Rattle.dm_ins.specs.Ins.{Spells}
use Rattle.dm_ins.specs.Preferred.{IsPreferred}
use Rattle.dm_decode.specs.Pieces.{byte_in_text}
use Rattle.dm_decode.specs.Texts.{text_of}

-- the k bytes of a program from a place on; fewer at the program's end
abbrev pub bytes_at : List ℕ → ℕ → ℕ → List ℕ
bytes_at bytes at k = take k (drop at bytes)

-- the k bytes from a place on, sixteen at most and none past the end, spell the instruction i
pub record StandsInFile (bytes : List ℕ) (at : ℕ) (i : Ins) (k : ℕ) : Type 0 where
  pub within : at + k ≤ length bytes
  pub short : k ≤ 16
  pub spells : Spells i (bytes_at bytes at k)

-- the word DB and these bytes as numbers, with commas between them
abbrev pub data_text : List ℕ → List ℕ
data_text [] = codes "DB "
data_text (b ∷ bytes) = codes "DB " ++ byte_in_text b ++ flat_map (λ c. codes "," ++ byte_in_text c) bytes

-- the text of an instruction of k bytes at a place; jump targets count from the next instruction
abbrev pub instruction_text : Ins → ℕ → ℕ → List ℕ
instruction_text i at k = text_of i (0x100 + at + k)

-- the line of the k bytes from a place on, without its line end: an instruction in its preferred bytes (`preferred`),
-- one in other bytes (`other`), or one byte where no instruction stands (`single`)
pub data IsListedLine (bytes : List ℕ) (at : ℕ) : ℕ → List ℕ → Type 0 where
  preferred : (i : Ins) (k : ℕ) → StandsInFile bytes at i k → IsPreferred i (bytes_at bytes at k) →
      IsListedLine bytes at k (instruction_text i at k)
  other : (i : Ins) (k : ℕ) → StandsInFile bytes at i k → (IsPreferred i (bytes_at bytes at k) → ⊥) →
      IsListedLine bytes at k (data_text (bytes_at bytes at k) ++ codes " ; " ++ instruction_text i at k)
  single : at < length bytes → ((i : Ins) (k : ℕ) → StandsInFile bytes at i k → ⊥) →
      IsListedLine bytes at 1 (data_text (bytes_at bytes at 1))

-- the lines of the bytes before a place, each with a line end (0Ah)
pub data Lists (bytes : List ℕ) : ℕ → List ℕ → Type 0 where
  none : Lists bytes 0 []
  more : (at k : ℕ) (text line : List ℕ) → Lists bytes at text → IsListedLine bytes at k line →
      Lists bytes (at + k) (text ++ line ++ 10 ∷ [])

-- the text is the listing of all the bytes
abbrev pub IsListing : List ℕ → List ℕ → Type 0
IsListing bytes text = Lists bytes (length bytes) text
