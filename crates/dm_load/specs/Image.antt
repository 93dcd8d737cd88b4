-- Program files: COM files, and MZ files with the words of their header (MS-DOS Programmer's Reference, "EXE File
-- Header"). Which files cannot be loaded is this machine's own choice.
use Rattle.std.specs.Prelude.{ℕ, zero, suc, ◌+◌, ◌-◌, ◌*◌, ◌/◌, ◌%◌, ◌<◌, ◌≤◌, Bool, ◌==◌, ◌&&◌, ◌||◌, if◌then◌else◌, List, length, slice_index, slice_range, slice_set}
use Rattle.dm_load.specs.declared.format.Kind.{Kind}
use Rattle.dm_load.specs.declared.format.Kind.TheVariants.{Com, Mz}
use Rattle.dm_load.specs.declared.format.FarPointer.{FarPointer}

-- the little-endian word at offset k of a file or an image
abbrev pub word : List ℕ → ℕ → ℕ
word bytes k = slice_index bytes k + 256 * slice_index bytes (k + 1)

-- the bytes of an image with the little-endian word at offset k set to v, as a relocation does; the other bytes stay
abbrev pub with_word : List ℕ → ℕ → ℕ → List ℕ
with_word bytes k v = slice_set (slice_set bytes k (v % 256)) (k + 1) (v / 256)

-- whether the file begins with `MZ` or `ZM`; any other one is a COM file
unfoldable pub is_mz : List ℕ → Bool
is_mz file =
    (slice_index file 0 == 0x4D && slice_index file 1 == 0x5A) || (slice_index file 0 == 0x5A &&
    slice_index file 1 == 0x4D)

-- the kind of a program file: `Mz` or `Com`
abbrev pub file_kind : List ℕ → Kind
file_kind file = if is_mz file then Mz else Com

-- word 02h modulo 512: the number of bytes in the last page of 512; 0 where it is full
abbrev pub last_page : List ℕ → ℕ
last_page file = word file 0x02 % 512

-- word 04h: the number of pages of 512 bytes that header and image have, the last one counted whole
abbrev pub file_pages : List ℕ → ℕ
file_pages file = word file 0x04

-- word 08h, the length of the header: in paragraphs in the file, here in bytes
abbrev pub header_length : List ℕ → ℕ
header_length file = word file 0x08 * 16

-- word 0Ah: the number of paragraphs that a program needs after its image
abbrev pub minimum : List ℕ → ℕ
minimum file = word file 0x0A

-- word 0Ch: the number of paragraphs that a program asks for after its image
abbrev pub maximum : List ℕ → ℕ
maximum file = word file 0x0C

-- CS:IP at the start, from words 16h and 14h; the segment counts from the image
abbrev pub start_pointer : List ℕ → FarPointer
start_pointer file = record { segment = word file 0x16; offset = word file 0x14 }

-- SS:SP at the start, from words 0Eh and 10h; the segment counts from the image
abbrev pub stack : List ℕ → FarPointer
stack file = record { segment = word file 0x0E; offset = word file 0x10 }

-- the number of bytes of header and image together, by the page counts of an MZ header
unfoldable pub file_size : List ℕ → ℕ
file_size file = if last_page file == 0 then file_pages file * 512 else (file_pages file - 1) * 512 + last_page file

-- word 06h: the number of relocations of an MZ file; a COM file has none
unfoldable pub relocations : List ℕ → ℕ
relocations file = if is_mz file then word file 0x06 else 0

-- the offset in the file of entry k of the relocation table: the table begins at the offset in word 18h, and an entry
-- has 4 bytes
abbrev pub entry : List ℕ → ℕ → ℕ
entry file k = word file 0x18 + 4 * k

-- the offset in the image of the word that relocation k changes
abbrev pub target : List ℕ → ℕ → ℕ
target file k = word file (entry file k + 2) * 16 + word file (entry file k)

-- the image before relocation: an MZ file's bytes from the end of the header up to `file_size`; a COM file is its own
-- image
unfoldable pub image : List ℕ → List ℕ
image file = if is_mz file then slice_range file (header_length file) (file_size file) else file

-- an MZ file that can be loaded: it has at least 28 bytes and one page; header and image, and a relocation table that
-- has an entry, lie in the file, and the word of each relocation lies in the image
pub record IsGoodMz (file : List ℕ) : Type 0 where
  pub header : 28 ≤ length file
  pub some_pages : 0 < file_pages file
  pub whole : file_size file ≤ length file
  pub table : 0 < word file 0x06 → entry file (word file 0x06) ≤ length file
  pub header_fits : header_length file ≤ file_size file
  pub inside : (k : ℕ) → k < word file 0x06 → target file k + 2 ≤ file_size file - header_length file

-- a file of this kind can be loaded: a COM file has at most 65,278 bytes
abbrev pub IsGoodAs : Kind → List ℕ → Type 0
IsGoodAs Com file = length file ≤ 65278
IsGoodAs Mz file = IsGoodMz file

-- a program file that can be loaded
abbrev pub IsGood : List ℕ → Type 0
IsGood file = IsGoodAs (file_kind file) file

-- the image after the first k relocations, in the order of the table: each adds the segment `start` to its word,
-- modulo 65,536
abbrev pub relocated_by : ℕ → List ℕ → ℕ → List ℕ
relocated_by zero file start = image file
relocated_by (suc k) file start =
    let before = relocated_by k file start in
    with_word before (target file k) ((word before (target file k) + start) % 65536)

-- the image with all relocations made: each adds the segment `start` to its word
abbrev pub relocated : List ℕ → ℕ → List ℕ
relocated file start = relocated_by (relocations file) file start
