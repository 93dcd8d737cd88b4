-- How large the blocks of a process are, in paragraphs: MS-DOS Programmer's Reference, "EXE File Header" (minimum and
-- maximum allocation) and function 4Bh. That a program which asks for neither takes the largest block, and that the
-- maximum is never under what the program needs, is this machine's own.
use Rattle.std.specs.Prelude.{ℕ, ◌+◌, ◌/◌, ◌==◌, ◌&&◌, max, if◌then◌else◌, List, length}
use Rattle.dm_load.specs.Image.{is_mz, image, minimum, maximum}

-- the number of paragraphs that hold n bytes
abbrev pub paragraphs : ℕ → ℕ
paragraphs n = (n + 15) / 16

-- the least size of a program's block: the prefix, the image, and after it a COM program's first word of stack, or
-- the minimum of an MZ header
unfoldable pub least : List ℕ → ℕ
least file =
    if is_mz file then 0x10 + paragraphs (length (image file)) + minimum file
    else 0x10 + paragraphs (length (image file) + 2)

-- the size of a program's block where there is enough memory: all there is for a COM program and for an MZ header
-- with minimum and maximum 0; else prefix, image and maximum, but at least `least`
unfoldable pub most : List ℕ → ℕ
most file =
    if is_mz file then
    (if minimum file == 0 && maximum file == 0 then 0xFFFF
    else max (0x10 + paragraphs (length (image file)) + maximum file) (least file))
    else 0xFFFF
