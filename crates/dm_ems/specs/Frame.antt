-- The page frame (LIM EMS 4.0, function 25; INT 67h function 58h): four windows of 16 KiB from segment E000h on.
use Rattle.std.specs.Prelude.{ℕ, List, ◌++◌}
use Rattle.dm_ems.specs.Tables.{Expanded}
use Rattle.dm_ems.specs.Names.{word_bytes, writing}

-- the segment and the number of each window, two words each, in 16 bytes
abbrev pub frame : List ℕ
frame = word_bytes 0xE000 ++ word_bytes 0 ++ word_bytes 0xE400 ++ word_bytes 1 ++ word_bytes 0xE800 ++ word_bytes 2
    ++ word_bytes 0xEC00 ++ word_bytes 3

-- 58h, AL = 0: the 16 bytes of `frame` are written at segment:offset; the tables stay
abbrev pub list_frame : Expanded → ℕ → ℕ → Expanded
list_frame x segment offset = writing x segment offset frame
