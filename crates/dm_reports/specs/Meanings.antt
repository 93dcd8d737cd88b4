-- The meanings of the error codes of calls, in words. Codes that this machine does not return have none.
-- Source: MS-DOS Programmer's Reference, "Error Codes"; LIM EMS 4.0, appendix A; XMS 3.0, error code index.
use Rattle.std.specs.Prelude.{ℕ, ◌==◌, if◌then◌else◌, List, [], codes}
use Rattle.dm_services.specs.declared.functions.Function.{Function}
use Rattle.dm_services.specs.declared.functions.Function.TheVariants.{Unknown}
use Rattle.dm_services.specs.Functions.{function_of}
use Rattle.dm_findings.specs.declared.calls.Call.TheVariants.{Dos, ExpandedMemory, ExtendedMemory}
use Rattle.dm_findings.specs.declared.finding.Act.{Act}
use Rattle.dm_findings.specs.declared.finding.Act.TheVariants as act

-- the meaning of error code 01h of a function of INT 21h, behind a comma: a function that is served does not take what
-- AL or BX has
abbrev pub invalid_function_meaning : Function → List ℕ
invalid_function_meaning Unknown = codes ", no such function"
invalid_function_meaning _ = codes ", no such subfunction or value"

-- the meaning of an error code of the function of INT 21h with this number, behind a comma; empty for another code
abbrev pub dos_meaning : ℕ → ℕ → List ℕ
dos_meaning number code =
    if code == 0x01 then invalid_function_meaning (function_of number) else
    if code == 0x02 then codes ", no such program" else
    if code == 0x07 then codes ", no valid block list" else
    if code == 0x08 then codes ", not enough memory" else
    if code == 0x09 then codes ", no such block" else
    if code == 0x0A then codes ", environment without end" else
    if code == 0x0B then codes ", bad program file" else []

-- the meaning of a status of INT 67h, behind a comma; empty for another status
abbrev pub expanded_meaning : ℕ → List ℕ
expanded_meaning code =
    if code == 0x83 then codes ", no such handle" else
    if code == 0x84 then codes ", no such function" else
    if code == 0x85 then codes ", no handle left" else
    if code == 0x86 then codes ", map still saved" else
    if code == 0x87 then codes ", more pages than there are" else
    if code == 0x88 then codes ", more pages than are free" else
    if code == 0x89 then codes ", no page wanted" else
    if code == 0x8A then codes ", no such logical page" else
    if code == 0x8B then codes ", no such physical page" else
    if code == 0x8D then codes ", map saved already" else
    if code == 0x8E then codes ", no map saved" else
    if code == 0x8F then codes ", no such subfunction" else
    if code == 0x93 then codes ", region past the last page" else
    if code == 0x94 then codes ", regions overlap" else
    if code == 0x95 then codes ", offset past the page" else
    if code == 0x96 then codes ", region too long" else
    if code == 0x97 then codes ", regions overlap" else
    if code == 0x98 then codes ", no such kind of memory" else
    if code == 0xA0 then codes ", no such name" else
    if code == 0xA1 then codes ", name taken, or none" else
    if code == 0xA2 then codes ", region past 1 MiB" else
    if code == 0xA3 then codes ", bad map" else []

-- the meaning of an error code of the extended memory driver, behind a comma; empty for another code
abbrev pub extended_meaning : ℕ → List ℕ
extended_meaning code =
    if code == 0x80 then codes ", no such function" else
    if code == 0x82 then codes ", A20 error" else
    if code == 0x91 then codes ", HMA taken" else
    if code == 0x93 then codes ", HMA not taken" else
    if code == 0x94 then codes ", A20 still on" else
    if code == 0xA0 then codes ", not enough memory" else
    if code == 0xA1 then codes ", no handle left" else
    if code == 0xA2 then codes ", no such handle" else
    if code == 0xA3 then codes ", no such source handle" else
    if code == 0xA4 then codes ", source offset past the block" else
    if code == 0xA5 then codes ", no such destination handle" else
    if code == 0xA6 then codes ", destination offset past the block" else
    if code == 0xA7 then codes ", bad length" else
    if code == 0xAA then codes ", block not locked" else
    if code == 0xAB then codes ", block locked" else
    if code == 0xAC then codes ", too many locks" else
    if code == 0xB0 then codes ", only a smaller block free" else
    if code == 0xB1 then codes ", no block free" else
    if code == 0xB2 then codes ", no such block" else []

-- the meaning of the code with which a call failed, behind a comma; empty if it has none
abbrev pub meaning_text : Act → ℕ → List ℕ
meaning_text (act.Call (Dos number)) code = dos_meaning number code
meaning_text (act.Call (ExpandedMemory number)) code = expanded_meaning code
meaning_text (act.Call (ExtendedMemory number)) code = extended_meaning code
meaning_text _ code = []
