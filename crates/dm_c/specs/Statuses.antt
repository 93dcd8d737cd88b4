-- The version of the library, and the statuses for assembly texts.
use Rattle.std.specs.Prelude.{ℕ}
use Rattle.dm_asm.specs.declared.refusal.AssemblyRefusal as asm
use Rattle.dm_asm.specs.declared.refusal.AssemblyRefusal.TheVariants as text

-- the version of the library, as one number: 10,000 for each whole version, 100 for each smaller one, and the
-- corrections
abbrev pub version_number : ℕ
version_number = 20000

-- the status for an assembly text that is refused: 17 to 21 for an error in it, 3 for a failed allocation
abbrev pub text_status_of : asm.AssemblyRefusal → ℕ
text_status_of (text.Syntax line) = 17
text_status_of (text.Unknown line) = 18
text_status_of (text.Range line) = 19
text_status_of (text.Twice line) = 20
text_status_of text.TooLong = 21
text_status_of text.Memory = 3

-- the line, from 1, of an error in an assembly text; `before` if the error has no line
abbrev pub wrong_line : asm.AssemblyRefusal → ℕ → ℕ
wrong_line (text.Syntax line) before = line
wrong_line (text.Unknown line) before = line
wrong_line (text.Range line) before = line
wrong_line (text.Twice line) before = line
wrong_line text.TooLong before = before
wrong_line text.Memory before = before
