-- The listing of the registers.
-- Source: MS-DOS User's Reference, "DEBUG" (Register); Intel 8086 Family User's Manual, section 2.2. The form is this
-- machine's own.
use Rattle.std.specs.Prelude.{◌≡◌, ℕ, List, [], ◌∷◌, ◌++◌, codes}
use Rattle.std.specs.List.{flat_map}
use Rattle.dm_space.specs.Memory.{Memory}
use Rattle.dm_alu.specs.Flags.{flags_word}
use Rattle.dm_cpu.specs.declared.cpu.Cpu.{Cpu}
use Rattle.dm_views.specs.declared.registers.Field.{Field}
use Rattle.dm_views.specs.Digits.{four_digits}
use Rattle.dm_views.specs.Code.{IsLine}

-- a register with its name and its value
abbrev pub field : List ℕ → ℕ → Field
field name value = record { name = name; value = value }

-- a register as NAME=VALUE, its value in four digits
abbrev pub field_text : Field → List ℕ
field_text f = f.name ++ codes "=" ++ four_digits f.value

-- a line of registers, separated by spaces
abbrev pub fields_text : List Field → List ℕ
fields_text [] = 10 ∷ []
fields_text (f ∷ fs) = field_text f ++ flat_map (λ g. codes " " ++ field_text g) fs ++ 10 ∷ []

-- the registers of the first line: AX to DX, SP, BP, SI and DI
abbrev pub general : Cpu → List Field
general c =
    field (codes "AX") c.ax ∷ field (codes "BX") c.bx ∷ field (codes "CX") c.cx ∷ field (codes "DX") c.dx
    ∷ field (codes "SP") c.sp ∷ field (codes "BP") c.bp ∷ field (codes "SI") c.si ∷ field (codes "DI") c.di ∷ []

-- the registers of the second line: the segment registers, IP, and the FLAGS word as PUSHF stores it
abbrev pub special : Cpu → List Field
special c =
    field (codes "DS") c.ds ∷ field (codes "ES") c.es ∷ field (codes "SS") c.ss ∷ field (codes "CS") c.cs
    ∷ field (codes "IP") c.ip ∷ field (codes "FL") (flags_word c.flags) ∷ []

-- the text is the listing of the registers: two lines of registers, and the line of the instruction at CS:IP
pub record IsRegistersText (c : Cpu) (m : Memory) (text : List ℕ) : Type 0 where
  pub count : ℕ
  pub line : List ℕ
  pub is : text ≡ fields_text (general c) ++ fields_text (special c) ++ line
  pub next : IsLine m c.cs c.ip count line
