-- The statement that the text of an instruction is read as. `next` is the offset of the next instruction.
-- Source: the text of an instruction, whose numbers are this machine's own; a target is written as the offset that it
-- leads to.
use Rattle.std.specs.Prelude.{ℕ, ◌+◌, ◌%◌, None}
use Rattle.dm_ins.specs.declared.operand.Base.{Base}
use Rattle.dm_ins.specs.declared.operand.Base.TheVariants.{Direct}
use Rattle.dm_ins.specs.declared.operand.Operand.{Operand}
use Rattle.dm_ins.specs.declared.operand.Operand.TheVariants as operand
use Rattle.dm_ins.specs.declared.action.Action.{Action}
use Rattle.dm_ins.specs.declared.ins.Ins.{Ins}
use Rattle.dm_decode.specs.declared.words.written.Size.{Size}
use Rattle.dm_decode.specs.words.Words.{size_word}
use Rattle.dm_lines.specs.declared.term.Amount.TheVariants.{Plus}
use Rattle.dm_lines.specs.declared.term.Expression.{Expression}
use Rattle.dm_lines.specs.declared.term.Term.{Term}
use Rattle.dm_lines.specs.declared.term.Term.TheVariants as term
use Rattle.dm_lines.specs.declared.statement.Instruction.{Instruction}
use Rattle.dm_lines.specs.Statements.{Statement, instruction}

-- the value that is a number without a sign, with no label
abbrev pub plain_number : ℕ → Expression
plain_number n = record { label = None; amount = Plus n }

-- a memory operand: a direct address is a number, any other one registers and a number
abbrev pub memory_term : Size → Base → ℕ → Term
memory_term s Direct n = term.Address s (plain_number n)
memory_term s b n = term.Memory s b (Plus n)

-- an operand of an action as its text is read
abbrev pub own_term : Action → ℕ → Operand → Term
own_term a next operand.Nothing = term.Nothing
own_term a next (operand.ByteRegister r) = term.ByteRegister r
own_term a next (operand.WordRegister r) = term.WordRegister r
own_term a next (operand.SegmentRegister r) = term.SegmentRegister r
own_term a next (operand.Memory w m) = memory_term (size_word a w) m.base m.displacement
own_term a next (operand.ByteValue n) = term.Number (plain_number n)
own_term a next (operand.WordValue n) = term.Number (plain_number n)
own_term a next operand.One = term.Number (plain_number 1)
own_term a next (operand.Target d) = term.Number (plain_number ((next + d) % 65536))
own_term a next (operand.FarTarget n s) = term.Far s n

-- an instruction as its own text is read
abbrev pub own_instruction : Ins → ℕ → Instruction
own_instruction i next = record {
  prefixes = i.prefixes;
  mnemonic = i.action.mnemonic;
  first = own_term i.action next i.action.first;
  second = own_term i.action next i.action.second;
}

-- the statement that the text of an instruction is read as, which has no label
abbrev pub own_statement : Ins → ℕ → Statement
own_statement i next = record { label = None; item = instruction (own_instruction i next) }
