-- The reserved words, which no label may be, and their tokens.
-- Source: Intel 8086 Family User's Manual, section 2.7 (mnemonics, prefixes, and in table 2-15 the other names of the
-- conditional jumps) and section 2.9 (NEAR, FAR, SHORT, BYTE, WORD, DB and DW of ASM-86). How NEAR, BYTE and WORD are
-- used is this machine's own.
use Rattle.std.specs.Prelude.{ℕ, Bool, true, false, List, [], ◌∷◌, ◌++◌, map, filter, Option, option_map, codes}
use Rattle.dm_ins.specs.declared.action.Mnemonic.{Mnemonic}
use Rattle.dm_ins.specs.declared.action.Mnemonic.TheVariants as op
use Rattle.dm_ins.specs.declared.prefix.Repeat.TheVariants.{NotEqual, Equal}
use Rattle.dm_decode.specs.declared.words.written.Size.TheVariants as size
use Rattle.dm_ins.specs.Registers.{byte_registers, word_registers}
use Rattle.dm_decode.specs.Names.{byte_name, word_name, segment_name, segment_registers, name_of, mnemonics, named}
use Rattle.dm_lines.specs.declared.token.Token.{Token}
use Rattle.dm_lines.specs.declared.token.Token.TheVariants as t

-- the other names of mnemonics, each with the mnemonic
abbrev pub aliases : List (List ℕ × Mnemonic)
aliases =
    (codes "JC", op.Jb) ∷ (codes "JNAE", op.Jb) ∷ (codes "JNC", op.Jae) ∷ (codes "JNB", op.Jae) ∷
    (codes "JE", op.Jz) ∷ (codes "JNE", op.Jnz) ∷ (codes "JNA", op.Jbe) ∷ (codes "JNBE", op.Ja) ∷
    (codes "JPE", op.Jp) ∷ (codes "JPO", op.Jnp) ∷ (codes "JNGE", op.Jl) ∷ (codes "JNL", op.Jge) ∷
    (codes "JNG", op.Jle) ∷ (codes "JNLE", op.Jg) ∷ (codes "LOOPZ", op.Loope) ∷ (codes "LOOPNZ", op.Loopne) ∷
    (codes "SAL", op.Shl) ∷ []

-- the keywords, each with its token: REP, REPE and REPZ have one, and so have REPNE and REPNZ
abbrev pub keywords : List (List ℕ × Token)
keywords =
    (codes "NOP", t.Nop) ∷ (codes "LOCK", t.Lock) ∷ (codes "REP", t.Repeat Equal) ∷ (codes "REPE", t.Repeat Equal) ∷
    (codes "REPZ", t.Repeat Equal) ∷ (codes "REPNE", t.Repeat NotEqual) ∷ (codes "REPNZ", t.Repeat NotEqual)
    ∷ (codes "FAR", t.Far) ∷
    (codes "SHORT", t.Short) ∷ (codes "BYTE", t.Size size.Byte) ∷ (codes "WORD", t.Size size.Word)
    ∷ (codes "NEAR", t.Size size.Near) ∷
    (codes "DB", t.DataBytes) ∷ (codes "DW", t.DataWords) ∷ []

-- the mnemonic's name is one word
abbrev pub is_one_word : Mnemonic → Bool
is_one_word op.CallFar = false
is_one_word op.JmpFar = false
is_one_word op.JmpShort = false
is_one_word _ = true

-- all reserved words, each with its token: the names of registers, the mnemonics of one word, their other names, and
-- the keywords
abbrev pub reserved_words : List (List ℕ × Token)
reserved_words =
    map (λ r. (byte_name r, t.Byte r)) byte_registers ++ map (λ r. (word_name r, t.Word r)) word_registers
    ++ map (λ r. (segment_name r, t.Segment r)) segment_registers
    ++ map (λ m. (name_of m, t.Mnemonic m)) (filter is_one_word mnemonics)
    ++ map (λ (a : List ℕ × Mnemonic). (a.0, t.Mnemonic a.1)) aliases ++ keywords

-- the token of a word in upper case; None if it is not reserved
unfoldable pub reserved : List ℕ → Option Token
reserved w = option_map (λ (pair : List ℕ × Token). pair.1) (named (λ (pair : List ℕ × Token). pair.0) reserved_words w)
