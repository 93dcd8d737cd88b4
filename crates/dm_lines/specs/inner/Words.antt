-- The reserved words as the code has them: each is one of an enumeration, has a spelling and a meaning, and is looked
-- up by its first byte. For private contracts and proofs alone.
use Rattle.std.specs.Prelude.{ℕ, Bool, true, false, ◌==◌, List, [], ◌∷◌, ◌++◌, map, slice_index, Option, option_map, codes}
use Rattle.dm_ins.specs.declared.action.Mnemonic.{Mnemonic}
use Rattle.dm_ins.specs.declared.action.Mnemonic.TheVariants as op
use Rattle.dm_ins.specs.declared.prefix.Repeat.TheVariants.{NotEqual, Equal}
use Rattle.dm_decode.specs.declared.words.written.Size.TheVariants as size
use Rattle.dm_ins.specs.Registers.{byte_registers, word_registers}
use Rattle.dm_decode.specs.Names.{byte_name, word_name, segment_name, segment_registers, name_of, mnemonics, named}
use Rattle.dm_lines.specs.declared.words.Alias.{Alias}
use Rattle.dm_lines.specs.declared.words.Alias.TheVariants as alias
use Rattle.dm_lines.specs.declared.words.Keyword.{Keyword}
use Rattle.dm_lines.specs.declared.words.Keyword.TheVariants as keyword
use Rattle.dm_lines.specs.declared.words.Reserved.{Reserved}
use Rattle.dm_lines.specs.declared.words.Reserved.TheVariants as word
use Rattle.dm_lines.specs.declared.token.Token.{Token}
use Rattle.dm_lines.specs.declared.token.Token.TheVariants as t
use Rattle.dm_lines.specs.Words.{is_one_word}

-- ---- how they are written

-- the spelling of another name of a mnemonic, in ASCII
abbrev pub alias_name : Alias → List ℕ
alias_name alias.Jc = codes "JC"
alias_name alias.Jnae = codes "JNAE"
alias_name alias.Jnc = codes "JNC"
alias_name alias.Jnb = codes "JNB"
alias_name alias.Je = codes "JE"
alias_name alias.Jne = codes "JNE"
alias_name alias.Jna = codes "JNA"
alias_name alias.Jnbe = codes "JNBE"
alias_name alias.Jpe = codes "JPE"
alias_name alias.Jpo = codes "JPO"
alias_name alias.Jnge = codes "JNGE"
alias_name alias.Jnl = codes "JNL"
alias_name alias.Jng = codes "JNG"
alias_name alias.Jnle = codes "JNLE"
alias_name alias.Loopz = codes "LOOPZ"
alias_name alias.Loopnz = codes "LOOPNZ"
alias_name alias.Sal = codes "SAL"

-- the spelling of a keyword, in ASCII
abbrev pub keyword_name : Keyword → List ℕ
keyword_name keyword.Nop = codes "NOP"
keyword_name keyword.Lock = codes "LOCK"
keyword_name keyword.Rep = codes "REP"
keyword_name keyword.Repe = codes "REPE"
keyword_name keyword.Repz = codes "REPZ"
keyword_name keyword.Repne = codes "REPNE"
keyword_name keyword.Repnz = codes "REPNZ"
keyword_name keyword.Far = codes "FAR"
keyword_name keyword.Short = codes "SHORT"
keyword_name keyword.Byte = codes "BYTE"
keyword_name keyword.Word = codes "WORD"
keyword_name keyword.Near = codes "NEAR"
keyword_name keyword.Db = codes "DB"
keyword_name keyword.Dw = codes "DW"

-- the spelling of a reserved word, in ASCII
abbrev pub spelling_of : Reserved → List ℕ
spelling_of (word.Byte r) = byte_name r
spelling_of (word.Word r) = word_name r
spelling_of (word.Segment r) = segment_name r
spelling_of (word.Mnemonic m) = name_of m
spelling_of (word.Alias a) = alias_name a
spelling_of (word.Keyword k) = keyword_name k

-- ---- what they are

-- the mnemonic of which this is another name
abbrev pub alias_mnemonic : Alias → Mnemonic
alias_mnemonic alias.Jc = op.Jb
alias_mnemonic alias.Jnae = op.Jb
alias_mnemonic alias.Jnc = op.Jae
alias_mnemonic alias.Jnb = op.Jae
alias_mnemonic alias.Je = op.Jz
alias_mnemonic alias.Jne = op.Jnz
alias_mnemonic alias.Jna = op.Jbe
alias_mnemonic alias.Jnbe = op.Ja
alias_mnemonic alias.Jpe = op.Jp
alias_mnemonic alias.Jpo = op.Jnp
alias_mnemonic alias.Jnge = op.Jl
alias_mnemonic alias.Jnl = op.Jge
alias_mnemonic alias.Jng = op.Jle
alias_mnemonic alias.Jnle = op.Jg
alias_mnemonic alias.Loopz = op.Loope
alias_mnemonic alias.Loopnz = op.Loopne
alias_mnemonic alias.Sal = op.Shl

-- the token of a keyword: REP, REPE and REPZ have one, and so have REPNE and REPNZ
abbrev pub keyword_token : Keyword → Token
keyword_token keyword.Nop = t.Nop
keyword_token keyword.Lock = t.Lock
keyword_token keyword.Rep = t.Repeat Equal
keyword_token keyword.Repe = t.Repeat Equal
keyword_token keyword.Repz = t.Repeat Equal
keyword_token keyword.Repne = t.Repeat NotEqual
keyword_token keyword.Repnz = t.Repeat NotEqual
keyword_token keyword.Far = t.Far
keyword_token keyword.Short = t.Short
keyword_token keyword.Byte = t.Size size.Byte
keyword_token keyword.Word = t.Size size.Word
keyword_token keyword.Near = t.Size size.Near
keyword_token keyword.Db = t.DataBytes
keyword_token keyword.Dw = t.DataWords

-- the token of a reserved word; another name of a mnemonic has the token of that mnemonic
abbrev pub meaning_of : Reserved → Token
meaning_of (word.Byte r) = t.Byte r
meaning_of (word.Word r) = t.Word r
meaning_of (word.Segment r) = t.Segment r
meaning_of (word.Mnemonic m) = t.Mnemonic m
meaning_of (word.Alias a) = t.Mnemonic (alias_mnemonic a)
meaning_of (word.Keyword k) = keyword_token k

-- ---- which there are

-- x in front of the list if the first argument is true, else the list; for `those`
abbrev pub onto : {A : Type 0} → Bool → A → List A → List A
onto true x xs = x ∷ xs
onto false x xs = xs

-- the elements of a list, of mnemonics or reserved words, for which p is true, in their order
abbrev pub those : {A : Type 0} → (A → Bool) → List A → List A
those p [] = []
those p (x ∷ xs) = onto (p x) x (those p xs)

-- every other name of a mnemonic
abbrev pub all_aliases : List Alias
all_aliases = alias.Jc ∷ alias.Jnae ∷ alias.Jnc ∷ alias.Jnb ∷ alias.Je ∷ alias.Jne ∷ alias.Jna ∷ alias.Jnbe ∷ alias.Jpe
    ∷ alias.Jpo ∷ alias.Jnge ∷ alias.Jnl ∷ alias.Jng ∷ alias.Jnle ∷ alias.Loopz ∷ alias.Loopnz ∷ alias.Sal ∷ []

-- every keyword
abbrev pub all_keywords : List Keyword
all_keywords = keyword.Nop ∷ keyword.Lock ∷ keyword.Rep ∷ keyword.Repe ∷ keyword.Repz ∷ keyword.Repne ∷ keyword.Repnz
    ∷ keyword.Far ∷ keyword.Short ∷ keyword.Byte ∷ keyword.Word ∷ keyword.Near ∷ keyword.Db ∷ keyword.Dw ∷ []

-- all reserved words: the names of registers, the mnemonics of one word, their other names, and the keywords
abbrev pub all_words : List Reserved
all_words =
    map word.Byte byte_registers ++ map word.Word word_registers ++ map word.Segment segment_registers
    ++ map word.Mnemonic (those is_one_word mnemonics) ++ map word.Alias all_aliases ++ map word.Keyword all_keywords

-- the token of a word in upper case, by its spelling; None if it is not reserved
abbrev pub reserved_by : List ℕ → Option Token
reserved_by w = option_map meaning_of (named spelling_of all_words w)

-- the spelling of the reserved word begins with the byte b
abbrev pub begins : ℕ → Reserved → Bool
begins b r = slice_index (spelling_of r) 0 == b
