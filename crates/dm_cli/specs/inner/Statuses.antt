-- The fault of a `dm debug`, `dm gdb`, `dm asm` or `dm disasm`. Private contracts and proofs alone name this.
use Rattle.std.specs.Prelude.{Result, Ok, Err, Option, Some, None}

-- the fault with which a `dm debug`, `dm gdb`, `dm asm` or `dm disasm`, or a part of it, ended; None if its result is
-- Ok
abbrev pub end_of : {A E : Type 0} → Result A E → Option E
end_of (Ok _) = None
end_of (Err fault) = Some fault
