-- What `dm asm` and `dm disasm` write, by what the file that they read holds. `known` is what that file holds, where it
-- is known.
use Rattle.std.specs.Prelude.{ℕ, ◌≡◌, ◌<◌, ◌≤◌, ◌⊎◌, Bool, List, Option, Some, None, false, length, true}
use Rattle.std.specs.Str.{bytes_eq}
use Rattle.std.specs.Io.KnownBytes.{Appends, Keeps}
use Rattle.dm_asm.specs.declared.refusal.AssemblyRefusal.{AssemblyRefusal}
use Rattle.dm_asm.specs.Programs.{Refuses}
use Rattle.dm_asm.specs.Programs as asm
use Rattle.dm_options.specs.declared.command_line.AsmOptions.{AsmOptions}
use Rattle.dm_console.specs.writers.Out.{AppendsPart, HasFailed}
use Rattle.dm_cli.specs.declared.fault.Fault.{Fault}
use Rattle.dm_cli.specs.declared.fault.Fault.TheVariants.{OutOfMemory, TooLong}
use Rattle.dm_cli.specs.Faults.{IsUnwritten, IsWriteFault, refusal_fault}
use Rattle.dm_cli.specs.Saving.{IsToldOfPaths, Saves}
use Rattle.dm_decode.specs.disassembly.Listing.{IsListing}
use Rattle.dm_cli.specs.Stores.{IsInputFault, IsRead}

-- these are the bytes of the program whose assembly text is in the file
pub record IsAssembled (known : Option (List ℕ)) (bytes : List ℕ) : Type 0 where
  pub text : List ℕ
  pub read : IsRead known text
  pub assembles : asm.Assembles text bytes

-- this is the assembly text of the program in the file, which has at most 65,278 bytes
pub record IsDisassembled (known : Option (List ℕ)) (text : List ℕ) : Type 0 where
  pub bytes : List ℕ
  pub read : IsRead known bytes
  pub few : length bytes ≤ 65278
  pub lists : IsListing bytes text

-- a fault of `dm asm` before it writes: the file can't be read, its text has an error, or an allocation failed
pub data IsAsmFault (known : Option (List ℕ)) (path : List ℕ) : Fault → Type 0 where
  text_unread : (fault : Fault) → IsInputFault known path fault → IsAsmFault known path fault
  text_refused : (text : List ℕ) (why : AssemblyRefusal) → IsRead known text → Refuses text why →
      IsAsmFault known path (refusal_fault why)
  text_no_memory : IsAsmFault known path OutOfMemory

-- `dm asm`: the bytes of the text are written to a file; or that failed, and the count of failed saves is one higher;
-- or the file is the one of the text, by the same path or by another that leads to it, which is not written over; or a
-- fault came before. `before` and `after` are the files written, which change in the first case alone. `same` is
-- whether two paths lead to one file, where that is known, and `found` and `found'` are how often two were found to
pub data AssemblesFile (files : List ℕ → Option (List ℕ)) (same : List ℕ → List ℕ → Option Bool) (o : AsmOptions)
    (before after : Option (List (List ℕ × List ℕ))) (failed_before failed_after found found' : ℕ) :
    Option Fault → Type 0 where
  saved : (bytes : List ℕ) → IsAssembled (files o.input.now) bytes → bytes_eq o.output.now o.input.now ≡ false →
      IsToldOfPaths (same o.output.now o.input.now) found found' false → Saves before after o.output.now bytes →
      failed_after ≡ failed_before
      → AssemblesFile files same o before after failed_before failed_after found found' None
  unsaved : (bytes : List ℕ) (fault : Fault) → IsAssembled (files o.input.now) bytes →
      bytes_eq o.output.now o.input.now ≡ false → IsToldOfPaths (same o.output.now o.input.now) found found' false →
      IsUnwritten o.output.now fault ⊎ (fault ≡ OutOfMemory)
      → HasFailed failed_before failed_after → after ≡ before →
      AssemblesFile files same o before after failed_before failed_after found found' (Some fault)
  not_over_its_path : (bytes : List ℕ) (fault : Fault) → IsAssembled (files o.input.now) bytes →
      bytes_eq o.output.now o.input.now ≡ true → IsUnwritten o.output.now fault
      → after ≡ before → failed_after ≡ failed_before → found' ≡ found →
      AssemblesFile files same o before after failed_before failed_after found found' (Some fault)
  not_over_its_file : (bytes : List ℕ) (fault : Fault) → IsAssembled (files o.input.now) bytes →
      bytes_eq o.output.now o.input.now ≡ false → IsToldOfPaths (same o.output.now o.input.now) found found' true →
      IsUnwritten o.output.now fault
      → after ≡ before → failed_after ≡ failed_before →
      AssemblesFile files same o before after failed_before failed_after found found' (Some fault)
  not_assembled : (fault : Fault) → IsAsmFault (files o.input.now) o.input.now fault → after ≡ before →
      failed_after ≡ failed_before → found' ≡ found
      → AssemblesFile files same o before after failed_before failed_after found found' (Some fault)

-- a fault of `dm disasm` before it writes: the file can't be read, it has more than 65,278 bytes, or an allocation
-- failed
pub data IsDisasmFault (known : Option (List ℕ)) (path : List ℕ) : Fault → Type 0 where
  bytes_unread : (fault : Fault) → IsInputFault known path fault → IsDisasmFault known path fault
  bytes_too_long : (bytes : List ℕ) → IsRead known bytes → 65278 < length bytes → IsDisasmFault known path TooLong
  bytes_no_memory : IsDisasmFault known path OutOfMemory

-- `dm disasm`: the assembly text is appended to standard output; or a first part of it, if a write failed; or nothing,
-- at a fault before. `before` and `after` are what standard output has taken
pub data Disassembles (files : List ℕ → Option (List ℕ)) (path : List ℕ) (before after : Option (List ℕ))
    (failed_before failed_after : ℕ) : Option Fault → Type 0 where
  listed : (text : List ℕ) → IsDisassembled (files path) text → Appends before after text → failed_after ≡ failed_before
      → Disassembles files path before after failed_before failed_after None
  partly_listed : (text : List ℕ) (fault : Fault) → IsDisassembled (files path) text → AppendsPart before after text →
      HasFailed failed_before failed_after → IsWriteFault fault
      → Disassembles files path before after failed_before failed_after (Some fault)
  not_listed : (fault : Fault) → IsDisasmFault (files path) path fault → Keeps before after →
      failed_after ≡ failed_before
      → Disassembles files path before after failed_before failed_after (Some fault)
