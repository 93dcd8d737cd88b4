-- What the options of a command line are, by the arguments that `clap` finds in its words: each has a name and its
-- texts.
use Rattle.std.specs.Prelude.{◌≡◌, ℕ, ◌<◌, ◌^◌, Bool, true, false, List, Option, Some, None, ⊤, MatchOption, codes, map, option_map}
use Rattle.std.specs.Str.Parse.{IsNumeral, digits_value, without_leading_plus}
use Rattle.clap.specs.Words.{IsAmong, Kinds, Row, Text, all_of, first_of, kind_of, one_of}
use Rattle.dm_options.specs.declared.command_line.MachineOptions.{MachineOptions}
use Rattle.dm_options.specs.declared.command_line.DebugOptions.{DebugOptions}
use Rattle.dm_options.specs.declared.command_line.CheckOptions.{CheckOptions}
use Rattle.dm_options.specs.declared.command_line.AsmOptions.{AsmOptions}
use Rattle.dm_options.specs.declared.command_line.Options.{Options}
use Rattle.dm_options.specs.declared.command_line.Options.TheVariants as command
use Rattle.dm_options.specs.declared.command_line.OptionsError.{OptionsError}
use Rattle.dm_options.specs.declared.command_line.OptionsError.TheVariants as refusal

-- the text is the decimal number n, below 2^k; it may begin with `+`
abbrev pub IsNumeralWithin : ℕ → Text → ℕ → Type 0
IsNumeralWithin k text n = IsNumeral 10 (without_leading_plus text)
    × (digits_value 10 (without_leading_plus text) < 2 ^ k)
    × (n ≡ digits_value 10 (without_leading_plus text))

-- there is a text, and it is the decimal number n, below 2^k
abbrev pub HasNumber : ℕ → Option Text → ℕ → Type 0
HasNumber k text n = MatchOption text ⊥ (λ t. IsNumeralWithin k t n)

-- b is whether an option that has no value is given, by the text that `clap` has for it: `true` or `false`; false if
-- there is no text
pub record IsGiven (text : Option Text) (b : Bool) : Type 0 where
  pub given : text ≡ Some (codes "true") → b ≡ true
  pub not_given : text ≡ Some (codes "false") → b ≡ false
  pub unknown : text ≡ None → b ≡ false

-- o has the values of the options and files that `dm run`, `dm check`, `dm debug` and `dm gdb` share, as the
-- arguments have them
pub record HasMachineOptions (arguments : List Row) (o : MachineOptions) : Type 0 where
  pub steps : HasNumber 64 (one_of (codes "steps") arguments) o.steps
  pub ems_pages : HasNumber 32 (one_of (codes "ems") arguments) o.ems_pages
  pub xms_kib : HasNumber 32 (one_of (codes "xms") arguments) o.xms_kib
  pub upper : IsGiven (one_of (codes "upper") arguments) o.upper
  pub tail : first_of (codes "tail") arguments ≡ Some o.tail.now
  pub files : all_of (codes "files") arguments ≡ Some (map (λ s. s.now) o.files.items)

-- o has the values of the options and files of `dm debug` and `dm gdb`, as the arguments have them
pub record HasDebugOptions (arguments : List Row) (o : DebugOptions) : Type 0 where
  pub machine : HasMachineOptions arguments o.machine
  pub input : first_of (codes "input") arguments ≡ option_map (λ s. s.now) o.input

-- o has the values of the options and files of `dm check`, as the arguments have them
pub record HasCheckOptions (arguments : List Row) (o : CheckOptions) : Type 0 where
  pub machine : HasMachineOptions arguments o.machine
  pub no_free : IsGiven (one_of (codes "no-free") arguments) o.no_free
  pub json : IsGiven (one_of (codes "json") arguments) o.json

-- o has the two paths of `dm asm`, as the arguments have them
pub record HasAsmOptions (arguments : List Row) (o : AsmOptions) : Type 0 where
  pub input : first_of (codes "in") arguments ≡ Some o.input.now
  pub output : first_of (codes "out") arguments ≡ Some o.output.now

-- these are the options of a subcommand, by its name and its arguments
abbrev pub HasOptions : Text × List Row → Options → Type 0
HasOptions given (command.Run o) = (given.0 ≡ codes "run") × HasMachineOptions given.1 o
HasOptions given (command.Debug o) = (given.0 ≡ codes "debug") × HasDebugOptions given.1 o
HasOptions given (command.Gdb o) = (given.0 ≡ codes "gdb") × HasDebugOptions given.1 o
HasOptions given (command.Check o) = (given.0 ≡ codes "check") × HasCheckOptions given.1 o
HasOptions given (command.Asm o) = (given.0 ≡ codes "asm") × HasAsmOptions given.1 o
HasOptions given (command.Disasm path) = (given.0 ≡ codes "disasm") × (first_of (codes "in") given.1 ≡ Some path.now)

-- the error is right for words whose first fault may have these kinds: `Usage` has one of the kinds; `Memory` is right
-- for any words
abbrev pub Explains : Kinds → OptionsError → Type 0
Explains kinds (refusal.Usage e) = IsAmong (kind_of e) kinds
Explains kinds refusal.Memory = ⊤
