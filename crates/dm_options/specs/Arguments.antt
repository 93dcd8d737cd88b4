-- The commands and arguments of `dm`, as the command-line library `clap` is given them (Rust's crate `clap`, version
-- 4).
use Rattle.std.specs.Prelude.{[], ◌∷◌, Some, true, codes}
use Rattle.clap.specs.Words.{App, Rule, Text, new_app, new_rule, with_rule, with_subcommand}
use Rattle.clap.specs.declared.builder.action.ArgAction.TheVariants as action
use Rattle.clap.specs.declared.builder.value_parser.ValueParser.TheVariants as parser

-- an option with a long name and one value, which has a default
abbrev pub option_rule : Text → Text → Rule
option_rule name default = record (new_rule name) {
  long = Some name;
  value_names = 1;
  defaults = default ∷ [];
}

-- `--steps N`: a number below 2^64, 100000000 by default
abbrev pub steps_rule : Rule
steps_rule = record (option_rule (codes "steps") (codes "100000000"))
    { parser = Some (parser.Unsigned 0 18446744073709551615) }

-- `--steps N` of `dm gdb`: 1000000 by default
abbrev pub gdb_steps_rule : Rule
gdb_steps_rule = record (option_rule (codes "steps") (codes "1000000"))
    { parser = Some (parser.Unsigned 0 18446744073709551615) }

-- `--ems PAGES`: a number below 2^32, 64 by default
abbrev pub ems_rule : Rule
ems_rule = record (option_rule (codes "ems") (codes "64")) { parser = Some (parser.Unsigned 0 4294967295) }

-- `--xms KIB`: a number below 2^32, 1024 by default
abbrev pub xms_rule : Rule
xms_rule = record (option_rule (codes "xms") (codes "1024")) { parser = Some (parser.Unsigned 0 4294967295) }

-- `--upper`, which has no value
abbrev pub upper_rule : Rule
upper_rule = record (new_rule (codes "upper")) { long = Some (codes "upper"); action = Some action.SetTrue }

-- `--tail TEXT`: the empty text by default
abbrev pub tail_rule : Rule
tail_rule = option_rule (codes "tail") []

-- `FILES`: at least one path
abbrev pub files_rule : Rule
files_rule = record (new_rule (codes "files")) {
  value_names = 1;
  range = Some (record { start_inclusive = 1; end_inclusive = 18446744073709551615 });
  required = true;
}

-- the command with the options and files added that `run`, `debug`, `check` and `gdb` share; `--steps` is given
abbrev pub with_machine_rules : Rule → App → App
with_machine_rules steps a =
    with_rule (with_rule (with_rule (with_rule (with_rule (with_rule a steps) ems_rule) xms_rule) upper_rule) tail_rule)
    files_rule

-- `dm run`
abbrev pub run_app : App
run_app = with_machine_rules steps_rule (new_app (codes "run"))

-- `--input FILE`, which may be left out
abbrev pub input_rule : Rule
input_rule = record (new_rule (codes "input")) { long = Some (codes "input"); value_names = 1 }

-- `dm debug`: as `dm run`, and `--input`
abbrev pub debug_app : App
debug_app = with_rule (with_machine_rules steps_rule (new_app (codes "debug"))) input_rule

-- a required argument of this name that is the path of one file
abbrev pub path_rule : Text → Rule
path_rule name = record (new_rule name) { value_names = 1; required = true }

-- `--no-free`, which has no value
abbrev pub no_free_rule : Rule
no_free_rule = record (new_rule (codes "no-free")) { long = Some (codes "no-free"); action = Some action.SetTrue }

-- `--json`, which has no value
abbrev pub json_rule : Rule
json_rule = record (new_rule (codes "json")) { long = Some (codes "json"); action = Some action.SetTrue }

-- `dm check`: as `dm run`, and `--no-free` and `--json`
abbrev pub check_app : App
check_app = with_rule (with_rule (with_machine_rules steps_rule (new_app (codes "check"))) no_free_rule) json_rule

-- `dm asm`, with the paths of the text and of the file that is written
abbrev pub asm_app : App
asm_app = with_rule (with_rule (new_app (codes "asm")) (path_rule (codes "in"))) (path_rule (codes "out"))

-- `dm disasm`, with the path of the file that is read
abbrev pub disasm_app : App
disasm_app = with_rule (new_app (codes "disasm")) (path_rule (codes "in"))

-- `dm gdb`: as `dm debug`, with another default of `--steps`
abbrev pub gdb_app : App
gdb_app = with_rule (with_machine_rules gdb_steps_rule (new_app (codes "gdb"))) input_rule

-- `dm` before its subcommands are added; it must have one, and has `--version`
abbrev pub named_app : App
named_app = let empty = new_app (codes "dm") in record empty {
  top = record empty.top {
    has_version = true;
    subcommand_required = true;
  };
}

-- `dm` with its subcommands
unfoldable pub dm_app : App
dm_app = with_subcommand (with_subcommand (with_subcommand (with_subcommand
    (with_subcommand (with_subcommand named_app run_app.top) debug_app.top) check_app.top)
    asm_app.top) disasm_app.top) gdb_app.top
