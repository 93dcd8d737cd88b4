use Rattle.std.proofs.Common.{◌≡◌, ap, rules, ◌∙◌}
use Rattle.std.proofs.lemmas.Result.{IfOk-weaker}
use Rattle.clap.specs.Words.{App, app_of, with_subcommand}
use Rattle.dm_options.specs.Arguments.{asm_app, check_app, debug_app, disasm_app, dm_app, gdb_app, named_app, run_app}
use Rattle.dm_options.proofs.Made.{app_with, app_with_last}
use Rattle.dm_options.proofs.arguments.dm_command.Goals as goal

pub returns : goal.returns
unfolding dm_app
returns c =
    let named : app_of c.subcommand_required-command.result ≡ named_app = search rules in
    let on = λ (s a b : App) (e : a ≡ b). ap (λ t. with_subcommand t s.top) e in
    let run = app_with _ _ run_app (app_of c.subcommand_required-command.result) c.in_ok-command.ensures.made
    c.run_command.ensures.app c.run_command.ensures.local c.in_ok-command.ensures.app ∙ on run_app _ _ named in
    let debug = app_with _ _ debug_app (app_of c.in_ok-command.command) c.in_ok-command-2.ensures.made
    c.debug_command.ensures.app c.debug_command.ensures.local c.in_ok-command-2.ensures.app
    ∙ on debug_app _ _ run in
    let check = app_with _ _ check_app (app_of c.in_ok-command-2.command) c.in_ok-command-3.ensures.made
    c.check_command.ensures.app c.check_command.ensures.local c.in_ok-command-3.ensures.app
    ∙ on check_app _ _ debug in
    let asm = app_with _ _ asm_app (app_of c.in_ok-command-3.command) c.in_ok-command-4.ensures.made
    c.asm_command.ensures.app c.asm_command.ensures.local c.in_ok-command-4.ensures.app ∙ on asm_app _ _ check in
    let disasm = app_with _ _ disasm_app (app_of c.in_ok-command-4.command) c.in_ok-command-5.ensures.made
    c.disasm_command.ensures.app c.disasm_command.ensures.local c.in_ok-command-5.ensures.app
    ∙ on disasm_app _ _ asm in
    IfOk-weaker c.with_made-6.result _ _ (λ r h. h ∙ on gdb_app _ _ disasm)
    (app_with_last _ _ gdb_app (app_of c.in_ok-command-5.command) c.with_made-6.ensures.made c.gdb_command.ensures.app
    c.gdb_command.ensures.local c.with_made-6.ensures.app)
