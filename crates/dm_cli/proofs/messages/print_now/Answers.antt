use Rattle.dm_cli.proofs.Following.{printed_no_more, printed_more, printed_part}
use Rattle.dm_cli.proofs.messages.print_now.Goals as goal

pub returns-then-failed : goal.returns-then-failed
returns-then-failed g c start before h = printed_no_more c.args.failed before c.args.text.now start _ c.if-failed.true h

pub returns-in-Ok : goal.returns-in-Ok
returns-in-Ok g c start before h = printed_more c.args.failed before c.args.text.now start _ _ c.if-failed.false h
    c.in-Ok.ensures.ok c.in-Ok.ensures.no_failure

pub returns-in-Err : goal.returns-in-Err
returns-in-Err g c start before h = printed_part c.args.failed before c.args.text.now start _ _ c.if-failed.false h
    c.in-Err.ensures.part c.in-Err.ensures.err
