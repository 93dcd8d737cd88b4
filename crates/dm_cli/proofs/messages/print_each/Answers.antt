use Rattle.std.proofs.Common.{append_assoc}
use Rattle.dm_cli.specs.Messages.{Stream}
use Rattle.dm_cli.proofs.Printed.{part_first, printed_next}
use Rattle.dm_cli.proofs.messages.print_each.Goals as goal

pub returns-in-Err-write_all : goal.returns-in-Err-write_all
returns-in-Err-write_all g c =
    let between : Stream = record {
      bytes = g.E.Out.taken c.write_all.new.out;
      failures = g.E.Out.failures c.write_all.new.out;
    } in
    rw append_assoc (printed_next _ _ _ between _ c.in_default.ensures.ok c.in_default.ensures.no_failure
    (part_first _ c.args.third.now between _ c.in-Err-write_all.ensures.part c.in-Err-write_all.ensures.err))

pub returns : goal.returns
returns g c =
    let between : Stream = record {
      bytes = g.E.Out.taken c.write_all.new.out;
      failures = g.E.Out.failures c.write_all.new.out;
    } in
    let later : Stream = record {
      bytes = g.E.Out.taken c.write_all-2.new.out;
      failures = g.E.Out.failures c.write_all-2.new.out;
    } in
    rw append_assoc (printed_next _ _ _ between _ c.in_default.ensures.ok c.in_default.ensures.no_failure
    (printed_next _ _ between later _ c.in_default-write_all.ensures.ok c.in_default-write_all.ensures.no_failure
    c.print.ensures))
