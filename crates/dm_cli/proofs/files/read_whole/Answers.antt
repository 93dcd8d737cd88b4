use Rattle.std.proofs.Common.{rules}
use Rattle.dm_cli.proofs.Cuts.{cut_past_end}
use Rattle.dm_cli.proofs.files.read_whole.Goals as goal

pub returns-in-Ok-clause-bytes : goal.returns-in-Ok-clause-bytes
returns-in-Ok-clause-bytes g c = record {
  all = cut_past_end (g.R.Read.remaining c.args.reader) c.read_to_end.new.buf.items _
      (rw (c.take-limited.ensures.inner, c.new-bytes.ensures.items) at c.in-Ok.ensures.bytes)
      (rw (c.take-limited.ensures.limit) (search rules));
  short = search rules;
}
