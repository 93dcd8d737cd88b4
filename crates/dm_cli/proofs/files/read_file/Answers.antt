use Rattle.std.proofs.Common.{arith, inr, refl}
use Rattle.dm_cli.proofs.Cuts.{cut_short, cut_long}
use Rattle.dm_cli.proofs.files.read_file.Goals as goal

pub returns-then-len-gt-MOST_BYTES-clause-fault : goal.returns-then-len-gt-MOST_BYTES-clause-fault
returns-then-len-gt-MOST_BYTES-clause-fault g c =
    inr (inr (
      refl,
      cut_long (g.F.Storage.contents c.args.storage.now
          c.args.path.now) c.in-Ok.bytes.items 16777217 16777216 c.in-Ok.ensures.bytes (omega (
            arith,
            c.len.ensures,
            c.if-len-gt-MOST_BYTES.true,
          )),
    ))

pub returns-else-len-gt-MOST_BYTES-clause-bytes : goal.returns-else-len-gt-MOST_BYTES-clause-bytes
returns-else-len-gt-MOST_BYTES-clause-bytes g c = record {
  all = cut_short (g.F.Storage.contents c.args.storage.now c.args.path.now) c.in-Ok.bytes.items 16777217
      c.in-Ok.ensures.bytes (omega (arith, c.len.ensures, c.if-len-gt-MOST_BYTES.false));
  short = omega (arith, c.len.ensures, c.if-len-gt-MOST_BYTES.false);
}
