use Rattle.std.proofs.Common.{rules, codes}
use Rattle.clap.proofs.WalkLemmas.{raw_values-rows}
use Rattle.clap.specs.Words.{found_of}
use Rattle.dm_options.proofs.parse.files_of.Goals as goal

pub returns : goal.returns
returns c = rw (
  ← raw_values-rows (found_of c.args.matches.now) (codes "files"),
  ← c.get_strs.ensures,
  c.in_ok-files-2.ensures.items,
) (search rules)
