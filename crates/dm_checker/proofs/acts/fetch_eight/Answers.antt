use Rattle.std.proofs.Common.{refl}
use Rattle.dm_checker.proofs.Fetched.{bytes_of_eight}
use Rattle.dm_checker.proofs.acts.fetch_eight.Goals as goal

pub returns-in-Some : goal.returns-in-Some
returns-in-Some c = bytes_of_eight c.args.space.now.memory c.args.cpu.now c.args.skipped _ _ _ refl c.in-Some.ensures
    c.to_le_bytes.ensures
