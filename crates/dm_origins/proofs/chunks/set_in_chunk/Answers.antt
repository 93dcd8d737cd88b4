use Rattle.std.proofs.Common.{List, Option, subst, arith}
use Rattle.dm_findings.specs.declared.finding.Origin.{Origin}
use Rattle.dm_origins.specs.inner.Chunks.{freed_by}
use Rattle.dm_origins.specs.inner.Freed.{within, Frees}
use Rattle.dm_origins.proofs.Chunked.{whole_set, part_written}
use Rattle.dm_origins.proofs.chunks.set_in_chunk.Goals as goal

pub returns-then-end-first-eq-CHUNK : goal.returns-then-end-first-eq-CHUNK
returns-then-end-first-eq-CHUNK c = whole_set c.args.wholes.now c.args.each.now c.args.chunk c.args.first c.args.end
    c.args.origin (omega arith) (omega arith) (omega arith)

pub returns-else-end-first-eq-CHUNK : goal.returns-else-end-first-eq-CHUNK
returns-else-end-first-eq-CHUNK c =
    let F : List (Option Origin) → Type 0 = λ f. Frees (within c.args.first c.args.end) c.args.origin f
    (freed_by c.spread.new.wholes c.write.new.each) in
    subst F c.spread.ensures.same (part_written c.spread.new.wholes c.spread.new.each c.write.new.each c.args.chunk
    c.args.first c.args.end c.args.origin c.requires.from c.requires.to c.spread.ensures.forgotten c.write.ensures)
