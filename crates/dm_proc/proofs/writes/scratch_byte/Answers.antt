use Rattle.std.proofs.Common.{ℕ, List, get_or, sym, ◌∙◌, ap, arith}
use Rattle.std.proofs.lemmas.List.{get_or_past}
use Rattle.dm_space.proofs.Keeping.{byte_behind}
use Rattle.dm_proc.proofs.writes.scratch_byte.Goals as goal

pub returns-then-at-bytes-clause-byte : goal.returns-then-at-bytes-clause-byte
returns-then-at-bytes-clause-byte c = sym (ap (λ (l : List ℕ). get_or l c.args.at 0) c.scratch-bytes.ensures.bytes
    ∙ byte_behind c.scratch-bytes.result.now _ c.args.at)

pub returns-else-at-bytes-clause-byte : goal.returns-else-at-bytes-clause-byte
returns-else-at-bytes-clause-byte c =
    sym (ap (λ (l : List ℕ). get_or l c.args.at 0) c.scratch-bytes.ensures.bytes
    ∙ byte_behind c.scratch-bytes.result.now _ c.args.at ∙ get_or_past c.scratch-bytes.result.now c.args.at 0
    (omega arith))
