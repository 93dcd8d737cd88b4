use Rattle.std.proofs.Common.{ℕ, ◌+◌, ◌%◌, List, ◌++◌, min, ◌∙◌, ap}
use Rattle.dm_proc.specs.Writes.{bytes_from}
use Rattle.dm_proc.specs.Request.{tail_at}
use Rattle.dm_proc.proofs.request.tail_at.Goals as goal

pub returns : goal.returns
unfolding tail_at
returns c =
    let from = λ (n : ℕ). bytes_from c.args.space.now.memory c.args.pointer.segment
    ((c.args.pointer.offset + 1) % 65536) n in
    c.push_guest.ensures.items ∙ ap (λ (xs : List ℕ). xs ++ from c.min-count.result) c.new-tail.ensures
    ∙ ap from (c.min-count.ensures ∙ ap (λ n. min n 126) c.peek.ensures)
