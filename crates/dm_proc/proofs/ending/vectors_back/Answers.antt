use Rattle.std.proofs.Common.{◌≡◌, ℕ, List, ◌++◌, ◌∙◌, ap}
use Rattle.dm_space.specs.Memory.{Memory, Held}
use Rattle.dm_proc.specs.Writes.{apply, upwards, bytes_from}
use Rattle.dm_proc.specs.Processes.{vectors_back}
use Rattle.dm_proc.proofs.ending.vectors_back.Goals as goal

back : (m n : Memory) (segment : ℕ) (xs : List ℕ) → n ≡ apply (upwards m.a20 0 0x88 xs) m →
    xs ≡ bytes_from m segment 0x0A 12 → n ≡ vectors_back m segment
unfolding vectors_back
back m n segment xs e f = e ∙ ap (λ ys. apply (upwards m.a20 0 0x88 ys) m) f

pub returns : goal.returns
returns c =
    back c.args.space.now.memory c.write_from.new.space.memory c.args.segment c.as_slice.result.now
    (ap (λ (h : Held). h.memory) c.write_from.ensures)
    (c.as_slice.ensures.value ∙ c.push_guest.ensures.items ∙ ap (λ (ys : List ℕ). ys
    ++ bytes_from c.args.space.now.memory c.args.segment 0x0A 12) c.new-vectors.ensures)
