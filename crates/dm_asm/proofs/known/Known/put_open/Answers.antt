use Rattle.dm_asm.proofs.Remembered.{open_more}
use Rattle.dm_asm.proofs.known.Known.put_open.Goals as goal

pub returns : goal.returns
returns c = λ item xs x e k. rw c.in_ok-push.ensures.items (open_more xs c.args.self.now.lines.items
    c.args.self.now.bytes.items x k)
