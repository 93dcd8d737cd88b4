use Rattle.std.proofs.Common.{refl, inl, inr, arith, ℕ}
use Rattle.dm_requests.specs.declared.request.Request.TheVariants as request
use Rattle.dm_gdb.specs.Servers.{Replies, writes, out_of_reach}
use Rattle.dm_gdb.proofs.Replying.{replies_as, if_ok_both}
use Rattle.dm_gdb.proofs.server.Server.set_memory.Goals as goal

pub returns-then-address-gt-LAST-clause-ok : goal.returns-then-address-gt-LAST-clause-ok
returns-then-address-gt-LAST-clause-ok c = λ most. out_of_reach c.args.address c.args.bytes.now (inl (omega arith))

pub returns-then-address-bytes-clause-ok : goal.returns-then-address-bytes-clause-ok
returns-then-address-bytes-clause-ok c =
    if_ok_both c.write.result _ _ (λ r. (most : ℕ) →
    Replies c.args.self.now most (request.SetMemory c.args.address c.args.bytes.now) r c.write.new.self)
    (λ r after e.
    λ most. replies_as c.args.self.now c.write.new.self _ most _ _ r _ (writes c.args.address c.args.bytes.now
    (omega arith) (omega arith)) refl e after) c.write.ensures.after c.write.ensures.reply

pub returns-else-address-bytes-clause-ok : goal.returns-else-address-bytes-clause-ok
returns-else-address-bytes-clause-ok c = λ most. out_of_reach c.args.address c.args.bytes.now (inr (omega arith))
