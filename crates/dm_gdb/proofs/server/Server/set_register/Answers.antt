use Rattle.std.proofs.Common.{◌≡◌, ◌∙◌, ap, refl, rules, ℕ}
use Rattle.dm_requests.specs.declared.request.Request.TheVariants as request
use Rattle.dm_gdb.specs.Servers.{Replies, sets, registers_after, setting_reply, with_registers}
use Rattle.dm_gdb.proofs.Replying.{replies_as, if_ok_both}
use Rattle.dm_gdb.proofs.server.Server.set_register.Goals as goal

pub returns-clause-ok : goal.returns-clause-ok
returns-clause-ok c =
    let is : c.registers_with-cpu.result ≡ registers_after c.args.self.now.history.machine c.args.number
    c.args.bytes.now = search rules in
    if_ok_both c.set_cpu.result _ _ (λ r. (most : ℕ) →
    Replies c.args.self.now most (request.SetRegister c.args.number c.args.bytes.now) r c.set_cpu.new.self)
    (λ r after e.
    λ most. replies_as c.args.self.now c.set_cpu.new.self _ most _ _ r _ (sets c.args.number c.args.bytes.now) refl (e
    ∙ ap setting_reply is)
    (after ∙ ap (with_registers c.args.self.now) is)) c.set_cpu.ensures.after c.set_cpu.ensures.reply
