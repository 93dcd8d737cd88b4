use Rattle.std.proofs.Common.{true, refl, ap, ◌∙◌}
use Rattle.std.proofs.lemmas.Result.{IfOk-weaker}
use Rattle.dm_space.specs.Memory.{Memory}
use Rattle.dm_services.specs.state.State.{State}
use Rattle.dm_gdb.specs.declared.replies.Reply.TheVariants as reply
use Rattle.dm_target.specs.Registers.{all_registers}
use Rattle.dm_gdb.specs.Servers.{Served, Replies, plain, registers, register, memory, inserts, removes, describes, places, threads, ends, memory_reply, register_reply, threads_reply}
use Rattle.dm_gdb.proofs.Replying.{replies_as, only_these, if_ok_both}
use Rattle.dm_gdb.proofs.server.Server.reply_to.Goals as goal

pub returns-in_ok-bytes-in-Registers-clause-ok : goal.returns-in_ok-bytes-in-Registers-clause-ok
returns-in_ok-bytes-in-Registers-clause-ok c =
    replies_as c.args.self.now c.args.self.now c.args.self.now c.args.most c.args.request.now _ _ _ registers
    c.in-Registers.is
    (ap reply.Bytes (c.new.ensures ∙ c.in_ok-bytes-in-Registers.ensures ∙ ap all_registers (c.machine.ensures
    ∙ ap (λ (s : Served). s.history.machine) c.self.view_is))) refl

pub returns-in-Register-clause-ok : goal.returns-in-Register-clause-ok
returns-in-Register-clause-ok c =
    let told = ap (λ (m : State). register_reply m c.in-Register.number) (c.machine-in-Register.ensures
    ∙ ap (λ (s : Served). s.history.machine) c.self-in-Register.view_is) in
    IfOk-weaker c.register_reply.result _ (λ r. Replies c.args.self.now c.args.most c.args.request.now r
    c.args.self.now) (λ r e.
    replies_as c.args.self.now c.args.self.now c.args.self.now c.args.most c.args.request.now _ r _
    (register c.in-Register.number) c.in-Register.is (e ∙ told) refl) c.register_reply.ensures

pub returns-in-Memory-clause-ok : goal.returns-in-Memory-clause-ok
returns-in-Memory-clause-ok c =
    let told = ap (λ (m : Memory). memory_reply m c.in-Memory.address c.in-Memory.count)
    (c.space.ensures ∙ ap (λ (m : State). m.memory) c.machine-in-Memory.ensures
    ∙ ap (λ (s : Served). s.history.machine.memory) c.self-in-Memory.view_is) in
    IfOk-weaker c.memory_reply.result _ (λ r. Replies c.args.self.now c.args.most c.args.request.now r c.args.self.now)
    (λ r e.
    replies_as c.args.self.now c.args.self.now c.args.self.now c.args.most c.args.request.now _ r _
    (memory c.in-Memory.address c.in-Memory.count) c.in-Memory.is (e ∙ told) refl) c.memory_reply.ensures

pub returns-in-Insert-clause-ok : goal.returns-in-Insert-clause-ok
returns-in-Insert-clause-ok c =
    if_ok_both c.insert.result _ _ (λ r. Replies c.args.self.now c.args.most c.args.request.now r c.insert.new.self)
    (λ r after e.
    replies_as c.args.self.now c.insert.new.self _ c.args.most c.args.request.now _ r _ (inserts c.in-Insert.point)
    c.in-Insert.is e after) c.insert.ensures.ok c.insert.ensures.reply

pub returns-in-Remove-clause-ok : goal.returns-in-Remove-clause-ok
returns-in-Remove-clause-ok c = replies_as _ _ _ _ _ _ _ _ (removes c.in-Remove.point) c.in-Remove.is
    c.remove.ensures.reply c.remove.ensures.after

pub returns-in-Features-clause-ok : goal.returns-in-Features-clause-ok
returns-in-Features-clause-ok c =
    IfOk-weaker c.features_reply.result _ (λ r. Replies c.args.self.now c.args.most c.args.request.now r
    c.args.self.now) (λ r e.
    replies_as c.args.self.now c.args.self.now c.args.self.now c.args.most c.args.request.now _ r _
    (describes c.in-Features.offset c.in-Features.count) c.in-Features.is e refl) c.features_reply.ensures

pub returns-in-Offsets-clause-ok : goal.returns-in-Offsets-clause-ok
returns-in-Offsets-clause-ok c =
    replies_as c.args.self.now c.args.self.now c.args.self.now c.args.most c.args.request.now _ _ _ places
    c.in-Offsets.is (ap (λ (s : Served). reply.Offsets s.base) c.self-in-Offsets.view_is) refl

pub returns-in-FirstThreads-clause-ok : goal.returns-in-FirstThreads-clause-ok
returns-in-FirstThreads-clause-ok c =
    replies_as c.args.self.now c.args.self.now c.args.self.now c.args.most c.args.request.now _ _ _ threads
    c.in-FirstThreads.is
    (c.threads_reply.ensures ∙ ap (λ (s : Served). threads_reply s.ended) c.self-in-FirstThreads.view_is) refl

pub returns-in-EndProgram-clause-ok : goal.returns-in-EndProgram-clause-ok
returns-in-EndProgram-clause-ok c =
    replies_as c.args.self.now _ _ c.args.most c.args.request.now _ _ _ ends c.in-EndProgram.is refl
    (ap (λ (s : Served). record s { ended = true }) c.self-in-EndProgram.view_is)

pub returns-in_default : goal.returns-in_default
returns-in_default c = record {
  ok = replies_as _ _ _ _ _ _ _ _ (plain c.args.request.now (only_these c.args.request.now c.in_default.not-Registers
      c.in_default.not-Register c.in_default.not-Memory
      c.in_default.not-SetMemory c.in_default.not-SetRegister c.in_default.not-Features c.in_default.not-Command
      c.in_default.not-Offsets c.in_default.not-FirstThreads c.in_default.not-EndProgram c.in_default.not-Insert
      c.in_default.not-Remove c.in_default.not-Step c.in_default.not-Continue c.in_default.not-Range
      c.in_default.not-StepBack c.in_default.not-ContinueBack c.in_default.not-Restart)) refl c.plain_reply.ensures
      refl;
  err = tt;
}
