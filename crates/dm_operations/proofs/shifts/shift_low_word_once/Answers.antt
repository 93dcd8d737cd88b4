use Rattle.std.proofs.Common.{◌∙◌, ap, nat_le}
use Rattle.dm_alu.specs.declared.flags.Flags.{Flags}
use Rattle.dm_alu.specs.declared.shifts.ShiftOperation.{ShiftOperation}
use Rattle.dm_alu.specs.declared.width.Width.TheVariants as alu
use Rattle.dm_alu.specs.Shifts.{moves, overflow_after_shift}
use Rattle.dm_operations.proofs.Addresses.{word_held}
use Rattle.dm_operations.proofs.Lowered.{moved_once, word_moved_once}
use Rattle.dm_operations.proofs.shifts.shift_low_word_once.Goals as goal

pub returns-clause-does : goal.returns-clause-does
returns-clause-does g c =
    let o = c.args.place.now.override_ in
    let a = c.args.place.now.address in
    let m = c.args.space.now.memory in
    let n = c.low_word-before.result in
    let r = c.moved_once-carry.result.0 in
    let b = nat_le 2147483648 c.overflow_once-overflow.result in
    let op = g.M.ShiftOrRotate.operation in
    let held = word_held c.args.cpu.now m o a _ _ n c.segment_at-segment.ensures c.offset_at-offset.ensures
    c.low_word-before.ensures c.low_word-before.type_inv in
    let made =
    c.moved_once-carry.ensures.moved
    ∙ ap (λ (x : ShiftOperation). moves x alu.Word 1 (record { value = n; carry = c.flags.result.carry }))
    c.operation-operation.ensures
    ∙ ap (λ (f : Flags). moves op alu.Word 1 (record { value = n; carry = f.carry })) c.flags.ensures in
    let over = c.overflow_once-overflow.ensures ∙ ap (λ (x : ShiftOperation). overflow_after_shift x alu.Word n r)
    c.operation-operation.ensures in
    let set = c.follow_move.ensures ∙ ap (λ (x : ShiftOperation). moved_once c.args.cpu.now x alu.Word r b)
    c.operation-operation.ensures in
    rw c.set_low_word.ensures (word_moved_once c.args.cpu.now c.follow_move.new.cpu m o a _ _ n op r b
    c.segment_at-segment.ensures c.offset_at-offset.ensures made over set held)
