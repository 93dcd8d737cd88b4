use Rattle.std.proofs.Common.{arith}
use Rattle.dm_arena.proofs.Write.{shape5, kept5, header_written}
use Rattle.dm_arena.proofs.writing.write_high_header.Goals as goal

pub returns-clause-memory : goal.returns-clause-memory
returns-clause-memory c = record {
  shape = shape5 _ _ _ _ _ _ c.args.listed.header.segment _ _ _ _ _ c.set_byte.ensures.memory
      c.set_byte-2.ensures.memory
      c.set_byte-3.ensures.memory c.set_byte-4.ensures.memory c.set_byte-5.ensures.memory;
  written = λ w. header_written _ _ _ _ _ _ c.args.listed.header.segment _ _ _ _ _ c.set_byte.ensures.memory
      c.set_byte-2.ensures.memory c.set_byte-3.ensures.memory c.set_byte-4.ensures.memory c.set_byte-5.ensures.memory w
      _ _ _ c.requires (omega arith) (omega arith) (omega arith) (omega arith) (omega arith) c.signature.ensures
      (omega arith) (omega arith);
  kept = kept5 _ _ _ _ _ _ c.args.listed.header.segment _ _ _ _ _ c.set_byte.ensures.memory c.set_byte-2.ensures.memory
      c.set_byte-3.ensures.memory c.set_byte-4.ensures.memory c.set_byte-5.ensures.memory;
}
