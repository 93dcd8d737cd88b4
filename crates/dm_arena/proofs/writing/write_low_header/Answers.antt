use Rattle.std.proofs.Common.{arith}
use Rattle.dm_arena.proofs.Write.{shape5, kept5, header_written}
use Rattle.dm_arena.proofs.writing.write_low_header.Goals as goal

pub returns-clause-memory : goal.returns-clause-memory
returns-clause-memory c =
    let owner = c.set_low_word.ensures.memory in
    let size = c.set_low_word-2.ensures.memory in
    record {
      shape = shape5 _ _ _ _ _ _ c.args.listed.header.segment _ _ _ _ _ c.set_low_byte.ensures.memory owner.1 owner.2
          size.1 size.2;
      written = λ w. header_written _ _ _ _ _ _ c.args.listed.header.segment _ _ _ _ _ c.set_low_byte.ensures.memory
          owner.1 owner.2 size.1 size.2 w _ _ _ c.requires.fits (omega arith) (omega arith) (omega arith) (omega arith)
          (omega arith) c.signature.ensures (omega arith) (omega arith);
      kept = kept5 _ _ _ _ _ _ c.args.listed.header.segment _ _ _ _ _ c.set_low_byte.ensures.memory owner.1 owner.2
          size.1 size.2;
    }
