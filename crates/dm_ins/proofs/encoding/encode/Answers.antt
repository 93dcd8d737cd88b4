use Rattle.dm_ins.proofs.Shortest.{encode_least, encode_spells, no_best}
use Rattle.dm_ins.proofs.encoding.encode.Goals as goal

pub returns-in-Some : goal.returns-in-Some
returns-in-Some c =
    rw (c.whole.ensures)
    (record {
      spells = encode_spells c.args.ins.now.prefixes c.args.ins.now.action c.in-Some.bytes.items c.in-Some.ensures;
      least = λ b s. encode_least c.args.ins.now.prefixes c.args.ins.now.action c.in-Some.bytes.items b
          c.in-Some.ensures s;
    })

pub returns-in-None : goal.returns-in-None
returns-in-None c = absurd (no_best c.args.ins.now.action c.args.ins.now.has_spelling c.in-None.ensures)
