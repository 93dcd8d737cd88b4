use Rattle.std.proofs.Common.{◌≡◌, ◌*◌, take, List}
use Rattle.arrayvec.specs.ArrayVec.{array_vec_len}
use Rattle.dm_asm.specs.Labels.{Label}
use Rattle.dm_asm.specs.inner.Kept.{AreKept}
use Rattle.dm_asm.specs.Codes.{AreWordsOf}
use Rattle.dm_asm.proofs.codes.words_code.Given as goal

abbrev pub invariant-loop-value : goal.invariant-loop-value
invariant-loop-value l = record {
  long : array_vec_len l.code ≡ 2 * l.value-index;
  are : (list : List Label) → AreKept l.labels list → AreWordsOf list (take l.value-index l.values) l.code.items;
}
