use Rattle.std.proofs.Common.{◌≡◌, ◌<◌, ◌^◌, ◌*◌, drop}
use Rattle.dm_requests.specs.commands.Numbers.{digits_of}
use Rattle.dm_requests.proofs.commands.numbers.read_number.Given as goal

abbrev pub invariant-loop-byte : goal.invariant-loop-byte
invariant-loop-byte l = record {
  small : l.n < 2 ^ (4 * l.byte-index);
  same : digits_of l.n (drop l.byte-index l.word) ≡ digits_of 0 l.word;
}
