-- The digits left are read on after the number so far.
use Rattle.std.proofs.Common.{◌≡◌, ◌≤◌, drop}
use Rattle.degreereport.specs.Requests.{read_on}
use Rattle.degreereport.proofs.requests.number.Given as goal

abbrev pub invariant-loop-byte : goal.invariant-loop-byte
invariant-loop-byte l = record {
  read : read_on l.most 0 l.bytes ≡ read_on l.most l.value (drop l.byte-index l.bytes);
  small : l.value ≤ l.most;
}
