-- What is left begins where the blocks passed end, and none of these has a 0.
use Rattle.std.proofs.Common.{◌≡◌, ◌≤◌, length, drop}
use Rattle.machine.proofs.Passed.{Passed}
use Rattle.machine.proofs.searches.without_zero.Given as goal

abbrev pub invariant-loop-block : goal.invariant-loop-block
invariant-loop-block l = record {
  inside : l.passed ≤ length l.words;
  size : l.block-iterator.size ≡ 32;
  rest : l.block-iterator.rest.now ≡ drop l.passed l.words;
  none : Passed l.words l.passed;
}
