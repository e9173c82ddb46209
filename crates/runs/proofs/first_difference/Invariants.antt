use Rattle.std.proofs.Common.{◌≡◌, ◌≤◌, take, drop}
use Rattle.words.specs.Lists.{first_of, differ_at}
use Rattle.runs.proofs.first_difference.Given as goal

abbrev pub invariant-loop-x : goal.invariant-loop-x
invariant-loop-x l = record {
  none : first_of l.at (differ_at l.a l.b) ≡ l.at;
  inside : l.at ≤ l.n;
  left_a : l.x-iterator.a.rest.now ≡ drop l.at (take l.n l.a);
  left_b : l.x-iterator.b.rest.now ≡ drop l.at (take l.n l.b);
  size_a : l.x-iterator.a.size ≡ 4096;
  size_b : l.x-iterator.b.size ≡ 4096;
}
