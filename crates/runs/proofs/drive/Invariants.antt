use Rattle.std.proofs.Common.{◌≡◌, ◌+◌, ◌-◌, ◌%◌, ◌<◌, ◌≤◌, length}
use Rattle.words.proofs.Lists.{laid}
use Rattle.words.specs.Lists.{round}
use Rattle.runs.proofs.drive.Given as goal

abbrev pub invariant-loop-there : goal.invariant-loop-there
invariant-loop-there l = record {
  so_far : l.output ≡ laid l.initial.output l.from (l.there - l.from) (round l.source l.at);
  begun : l.from ≤ l.there;
  inside : l.there ≤ length l.initial.output;
  in_source : l.here < length l.source;
  turn : l.there < length l.initial.output → l.here ≡ (l.at + (l.there - l.from)) % length l.source;
}

abbrev pub decreases-loop-there : goal.decreases-loop-there
decreases-loop-there l = length l.initial.output - l.there
