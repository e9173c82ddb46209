use Rattle.std.proofs.Common.{◌≡◌, ◌++◌, take, drop}
use Rattle.wear_records.specs.Thin.{erased_from}
use Rattle.wear_records.proofs.erase_each.Given as goal

abbrev pub invariant-loop-sector : goal.invariant-loop-sector
invariant-loop-sector l = take l.first l.fn.wear ++ (l.sector-items ++ drop l.count (drop l.first l.fn.wear)) ≡ erased_from l.first l.sector-index l.fn.wear
