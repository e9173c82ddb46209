-- `protection::is_barred` meets its contract: it joins the three tests as the definition does.
use Rattle.paper.specs.Protection.{barred}
use Rattle.protection.proofs.is_barred.Goals as goal

pub returns : goal.returns
unfolding barred
returns c = cc
