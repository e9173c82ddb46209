-- `bench::run` meets its contract: what is read is run, and there is room for what is printed.
use Rattle.std.proofs.lemmas.Result.{on_ok_weaker}
use Rattle.bench.proofs.Whole.{known_whole, known_rest, few_taken}
use mathlib.Core.Path.{refl}
use Rattle.bench.proofs.run.Goals as goal

pub returns-clause-printed : goal.returns-clause-printed
returns-clause-printed g c =
    on_ok_weaker c.answer.result (known_whole _ _ _ _ _ _ _ _ refl refl refl refl c.in_ok-n.ensures.whole) c.answer.ensures

pub returns-clause-rest : goal.returns-clause-rest
returns-clause-rest g c =
    on_ok_weaker c.answer.result (λ _. known_rest _ _ _ _ refl c.in_ok-n.ensures.whole c.in_ok-n.ensures.taken) c.answer.ensures

pub returns-clause-no_more : goal.returns-clause-no_more
returns-clause-no_more g c = few_taken c.answer.result _ _ _ _ c.read_full.auto.buffer c.in_ok-n.ensures.taken
