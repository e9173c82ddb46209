-- `checker::first_failing` meets its contract: a search over the list finds what one by places does.
use Rattle.std.proofs.Common.{◌≡◌, ◌∙◌, ap, not, nat_eq, length, rules, tests}
use Rattle.std.specs.Prelude.{position, unwrap_or}
use Rattle.std.proofs.lemmas.Iterator.Search.{position_from_yields_List}
use Rattle.std.proofs.lemmas.Iterator.{YieldsList-from_slice}
use Rattle.checker.proofs.Failing.{search_is}
use Rattle.checker.proofs.first_failing.Goals as goal

pub returns : goal.returns
returns c =
    let n = c.args.answers.now in
    let e : c.position.result ≡ position (λ x. not (nat_eq x 0)) n = position_from_yields_List (λ x. not (nat_eq x 0)) _ _ c.position.result c.position.ensures.ran (YieldsList-from_slice _ c.iter.ensures.rest) (λ x b q k. search (rules, tests)) in
    c.unwrap_or.ensures ∙ ap (λ p. unwrap_or p (length n)) e ∙ search_is n
