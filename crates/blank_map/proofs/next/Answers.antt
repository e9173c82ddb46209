-- `blank_map::next` meets its contract: refused, a page, or none.
use Rattle.std.proofs.Common.{◌≡◌, sym, ◌∙◌, arith, length}
use Rattle.std.proofs.lemmas.Grind.{common_steps}
use Rattle.paper.specs.Map.{Refused, blank_of}
use Rattle.paper.specs.Refusals.{number}
use Rattle.paper.proofs.Refusals.{some_number}
use Rattle.blank_map.proofs.Taken.{query_small, query_inside, queried_refused, queried_page, queried_none}
use Rattle.blank_map.proofs.next.Goals as goal

pub returns-in_err-check_query : goal.returns-in_err-check_query
returns-in_err-check_query c =
    let a = c.args in
    let e = c.in_err-check_query.field-0.0 in
    let told : blank_of c.from_residual.result ≡ Refused (number e) = grind (arith, common_steps) in
    told ∙ queried_refused a.blocks a.map.now a.page (number e) c.in_err-check_query.ensures (some_number e)

pub first_set-found-requires : goal.first_set-found-requires
first_set-found-requires c =
    let a = c.args in
    let e = sym c.in_ok-check_query.ensures in
    (query_inside a.blocks (length a.map.now) a.page e, query_small a.blocks (length a.map.now) a.page e)

pub overflow_mul-map : goal.overflow_mul-map
overflow_mul-map c =
    let a = c.args in
    omega (arith, query_small a.blocks (length a.map.now) a.page (sym c.in_ok-check_query.ensures))

pub returns-then-found-map : goal.returns-then-found-map
returns-then-found-map c =
    let a = c.args in
    let f = c.first_set-found in
    queried_page a.blocks a.map.now a.page (sym c.in_ok-check_query.ensures) f.result f.ensures c.if-found-map.true

pub returns-else-found-map : goal.returns-else-found-map
returns-else-found-map c =
    let a = c.args in
    let f = c.first_set-found in
    queried_none a.blocks a.map.now a.page (sym c.in_ok-check_query.ensures) f.result f.ensures c.if-found-map.false
