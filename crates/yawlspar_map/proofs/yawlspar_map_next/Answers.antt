-- `yawlspar_map::yawlspar_map_next` meets its contract: a page, the number of pages or the number is packed.
use Rattle.std.specs.Prelude.{ℕ, Option, Ok}
use mathlib.Core.Path.{refl, ap, ◌∙◌}
use Rattle.paper.specs.Map.{blank_of}
use Rattle.yawlspar_map.proofs.Face.{page_answer, few_pages, none_answer, refused_answer}
use native.Mathlib.Omega.{arith}
use Rattle.yawlspar_map.proofs.yawlspar_map_next.Goals as goal

pub overflow_mul-blocks : goal.overflow_mul-blocks
overflow_mul-blocks c = omega (arith, few_pages _ _ _ _ c.in-Ok.ensures (ap (λ (x : Option ℕ). blank_of (Ok x)) c.in-None.is))

pub returns-in-Some : goal.returns-in-Some
returns-in-Some c = c.pack.ensures ∙ page_answer _ _ _ _ c.in-Ok.ensures _ (ap (λ (x : Option ℕ). blank_of (Ok x)) c.in-Some.is)

pub returns-in-None : goal.returns-in-None
returns-in-None c = c.pack-in-None.ensures ∙ none_answer _ _ _ _ c.in-Ok.ensures (ap (λ (x : Option ℕ). blank_of (Ok x)) c.in-None.is)

pub returns-in-Err : goal.returns-in-Err
returns-in-Err c = c.number.ensures ∙ refused_answer _ _ _ _ c.in-Err.ensures _ refl
