-- `pages::erase_page` meets its contract: the page is lent on from its base, and comes back as FFh.
use Rattle.std.proofs.Common.{◌+◌, ◌-◌, ◌<◌, length, sym, arith}
use Rattle.paper.proofs.Pages.{erased_out, erased_back}
use Rattle.pages.proofs.erase_page.Goals as goal
use Rattle.pages.proofs.erase_page.Goals.{then-n-lt-PAGE_BYTES-via-then-n-lt-PAGE_BYTES, then-n-lt-PAGE_BYTES-via-else-n-lt-PAGE_BYTES+then-n-base}

pub returns-then-n-lt-PAGE_BYTES : goal.returns-then-n-lt-PAGE_BYTES
returns-then-n-lt-PAGE_BYTES c =
    let a = c.args in
    let out : length a.memory.now < a.base + 256 = elim c.then-n-lt-PAGE_BYTES.branch [
      | then-n-lt-PAGE_BYTES-via-then-n-lt-PAGE_BYTES w ↦ omega arith
      | then-n-lt-PAGE_BYTES-via-else-n-lt-PAGE_BYTES+then-n-base w ↦ omega arith
    ] in
    sym (erased_out a.memory.now a.base out)

pub returns : goal.returns
returns c =
    let a = c.args in
    erased_back a.memory.now a.base (omega arith) (a.base + 256 - a.base) (omega arith) _ c.blank.ensures
