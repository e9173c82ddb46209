-- `sent::write_page_data` meets its contract: the last bytes are copied over zeros; a buffer that is no page is left.
use Prim.Native.Nat.{◌+◌}
use Rattle.paper.specs.Address.{address_count}
use Rattle.paper.specs.Program.{no_data}
use Rattle.sent.proofs.PageCopied.{page_copied}
use borrow.Author.Tests.{eq-eqb}
use Rattle.sent.proofs.write_page_data.Goals as goal

pub returns : goal.returns
unfolding no_data
returns c =
    let a = c.args in
    let l = c.if-page-ne-PAGE_BYTES.false in
    rw (eq-eqb _ _ l)
    (rw (c.copy_from_slice.ensures.after, c.fill.ensures.after (λ y e. e), l)
    (page_copied (1 + address_count a.form) a.input.now _ c.kept_count-kept.ensures))
