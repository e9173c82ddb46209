-- `record_bytes::writing::write_runs` meets its contract: page data stands behind the header, and becomes there what it becomes; a buffer of another length is left.
use Rattle.record_bytes.proofs.Laid.{running_header_length, page_there, page_laid}
use Rattle.record_bytes.specs.Layout.{header_running, change_written}
use borrow.Author.Tests.{eq-eqb, ne_eqb}
use Rattle.record_bytes.proofs.writing.write_runs.Goals as goal

pub returns-in_default : goal.returns-in_default
unfolding change_written
returns-in_default c = rw (ne_eqb _ _ c.in_default.ensures.cases)

pub returns : goal.returns
unfolding change_written
returns c =
    let a = c.args in
    let bs = a.bytes.now in
    let w = c.in-Some.ensures.cases in
    let l = w.long in
    let h = rw w.same at c.write_running.ensures in
    let q = header_running a.part a.work bs in
    let lq = running_header_length bs l a.part a.work in
    rw (eq-eqb _ _ l) (page_laid bs q _ lq l h _ _ (rw (page_there bs q _ lq l h) at c.write_page.ensures))
