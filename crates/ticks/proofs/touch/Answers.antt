-- `ticks::touch` meets its contract: the run is on the memory that the operation is of, and leaves the other.
use mathlib.Core.Path.{◌≡◌, sym, ◌∙◌}
use lib.ListN.{length}
use Rattle.types.specs.declared.Memory.TheVariants.{Array, Rows}
use Rattle.paper.specs.Erase.{memory_of}
use Rattle.ticks.proofs.OneMemory.{own_erase, other_erase, own_program, other_program, ran_write}
use Rattle.ticks.proofs.touch.Goals as goal

pub program-requires : goal.program-requires
program-requires c =
    let q = c.requires in
    (rw c.in-Program.is at q.0, q.1)

pub program-requires-in-Rows : goal.program-requires-in-Rows
program-requires-in-Rows c =
    let q = c.requires in
    (rw c.in-Program.is at q.0, q.2)

pub erase-requires : goal.erase-requires
erase-requires c = rw c.in-Erase.is at c.requires.0

pub erase-requires-in-Rows-memory : goal.erase-requires-in-Rows-memory
erase-requires-in-Rows-memory c = rw c.in-Erase.is at c.requires.0

pub returns-in-Array : goal.returns-in-Array
returns-in-Array c =
    let a = c.args in
    let v = c.in-Program in
    let m : v.memory ≡ Array = c.in-Array.is in
    let yes = own_program Array a.count a.kept.now (length a.array.now) (length a.rows.now) a.array.now v.memory v.start v.base v.count v.done m _ c.program.ensures in
    let no = other_program Rows a.count a.kept.now (length a.array.now) (length a.rows.now) a.rows.now v.memory v.start v.base v.count v.done (rw m) in
    rw v.is (yes, no)

pub returns-in-Rows : goal.returns-in-Rows
returns-in-Rows c =
    let a = c.args in
    let v = c.in-Program in
    let m : v.memory ≡ Rows = c.in-Rows.is in
    let yes = own_program Rows a.count a.kept.now (length a.array.now) (length a.rows.now) a.rows.now v.memory v.start v.base v.count v.done m _ c.program-in-Rows.ensures in
    let no = other_program Array a.count a.kept.now (length a.array.now) (length a.rows.now) a.array.now v.memory v.start v.base v.count v.done (rw m) in
    rw v.is (no, yes)

pub returns-in-Array-memory : goal.returns-in-Array-memory
returns-in-Array-memory c =
    let a = c.args in
    let v = c.in-Erase in
    let m : memory_of v.unit ≡ Array = sym c.unit_memory-memory.ensures ∙ c.in-Array-memory.is in
    let yes = own_erase Array a.count a.kept.now (length a.array.now) (length a.rows.now) a.array.now v.unit v.base v.done m _ c.erase.ensures in
    let no = other_erase Rows a.count a.kept.now (length a.array.now) (length a.rows.now) a.rows.now v.unit v.base v.done (rw m) in
    rw v.is (yes, no)

pub returns-in-Rows-memory : goal.returns-in-Rows-memory
returns-in-Rows-memory c =
    let a = c.args in
    let v = c.in-Erase in
    let m : memory_of v.unit ≡ Rows = sym c.unit_memory-memory.ensures ∙ c.in-Rows-memory.is in
    let yes = own_erase Rows a.count a.kept.now (length a.array.now) (length a.rows.now) a.rows.now v.unit v.base v.done m _ c.erase-in-Rows-memory.ensures in
    let no = other_erase Array a.count a.kept.now (length a.array.now) (length a.rows.now) a.array.now v.unit v.base v.done (rw m) in
    rw v.is (no, yes)

pub returns-in-Write : goal.returns-in-Write
returns-in-Write c =
    let a = c.args in
    let v = c.in-Write in
    rw v.is (sym (ran_write Array a.kept.now a.array.now v.register v.value a.count), sym (ran_write Rows a.kept.now a.rows.now v.register v.value a.count))
