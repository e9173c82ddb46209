-- The protection question: a block is protected exactly where it is one of the blocks that are answered; these are what the rules say, on every code and every size, and lie inside the part; refused, there are none.
use Prim.Native.Nat.{ℕ, zero, suc, ◌+◌, ◌-◌, ◌*◌, ◌/◌, ◌%◌, ◌≤◌, ◌<◌, min}
use mathlib.Core.Path.{◌≡◌, refl, sym, ap, ◌∙◌, subst⁻¹}
use mathlib.Core.Bool.{Bool, true, false, not, cond, false≢true}
use mathlib.Core.Logic.{◌↔◌}
use native.Mathlib.Omega.{arith}
use lib.Dec.{eqb, leb}
use lib.Pow.{pow_mono}
use borrow.Author.Tests.{eqb-true, eqb-false, leb-true, ltb-true, not-false, ne_eqb, le-leb, lt-leb, lt-ltb}
use Rattle.types.specs.declared.Memory.TheVariants.{Array}
use Rattle.types.specs.declared.EraseUnit.{EraseUnit}
use Rattle.types.specs.declared.EraseUnit.TheVariants.{Sector, Block32, Block64, Chip, Row}
use Rattle.types.specs.declared.Stored.{Stored}
use Rattle.types.specs.declared.Operation.TheVariants.{Program, Erase}
use Rattle.types.specs.declared.Blocks.{Blocks}
use Rattle.types.specs.declared.Cell.{Cell}
use Rattle.words.specs.Logic.{◌and◌, ◌or◌, unless, ◌or_else◌}
use Rattle.words.proofs.Tests.{and_l, and_r, and_in, unless_zero, or_else_zero, fails}
use Rattle.paper.specs.Sizes.{is_large, size_ok, block_bytes}
use Rattle.paper.specs.BlockTable.{no_blocks, block_row, large_row, cell_of, large_cell_of, table_cell}
use Rattle.paper.specs.Registers.{TBS}
use Rattle.paper.specs.Protection.{code_of, whole_code, blocks_asked, rule_count, protects_top, rule_blocks, large_asked, large_count, large_blocks, blocks_by_rule, blocks_of, code_most, question, protected_blocks, among, protected}
use Rattle.paper.specs.Operations.{free, target_free, unit_suspends}
use Rattle.paper.proofs.Sizes.{by_size}

-- block k is one of so many blocks from the first on: first <= k < first + count
abbrev pub InBlocks : ℕ → ℕ → ℕ → Type 0
InBlocks first count k = (first ≤ k) × (k < first + count)

pub among_exactly : (b : Blocks) (k : ℕ) → (among b k ≡ true) ↔ InBlocks b.first b.count k
unfolding among
among_exactly b k =
    (λ t. (leb-true _ _ (and_l _ _ t), ltb-true _ _ (and_r _ _ t)), λ w. and_in (le-leb _ _ w.0) (lt-ltb _ _ w.1))

-- The law on which rests whatever is said of protected blocks: under code c, block k of n is protected exactly where first <= k < first + count, of the answer's first and count.
pub protected_exactly : (c n k : ℕ) → (protected c n k ≡ true) ↔ InBlocks (protected_blocks c n).first (protected_blocks c n).count k
protected_exactly c n k = among_exactly (protected_blocks c n) k

-- the block of place b is one of the protected blocks of a part of n blocks, under the registers
abbrev pub Blocked : ℕ → ℕ → Stored → Type 0
Blocked b n s =
    InBlocks (protected_blocks (whole_code s) n).first (protected_blocks (whole_code s) n).count (b / block_bytes)

-- a place of the array is not free exactly where its block is one of them
pub not_free_exactly : (b n : ℕ) (s : Stored) → (free Array b n s ≡ false) ↔ Blocked b n s
not_free_exactly b n s =
    let e = protected_exactly (whole_code s) n (b / block_bytes) in
    (λ h. e.0 (not-false _ h), λ w. ap not (e.1 w))

-- so the target of a page program, and that of SER, BER32 and BER64, which are the units that can be suspended: 28 and soundness ask for it. (CER goes by the bits.)
pub program_exactly : (b p k d n : ℕ) (s : Stored) → (target_free (Program Array p b k d) n s ≡ false) ↔ Blocked b n s
program_exactly b p k d n s = not_free_exactly b n s

pub erase_exactly : (u : EraseUnit) (b d n : ℕ) (s : Stored) → unit_suspends u ≡ true → (target_free (Erase u b d) n s ≡ false) ↔ Blocked b n s
erase_exactly Sector b d n s h = not_free_exactly b n s
erase_exactly Block32 b d n s h = not_free_exactly b n s
erase_exactly Block64 b d n s h = not_free_exactly b n s
erase_exactly Chip b d n s h = absurd (false≢true h)
erase_exactly Row b d n s h = absurd (false≢true h)

-- where no block is counted, none is protected
pub none_protected : (c n k : ℕ) → (protected_blocks c n).count ≡ 0 → protected c n k ≡ false
none_protected c n k e =
    fails _ (λ t. let w = (protected_exactly c n k).0 t in omega (arith, w.0, w.1, e))

-- what a question that is not refused may rest on
pub record Answerable (c n : ℕ) : Type 0 where
  pub size : size_ok n ≡ true
  pub known : c ≤ code_most n

pub answerable : (c n : ℕ) → (question c n).number ≡ 0 → Answerable c n
unfolding question
answerable c n e =
    let z = or_else_zero _ _ e in
    record { size = unless_zero _ 0 z.0; known = leb-true _ _ (unless_zero _ 4 z.1) }

-- refused, it has no blocks
pub refused_none : (c n : ℕ) → ((question c n).number ≡ 0 → ⊥) → protected_blocks c n ≡ blocks_of no_blocks
unfolding question
refused_none c n h = rw (ne_eqb _ _ h)

-- two cells are the same
abbrev same_blocks : Blocks → Blocks → Bool
same_blocks x y = eqb x.first y.first and eqb x.count y.count

same_blocks_lem : (x y : Blocks) → same_blocks x y ≡ true → x ≡ y
same_blocks_lem x y h =
    let f : x.first ≡ y.first = eqb-true _ _ (and_l _ _ h) in
    let k : x.count ≡ y.count = eqb-true _ _ (and_r _ _ h) in
    ap (λ (n : ℕ). blocks_of (n, x.count)) f ∙ ap (λ (n : ℕ). blocks_of (y.first, n)) k

-- a test that passes at every number below n
abbrev every_below : (ℕ → Bool) → ℕ → Bool
every_below t zero = true
every_below t (suc n) = t n and every_below t n

below_or_last : (t : ℕ → Bool) (n c : ℕ) (b : Bool) → eqb c n ≡ b → t n ≡ true → (c < n → t c ≡ true) → c < suc n → t c ≡ true
below_or_last t n c true e last h l = ap t (eqb-true c n e) ∙ last
below_or_last t n c false e last h l =
    let ne : c ≡ n → ⊥ = eqb-false c n e in
    h (omega (arith, ne))

below : (t : ℕ → Bool) (n c : ℕ) → every_below t n ≡ true → c < n → t c ≡ true
below t zero c h l = absurd (omega arith)
below t (suc n) c h l = below_or_last t n c (eqb c n) refl (and_l _ _ h) (below t n c (and_r _ _ h)) l

-- a number of blocks that is no size has no column
no_column : (a b c d e : Bool) (w x y z v : Cell)
    → (a or b or c or d or e) ≡ false → cond e v (cond d w (cond c x (cond b y (cond a z no_blocks)))) ≡ no_blocks
unfolding ◌or◌
no_column true b c d e w x y z v h = absurd (false≢true (sym h))
no_column false true c d e w x y z v h = absurd (false≢true (sym h))
no_column false false true d e w x y z v h = absurd (false≢true (sym h))
no_column false false false true e w x y z v h = absurd (false≢true (sym h))
no_column false false false false true w x y z v h = absurd (false≢true (sym h))
no_column false false false false false w x y z v h = refl

no_size : (c n : ℕ) → size_ok n ≡ false → table_cell c n ≡ no_blocks
unfolding size_ok table_cell cell_of
no_size c n h =
    no_column (eqb n 1) (eqb n 4) (eqb n 8) (eqb n 16) (is_large n) (block_row c).0 (block_row c).1 (block_row c).2 (block_row c).3 (large_cell_of (leb 16 c) (large_row (c % 16))) h

-- table and rule agree on a code
abbrev agrees : ℕ → ℕ → Bool
agrees n c = same_blocks (protected_blocks c n) (blocks_by_rule c n)

-- they do on each of the sixteen, in the column of each size; on each of the thirty-two of the large part
abbrev Column : ℕ → Type 0
Column n = every_below (agrees n) (suc (code_most n)) ≡ true

columns : (Column 16 × Column 8) × (Column 4 × Column 1)
unfolding question block_row cell_of table_cell rule_blocks blocks_asked size_ok ◌and◌ ◌or◌ unless ◌or_else◌
columns = ((refl, refl), (refl, refl))

large_column : Column 512
unfolding question large_row table_cell large_blocks large_asked size_ok ◌and◌ ◌or◌ unless ◌or_else◌
large_column = refl

column : (n : ℕ) → size_ok n ≡ true → Column n
column = by_size Column columns.1.1 columns.1.0 columns.0.1 columns.0.0 large_column

-- on every code and every size the table says what the rule says
pub table_is_rule : (c n : ℕ) → size_ok n ≡ true → c ≤ code_most n → protected_blocks c n ≡ blocks_by_rule c n
table_is_rule c n s h = same_blocks_lem _ _ (below (agrees n) (suc (code_most n)) c (column n s) (omega (arith, h)))

-- a code that is one: its blocks are the cell that is looked up; what is no size has none
looked_as : (c n : ℕ) (t : Bool) → size_ok n ≡ t → c ≤ code_most n → protected_blocks c n ≡ blocks_of (table_cell c n)
unfolding question unless ◌or_else◌
looked_as c n true e h = rw (e, le-leb c (code_most n) h)
looked_as c n false e h = rw (e, no_size c n e)

looked_up : (c n : ℕ) → c ≤ code_most n → protected_blocks c n ≡ blocks_of (table_cell c n)
looked_up c n h = looked_as c n (size_ok n) refl h

-- in the table of the large part, or in that of the others
module _ (c n : ℕ) (t : Bool) (e : is_large n ≡ t) where
  most_as : code_most n ≡ cond t 31 15
  most_as = rw e

  pub table_looked_up : c ≤ cond t 31 15 → protected_blocks c n ≡ blocks_of (cond t (large_cell_of (leb 16 c) (large_row (c % 16))) (cell_of n (block_row c)))
  unfolding table_cell
  table_looked_up h = looked_up c n (omega (arith, most_as, h)) ∙ rw e

  -- a number that is no code has none
  pub table_none : cond t 31 15 < c → protected_blocks c n ≡ blocks_of no_blocks
  table_none h = refused_none c n (λ z. omega (arith, most_as, h, (answerable c n z).known))

-- The answer is no blocks where the question is refused, and else the rule's: what holds of both holds of it.
module _ (P : Blocks → Type 0) (c n : ℕ) (none : P (blocks_of no_blocks)) (ruled : Answerable c n → P (blocks_by_rule c n)) where
  refused_or_not : (t : Bool) → eqb (question c n).number 0 ≡ t → P (protected_blocks c n)
  refused_or_not true e =
      let a = answerable c n (eqb-true _ _ e) in
      subst⁻¹ P (table_is_rule c n a.size a.known) (ruled a)
  refused_or_not false e = subst⁻¹ P (refused_none c n (eqb-false _ _ e)) none

  by_rule : P (protected_blocks c n)
  by_rule = refused_or_not (eqb (question c n).number 0) refl

-- there are blocks only where it is not refused
pub some_answerable : (c n : ℕ) → ((protected_blocks c n).count ≡ 0 → ⊥) → Answerable c n
some_answerable c n =
    by_rule (λ (b : Blocks). (b.count ≡ 0 → ⊥) → Answerable c n) c n (λ h. absurd (h refl)) (λ a h. a)

-- protected blocks lie inside the part; by the rule, over any number of blocks
either_end : (t : Bool) (n k : ℕ) → k ≤ n → cond t (n - k) 0 + k ≤ n
either_end true n k h = omega arith
either_end false n k h = omega arith

either_side : (t : Bool) (n k : ℕ) → k ≤ n → cond t 0 (n - k) + k ≤ n
either_side true n k h = omega arith
either_side false n k h = omega arith

pub rule_inside : (c n : ℕ) → (rule_blocks c n).first + (rule_blocks c n).count ≤ n
unfolding rule_blocks
rule_inside c n = either_end (protects_top c) n (rule_count c n) (omega arith)

large_inside : (c n : ℕ) (bottom : Bool) → (large_blocks c bottom n).first + (large_blocks c bottom n).count ≤ n
unfolding large_blocks
large_inside c n bottom = either_side (bottom or eqb c 0) n (large_count c n) (omega arith)

-- the rule of the large part, or that of the others
abbrev ruled_as : Bool → ℕ → ℕ → Blocks
ruled_as t c n = cond t (large_blocks (c % 16) (leb 16 c) n) (rule_blocks c n)

by_rule_inside : (c n : ℕ) (t : Bool)
    → (ruled_as t c n).first + (ruled_as t c n).count ≤ n
by_rule_inside c n true = large_inside (c % 16) n (leb 16 c)
by_rule_inside c n false = rule_inside c n

pub protected_inside : (c n : ℕ) → (protected_blocks c n).first + (protected_blocks c n).count ≤ n
protected_inside c n = by_rule (λ (b : Blocks). b.first + b.count ≤ n) c n (omega arith) (λ a. by_rule_inside c n (is_large n))

-- a code that protects top blocks asks for some
top_asks : (c : ℕ) → protects_top c ≡ true → 1 ≤ blocks_asked c
unfolding blocks_asked ◌or◌
top_asks c t =
    let l : 1 ≤ c = leb-true _ _ (and_l _ _ t) in
    let h : c ≤ 7 = leb-true _ _ (and_r _ _ t) in
    rw (ne_eqb c 0 (λ e. omega arith), lt-leb 15 c (omega arith), le-leb c 7 h) (pow_mono {i = 0} {j = c - 1} (omega arith))

-- a count of 0 goes with a first block of 0; by the rule, over any number of blocks
from_zero : (t : Bool) (n k : ℕ) → (t ≡ true → 1 ≤ k) → min n k ≡ 0 → cond t (n - min n k) 0 ≡ 0
from_zero true n k h e =
    let l : 1 ≤ k = h refl in
    omega arith
from_zero false n k h e = refl

pub rule_from_zero : (c n : ℕ) → (rule_blocks c n).count ≡ 0 → (rule_blocks c n).first ≡ 0
unfolding rule_blocks
rule_from_zero c n e = from_zero (protects_top c) n (blocks_asked c) (top_asks c) e

-- a code of the large part but 0 asks for some
pub large_asks : (c : ℕ) → (c ≡ 0 → ⊥) → 1 ≤ large_asked c
unfolding large_asked
large_asks c h = rw (ne_eqb c 0 h) (pow_mono {i = 0} {j = c - 1} (omega arith))

large_end : (c n : ℕ) (bottom t : Bool) → eqb c 0 ≡ t → min n (large_asked c) ≡ 0 → cond (bottom or t) 0 (n - min n (large_asked c)) ≡ 0
unfolding ◌or◌
large_end c n true t h e = refl
large_end c n false true h e = refl
large_end c n false false h e =
    let l : 1 ≤ large_asked c = large_asks c (eqb-false c 0 h) in
    omega arith

large_from_zero : (c n : ℕ) (bottom : Bool) → (large_blocks c bottom n).count ≡ 0 → (large_blocks c bottom n).first ≡ 0
unfolding large_blocks
large_from_zero c n bottom e = large_end c n bottom (eqb c 0) refl e

by_rule_from_zero : (c n : ℕ) (t : Bool)
    → (ruled_as t c n).count ≡ 0 → (ruled_as t c n).first ≡ 0
by_rule_from_zero c n true = large_from_zero (c % 16) n (leb 16 c)
by_rule_from_zero c n false = rule_from_zero c n

pub none_from_zero : (c n : ℕ) → (protected_blocks c n).count ≡ 0 → (protected_blocks c n).first ≡ 0
none_from_zero c n =
    by_rule (λ (b : Blocks). b.count ≡ 0 → b.first ≡ 0) c n (λ e. refl) (λ a. by_rule_from_zero c n (is_large n))

-- BP bits of 0 ask for no block, and have none, whatever TBS is; so has the code 15, but on the large part
none_asked : (c n : ℕ) (t : Bool)
    → (t ≡ true → large_asked (c % 16) ≡ 0) → (t ≡ false → blocks_asked c ≡ 0)
    → (ruled_as t c n).count ≡ 0
unfolding large_blocks rule_blocks
none_asked c n true l r =
    let z : large_asked (c % 16) ≡ 0 = l refl in
    omega (arith, z)
none_asked c n false l r =
    let z : blocks_asked c ≡ 0 = r refl in
    omega (arith, z)

asked_none : (c n : ℕ) → (is_large n ≡ true → large_asked (c % 16) ≡ 0) → (is_large n ≡ false → blocks_asked c ≡ 0) → (protected_blocks c n).count ≡ 0
asked_none c n l r =
    by_rule (λ (b : Blocks). b.count ≡ 0) c n refl (λ a. none_asked c n (is_large n) l r)

zero_counted : (t n : ℕ) → t < 2 → (protected_blocks (16 * t) n).count ≡ 0
unfolding blocks_asked large_asked ◌or◌
zero_counted zero n h = asked_none 0 n (λ l. refl) (λ r. refl)
zero_counted (suc zero) n h = asked_none 16 n (λ l. refl) (λ r. refl)
zero_counted (suc (suc t)) n h = absurd (omega arith)

pub none_counted : (n : ℕ) (s : Stored) → code_of s.status ≡ 0 → (protected_blocks (whole_code s) n).count ≡ 0
none_counted n s e =
    let z : whole_code s ≡ 16 * TBS s.function = omega (arith, e) in
    ap (λ (c : ℕ). (protected_blocks c n).count) z ∙ zero_counted (TBS s.function) n (omega arith)

pub fifteen_counted : (n : ℕ) → is_large n ≡ false → (protected_blocks 15 n).count ≡ 0
unfolding blocks_asked ◌or◌
fifteen_counted n h = asked_none 15 n (λ l. absurd (false≢true (sym h ∙ l))) (λ r. refl)
