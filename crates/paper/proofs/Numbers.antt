-- What a call that is not refused may rest on.
use Rattle.types.specs.declared.Operation.{Operation}
use Rattle.std.specs.Prelude.{Option}
use Prim.Native.Nat.{ℕ, zero, suc, ◌≤◌, ◌<◌}
use mathlib.Core.Path.{◌≡◌, refl, ap, ◌∙◌}
use mathlib.Core.Bool.{Bool, true, false, not, false≢true}
use mathlib.Core.List.{List}
use native.Mathlib.Omega.{arith}
use lib.Dec.{eqb}
use lib.ListN.{length}
use borrow.Author.Tests.{eqb-true, leb-true, eq-eqb, ne_eqb}
use Rattle.types.specs.declared.Phase.{Phase}
use Rattle.types.specs.declared.Part.{Part}
use Rattle.types.specs.declared.Columns.{Columns}
use Rattle.words.specs.Logic.{◌or◌, unless, ◌or_else◌}
use Rattle.words.specs.Lists.{sum_to}
use Rattle.words.proofs.Tests.{and_l, and_r, unless_zero, or_else_zero, or_else_on}
use Rattle.paper.specs.Sizes.{size_ok, array_bytes, rows_bytes, transaction_limit, tick_limit}
use Rattle.paper.specs.Phases.{erase_halted, is_busy, is_suspended}
use Rattle.paper.specs.Table.{addressing_on, length_ok, taken_asleep, taken_busy, taken_suspended}
use Rattle.paper.specs.Numbers.{size_number, rows_number, length_number, output_number, sound_number, ticks_number, lists_number, transaction_refusal, tick_number, image_number, later_script_refusal, script_refusal, later_check_refusal, check_refusal, state_ok, address_ok, free_ok, command_number, map_number, rebuild_number, map_tick_number, map_script_refusal, wear_number, wear_tick_number, wear_script_refusal}

-- a tick call that is not refused, of a record of b blocks that is sound or is not
pub record TicksTaken (b : ℕ) (sound : Bool) (a r n : ℕ) : Type 0 where
  pub size : a ≡ array_bytes b
  pub rows : r ≡ rows_bytes
  pub is_sound : sound ≡ true
  pub few : n ≤ tick_limit b

pub ticks_taken : (b : ℕ) (sound : Bool) (a r n : ℕ) → tick_number b sound a r n ≡ 0 → TicksTaken b sound a r n
unfolding tick_number size_number rows_number sound_number ticks_number
ticks_taken b sound a r n e =
    let x = or_else_zero _ _ e in
    let y = or_else_zero _ _ x.1 in
    let z = or_else_zero _ _ y.1 in
    record { size = eqb-true _ _ (and_r _ _ (unless_zero _ 0 x.0)); rows = eqb-true _ _ (unless_zero _ 1 y.0); is_sound = unless_zero _ 4 z.0; few = leb-true _ _ (unless_zero _ 5 z.1) }

-- a transaction that is not refused
pub record TransactionTaken (b : ℕ) (sound : Bool) (a r n o : ℕ) : Type 0 where
  pub known : size_ok b ≡ true
  pub size : a ≡ array_bytes b
  pub rows : r ≡ rows_bytes
  pub some : 1 ≤ n
  pub few : n ≤ transaction_limit
  pub same : o ≡ n
  pub is_sound : sound ≡ true

pub transaction_taken : (b : ℕ) (sound : Bool) (a r n o : ℕ) → transaction_refusal b sound a r n o ≡ 0 → TransactionTaken b sound a r n o
unfolding transaction_refusal size_number rows_number length_number output_number sound_number
transaction_taken b sound a r n o e =
    let x = or_else_zero _ _ e in
    let y = or_else_zero _ _ x.1 in
    let z = or_else_zero _ _ y.1 in
    let w = or_else_zero _ _ z.1 in
    let l = unless_zero _ 2 z.0 in
    let g = unless_zero _ 0 x.0 in
    record { known = and_l _ _ g; size = eqb-true _ _ (and_r _ _ g); rows = eqb-true _ _ (unless_zero _ 1 y.0); some = leb-true _ _ (and_l _ _ l); few = leb-true _ _ (and_r _ _ l); same = eqb-true _ _ (unless_zero _ 3 w.0); is_sound = unless_zero _ 4 w.1 }

-- a script that is not refused before its first step: its lists, of which ls has the lengths, are as long as each other, and the lengths add up to input and output
pub record ScriptTaken (b : ℕ) (sound : Bool) (a r : ℕ) (ls : List ℕ) (t n d i o : ℕ) : Type 0 where
  pub size : a ≡ array_bytes b
  pub rows : r ≡ rows_bytes
  pub ticks : t ≡ length ls
  pub answers : n ≡ length ls
  pub done : d ≡ length ls
  pub input : sum_to ls (length ls) ≡ i
  pub output : o ≡ i
  pub is_sound : sound ≡ true

pub script_taken : (b : ℕ) (sound : Bool) (a r : ℕ) (ls : List ℕ) (t n d i o : ℕ) → script_refusal b sound a r ls t n d i o ≡ 0 → ScriptTaken b sound a r ls t n d i o
unfolding script_refusal later_script_refusal size_number rows_number lists_number output_number sound_number
script_taken b sound a r ls t n d i o e =
    let x = or_else_zero _ _ e in
    let y = or_else_zero _ _ x.1 in
    let z = or_else_zero _ _ y.1 in
    let w = or_else_zero _ _ z.1 in
    let l = unless_zero _ 6 z.0 in
    let k = and_r _ _ l in
    record { size = eqb-true _ _ (and_r _ _ (unless_zero _ 0 x.0)); rows = eqb-true _ _ (unless_zero _ 1 y.0); ticks = eqb-true _ _ (and_l _ _ l); answers = eqb-true _ _ (and_l _ _ k); done = eqb-true _ _ (and_l _ _ (and_r _ _ k)); input = eqb-true _ _ (and_r _ _ (and_r _ _ k)); output = eqb-true _ _ (unless_zero _ 3 w.0); is_sound = unless_zero _ 4 w.1 }

-- the number of a refusal of a script before its first step is none that stops a step
pub record Early (number : ℕ) : Type 0 where
  pub not_three : eqb number 3 ≡ false
  pub not_six : eqb number 6 ≡ false
  pub small : number < 256

early_or : (m n : ℕ) → Early m → Early n → Early (m or_else n)
unfolding ◌or_else◌
early_or zero n e f = f
early_or (suc m) n e f = e

early_unless : (b : Bool) (n : ℕ) → Early n → Early (unless b n)
unfolding unless
early_unless true n e = record { not_three = refl; not_six = refl; small = omega arith }
early_unless false n e = e

pub later_early : (sound : Bool) (r : ℕ) (ls : List ℕ) (t n d i o : ℕ) → Early (later_script_refusal sound r ls t n d i o)
unfolding later_script_refusal rows_number lists_number output_number sound_number
later_early sound r ls t n d i o =
    early_or _ _ (early_unless _ 2 (record { not_three = refl; not_six = refl; small = omega arith }))
    (early_or _ _ (early_unless _ 7 (record { not_three = refl; not_six = refl; small = omega arith }))
    (early_or _ _ (early_unless _ 4 (record { not_three = refl; not_six = refl; small = omega arith }))
    (early_unless _ 5 (record { not_three = refl; not_six = refl; small = omega arith }))))

pub script_early : (b : ℕ) (sound : Bool) (a r : ℕ) (ls : List ℕ) (t n d i o : ℕ) → Early (script_refusal b sound a r ls t n d i o)
unfolding script_refusal size_number
script_early b sound a r ls t n d i o =
    early_or _ _ (early_unless _ 1 (record { not_three = refl; not_six = refl; small = omega arith })) (later_early sound r ls t n d i o)

-- where a record is not sound, a script is refused
pub unsound_refused : (r : ℕ) (ls : List ℕ) (t n d i o : ℕ) → later_script_refusal false r ls t n d i o ≡ 0 → ⊥
unfolding later_script_refusal sound_number
unsound_refused r ls t n d i o e =
    false≢true (unless_zero _ 4 (or_else_zero _ _ (or_else_zero _ _ (or_else_zero _ _ e).1).1).1)

-- a check is refused as its script is where image and array are as long as each other
module _ (b : ℕ) (sound : Bool) (m a r : ℕ) (ls : List ℕ) (t n d i o : ℕ) where
  pub later_check : m ≡ a → later_check_refusal sound m a r ls t n d i o ≡ later_script_refusal sound r ls t n d i o
  unfolding later_check_refusal image_number unless ◌or_else◌
  later_check e = rw (eq-eqb m a e) refl

  pub same_check : m ≡ a → check_refusal b sound m a r ls t n d i o ≡ script_refusal b sound a r ls t n d i o
  unfolding check_refusal script_refusal
  same_check e = ap (λ (k : ℕ). size_number b a or_else k) (later_check e)

  -- else by 38, after 1
  pub later_image : (m ≡ a → ⊥) → later_check_refusal sound m a r ls t n d i o ≡ 38
  unfolding later_check_refusal image_number unless ◌or_else◌
  later_image h = rw (ne_eqb m a h) refl

  pub image_refused : (m ≡ a → ⊥) → check_refusal b sound m a r ls t n d i o ≡ (size_number b a or_else 38)
  unfolding check_refusal
  image_refused h = ap (λ (k : ℕ). size_number b a or_else k) (later_image h)

  -- a check that is not refused: nor is its script
  pub check_taken : check_refusal b sound m a r ls t n d i o ≡ 0 → (m ≡ a) × (script_refusal b sound a r ls t n d i o ≡ 0)
  unfolding check_refusal later_check_refusal image_number script_refusal
  check_taken e =
      let x = or_else_zero _ _ e in
      let y = or_else_zero _ _ x.1 in
      (eqb-true _ _ (unless_zero _ 37 y.0), or_else_on _ _ x.0 ∙ y.1)

-- a command that is executed: none of the numbers 21 to 28 applies
pub record CommandTaken (k : Columns) (w : Option Operation) (p : Part) (f : Phase) (i : List ℕ) (wp : Bool) : Type 0 where
  pub not_asleep : (taken_asleep k.taken or not p.asleep) ≡ true
  pub not_busy : (taken_busy k.taken or not (is_busy f)) ≡ true
  pub not_suspended : (taken_suspended k.taken (erase_halted f) or not (is_suspended f)) ≡ true
  pub length_ok_lem : length_ok k.length (length i) ≡ true
  pub state_ok_lem : state_ok k.wanted p f ≡ true
  pub latch_ok_lem : (not k.wel or p.wel) ≡ true
  pub address_ok_lem : address_ok k.named (addressing_on k p) i ≡ true
  pub free_ok_lem : free_ok w p f wp ≡ true

pub command_taken : (k : Columns) (w : Option Operation) (p : Part) (f : Phase) (i : List ℕ) (wp : Bool) → command_number k (addressing_on k p) w p f i wp ≡ 0 → CommandTaken k w p f i wp
unfolding command_number
command_taken k w p f i wp e =
    let a = or_else_zero _ _ e in
    let b = or_else_zero _ _ a.1 in
    let c = or_else_zero _ _ b.1 in
    let d = or_else_zero _ _ c.1 in
    let m = or_else_zero _ _ d.1 in
    let g = or_else_zero _ _ m.1 in
    let h = or_else_zero _ _ g.1 in
    record { not_asleep = unless_zero _ 20 a.0; not_busy = unless_zero _ 21 b.0; not_suspended = unless_zero _ 22 c.0; length_ok_lem = unless_zero _ 23 d.0; state_ok_lem = unless_zero _ 24 m.0; latch_ok_lem = unless_zero _ 25 g.0; address_ok_lem = unless_zero _ 26 h.0; free_ok_lem = unless_zero _ 27 h.1 }

-- calls that are lent a map: 1 and 36 come first, as a rebuild gives them, and then what the plain call gives
first_two : (s m r : ℕ) → (s or_else m or_else r) ≡ ((s or_else m) or_else (s or_else r))
unfolding ◌or_else◌
first_two zero m r = refl
first_two (suc s) m r = refl

pub map_tick_order : (n : ℕ) (s : Bool) (a r m t : ℕ) → map_tick_number n s a r m t ≡ (rebuild_number n a m or_else tick_number n s a r t)
unfolding map_tick_number rebuild_number tick_number
map_tick_order n s a r m t = first_two (size_number n a) (map_number n m) (rows_number r or_else sound_number s or_else ticks_number n t)

pub map_script_order : (b : ℕ) (s : Bool) (m a r : ℕ) (ls : List ℕ) (t n d i o : ℕ) → map_script_refusal b s m a r ls t n d i o ≡ (rebuild_number b a m or_else script_refusal b s a r ls t n d i o)
unfolding map_script_refusal rebuild_number script_refusal
map_script_order b s m a r ls t n d i o = first_two (size_number b a) (map_number b m) (later_script_refusal s r ls t n d i o)

-- 35 comes right after 1, before all others
pub wear_tick_order : (n : ℕ) (s : Bool) (a r w t : ℕ) → wear_tick_number n s a r w t ≡ ((size_number n a or_else wear_number n w) or_else tick_number n s a r t)
unfolding wear_tick_number tick_number
wear_tick_order n s a r w t = first_two (size_number n a) (wear_number n w) (rows_number r or_else sound_number s or_else ticks_number n t)

pub wear_script_order : (b : ℕ) (s : Bool) (w a r : ℕ) (ls : List ℕ) (t n d i o : ℕ) → wear_script_refusal b s w a r ls t n d i o ≡ ((size_number b a or_else wear_number b w) or_else script_refusal b s a r ls t n d i o)
unfolding wear_script_refusal script_refusal
wear_script_order b s w a r ls t n d i o = first_two (size_number b a) (wear_number b w) (later_script_refusal s r ls t n d i o)
