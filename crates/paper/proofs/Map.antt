-- A map of blank pages: there is one right map of an array; a map that is kept has right bits of the pages that were reached, and no other bit changed; and so over calls, where a right map stays right.
use Rattle.types.specs.declared.Operation.{Operation}
use Rattle.std.specs.Prelude.{None, Option, Some}
use Prim.Native.Nat.{ℕ, ◌+◌, ◌*◌, ◌/◌, ◌<◌}
use mathlib.Core.Path.{◌≡◌, refl, sym, ap, ◌∙◌}
use mathlib.Core.Bool.{Bool, true, false, cond}
use mathlib.Core.List.{List, [], ◌∷◌, ◌++◌}
use native.Mathlib.Omega.{arith}
use lib.ListN.{length}
use Rattle.types.specs.declared.Memory.TheVariants.{Array}
use Rattle.types.specs.declared.Operation.TheVariants.{Program, Erase, Write}
use Rattle.types.specs.declared.Record.{Record}
use Rattle.types.specs.declared.Reached.{Reached}
use Rattle.words.specs.Logic.{◌or◌}
use Rattle.words.specs.Lists.{AreBytes}
use Rattle.words.specs.Bits.{bit_in, byte_of}
use Rattle.words.proofs.Tests.{nor_l, nor_r}
use Rattle.words.proofs.Lists.{length_up_to}
use Rattle.words.proofs.BitLists.{same_bits, up_to_bit, up_to_bytes, puts_length, puts_bytes, puts_bit, puts_none}
use Rattle.paper.specs.Sizes.{same_memory, page_bytes, array_bytes, array_pages, map_bytes, rows_bytes}
use Rattle.paper.specs.Erase.{memory_of}
use Rattle.paper.specs.Calls.{ticked}
use Rattle.paper.specs.Reached.{reached, touch_page, work_first, work_pages, reaches_page}
use Rattle.paper.specs.History.{Call, transaction, ticks, record_after_call, call_touches, history}
use Rattle.paper.specs.Board.{Board, Own, waited, after_call, after_calls, after_ticks}
use Rattle.paper.specs.Map.{blank_page, Right, map_of, kept, map_after_call, map_after_calls}
use Rattle.paper.proofs.Boards.{call_own, own_state, own_size, calls_own, calls_size}
use Rattle.paper.proofs.Reached.{page_append, call_pages}
use Rattle.paper.proofs.BlankPages.{call_same}

-- there is one right map of an array
pub right_only : (m k xs : List ℕ) → Right m xs → Right k xs → m ≡ k
right_only m k xs r s =
    same_bits m k (omega (arith, r.size, s.size)) r.bytes s.bytes
    (λ q l. r.bits q l ∙ sym (s.bits q (omega (arith, r.size, s.size))))

pub map_right : (n : ℕ) (xs : List ℕ) → length xs ≡ array_bytes n → Right (map_of n xs) xs
unfolding map_of
map_right n xs e =
    let l = length_up_to (map_bytes n) (byte_of (blank_page xs)) in
    record { size = omega (arith, l, e); bytes = up_to_bytes (map_bytes n) (blank_page xs); bits = λ q h. up_to_bit (map_bytes n) (blank_page xs) q (omega (arith, l)) }

-- a map that is kept
module _ (r : Reached) (xs m : List ℕ) where
  pub kept_length : length (kept r xs m) ≡ length m
  unfolding kept
  kept_length = puts_length (work_first r.work) (blank_page xs) m (work_pages r.work r.count)

  pub kept_bytes : AreBytes m → AreBytes (kept r xs m)
  unfolding kept
  kept_bytes h = puts_bytes (work_first r.work) (blank_page xs) m (work_pages r.work r.count) h

  pub kept_bit : (q : ℕ) → q < length m * 8 → bit_in (kept r xs m) q ≡ cond (reaches_page r q) (blank_page xs q) (bit_in m q)
  unfolding kept
  kept_bit q l = puts_bit (work_first r.work) (blank_page xs) m (work_pages r.work r.count) q l

-- where no tick did work, it is as it was
pub none_kept : (w : Option Operation) (xs m : List ℕ) → kept (record { work = w; count = 0 }) xs m ≡ m
unfolding kept
none_kept None xs m = refl
none_kept (Some (Program w s b c d)) xs m = puts_none (same_memory Array w) (b / page_bytes) (blank_page xs) m
none_kept (Some (Erase u b d)) xs m = puts_none (same_memory Array (memory_of u)) (b / page_bytes + d) (blank_page xs) m
none_kept (Some (Write r v)) xs m = refl

-- a tick call reached the pages that its touches lie in
own_pages : (n : ℕ) (b : Board) → Own b → (q : ℕ) → touch_page (call_touches (ticks n) b.state) q ≡ reaches_page (reached b.state (waited b n)) q
own_pages n b own q =
    call_pages b.state own.is_sound q n
    ∙ ap (λ (a : ℕ). reaches_page (reached b.state (ticked b.state a rows_bytes n)) q) (sym own.own_array)
    ∙ ap (λ (r : ℕ). reaches_page (reached b.state (ticked b.state (length b.array) r n)) q) (sym own.own_rows)

-- a page that calls did not touch is as it was
call_left : (c : Call) (b : Board) → Own b → (q : ℕ) → q < array_pages b.state.part.blocks → touch_page (call_touches c b.state) q ≡ false → blank_page (after_call c b).array q ≡ blank_page b.array q
call_left (transaction wp i o) b own q l f = refl
call_left (ticks n) b own q l f =
    call_same b.state own.is_sound b.array own.own_array n (length b.array) (length b.rows) q l (sym (own_pages n b own q) ∙ f)

-- what calls touch after the first
rest_pages : (c : Call) (cs : List Call) (b : Board) → Own b → (q : ℕ) → touch_page (history (c ∷ cs) b.state) q ≡ (touch_page (call_touches c b.state) q or touch_page (history cs (after_call c b).state) q)
rest_pages c cs b own q =
    page_append (call_touches c b.state) (history cs (record_after_call c b.state)) q
    ∙ ap (λ (p : Record). touch_page (call_touches c b.state) q or touch_page (history cs p) q) (sym (own_state c b own))

calls_left : (cs : List Call) (b : Board) → Own b → (q : ℕ) → q < array_pages b.state.part.blocks → touch_page (history cs b.state) q ≡ false → blank_page (after_calls cs b).array q ≡ blank_page b.array q
calls_left [] b own q l f = refl
calls_left (c ∷ cs) b own q l f =
    let g = sym (rest_pages c cs b own q) ∙ f in
    calls_left cs (after_call c b) (call_own c b own) q (rw (own_size c b own) l) (nor_r _ _ g) ∙ call_left c b own q l (nor_l _ _ g)

-- a map after a call, whatever it was
call_length : (c : Call) (b : Board) (m : List ℕ) → length (map_after_call c b m) ≡ length m
call_length (transaction wp i o) b m = refl
call_length (ticks n) b m = kept_length (reached b.state (waited b n)) (after_ticks b n).array m

call_bytes : (c : Call) (b : Board) (m : List ℕ) → AreBytes m → AreBytes (map_after_call c b m)
call_bytes (transaction wp i o) b m h = h
call_bytes (ticks n) b m h = kept_bytes (reached b.state (waited b n)) (after_ticks b n).array m h

call_bit : (c : Call) (b : Board) (m : List ℕ) → Own b → (q : ℕ) → q < length m * 8
    → bit_in (map_after_call c b m) q ≡ cond (touch_page (call_touches c b.state) q) (blank_page (after_call c b).array q) (bit_in m q)
call_bit (transaction wp i o) b m own q l = refl
call_bit (ticks n) b m own q l =
    kept_bit (reached b.state (waited b n)) (after_ticks b n).array m q l
    ∙ ap (λ (t : Bool). cond t (blank_page (after_ticks b n).array q) (bit_in m q)) (sym (own_pages n b own q))

-- and after calls
pub calls_length : (cs : List Call) (b : Board) (m : List ℕ) → length (map_after_calls cs b m) ≡ length m
calls_length [] b m = refl
calls_length (c ∷ cs) b m = calls_length cs (after_call c b) (map_after_call c b m) ∙ call_length c b m

pub calls_bytes : (cs : List Call) (b : Board) (m : List ℕ) → AreBytes m → AreBytes (map_after_calls cs b m)
calls_bytes [] b m h = h
calls_bytes (c ∷ cs) b m h = calls_bytes cs (after_call c b) (map_after_call c b m) (call_bytes c b m h)

-- touched by the calls after the first, or by the first alone, or not
frame_as : (s t : Bool) (x y z : Bool) → (s ≡ false → x ≡ y) → cond s x (cond t y z) ≡ cond (t or s) x z
unfolding ◌or◌
frame_as true true x y z h = refl
frame_as true false x y z h = refl
frame_as false true x y z h = sym (h refl)
frame_as false false x y z h = refl

-- the bits of pages that were touched are right, and every other bit is as it was
pub calls_frame : (cs : List Call) (b : Board) (m : List ℕ) → Own b → (q : ℕ) → q < array_pages b.state.part.blocks → q < length m * 8
    → bit_in (map_after_calls cs b m) q ≡ cond (touch_page (history cs b.state) q) (blank_page (after_calls cs b).array q) (bit_in m q)
calls_frame [] b m own q l h = refl
calls_frame (c ∷ cs) b m own q l h =
    let d = after_call c b in
    let in-part : q < array_pages d.state.part.blocks = rw (own_size c b own) l in
    let later = touch_page (history cs d.state) q in
    let first = touch_page (call_touches c b.state) q in
    let x = blank_page (after_calls cs d).array q in
    calls_frame cs d (map_after_call c b m) (call_own c b own) q in-part (rw (call_length c b m) h)
    ∙ ap (λ (t : Bool). cond later x t) (call_bit c b m own q h)
    ∙ frame_as later first x (blank_page d.array q) (bit_in m q) (λ f. calls_left cs d (call_own c b own) q in-part f)
    ∙ ap (λ (t : Bool). cond t x (bit_in m q)) (sym (rest_pages c cs b own q))

-- a right map stays right
module _ (cs : List Call) (b : Board) (m : List ℕ) (own : Own b) (r : Right m b.array) where
  right_bit : (q : ℕ) → q < array_pages b.state.part.blocks → (t : Bool) → touch_page (history cs b.state) q ≡ t → cond t (blank_page (after_calls cs b).array q) (bit_in m q) ≡ blank_page (after_calls cs b).array q
  right_bit q l true e = refl
  right_bit q l false e = r.bits q (omega (arith, r.size, own.own_array)) ∙ sym (calls_left cs b own q l e)

  pub calls_right : Right (map_after_calls cs b m) (after_calls cs b).array
  calls_right =
      let d = after_calls cs b in
      let k = calls_length cs b m in
      let e = own.own_array in
      record {
        size = omega (arith, k, r.size, e, (calls_own cs b own).own_array, calls_size cs b own);
        bytes = calls_bytes cs b m r.bytes;
        bits = λ q l.
            let in-part : q < array_pages b.state.part.blocks = omega (arith, k, r.size, e) in
            calls_frame cs b m own q in-part (omega (arith, k)) ∙ right_bit q in-part (touch_page (history cs b.state) q) refl;
      }

-- ticks alone
pub ticks_right : (n : ℕ) (b : Board) (m : List ℕ) → Own b → Right m b.array → Right (map_after_call (ticks n) b m) (after_ticks b n).array
ticks_right n b m own r = calls_right (ticks n ∷ []) b m own r

-- calls and then others
pub maps_append : (cs ds : List Call) (b : Board) (m : List ℕ) → map_after_calls (cs ++ ds) b m ≡ map_after_calls ds (after_calls cs b) (map_after_calls cs b m)
maps_append [] ds b m = refl
maps_append (c ∷ cs) ds b m = maps_append cs ds (after_call c b) (map_after_call c b m)
