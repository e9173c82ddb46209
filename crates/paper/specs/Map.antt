-- A map of blank pages: one bit per page of the array, low bit first, set exactly when the page is all FFh.
use Rattle.std.specs.Prelude.{ℕ, zero, suc, ◌+◌, ◌*◌, ◌<◌, ◌≡◌, List, [], ◌∷◌, Bool, cond, length, get_or, eqb, ltb, leb, Option, Some, None, Result, Ok, Err}
use Rattle.types.specs.declared.Record.{Record}
use Rattle.types.specs.declared.Reached.{Reached}
use Rattle.types.specs.declared.Refusal.{Refusal}
use Rattle.words.specs.Logic.{◌and◌, when_zero}
use Rattle.words.specs.Lists.{up_to, first_of, all_below, AreBytes}
use Rattle.words.specs.Bits.{bit_in, byte_of, put_bits}
use Rattle.paper.specs.Sizes.{page_bytes, array_pages, map_bytes}
use Rattle.paper.specs.Erase.{erased_byte}
use Rattle.paper.specs.Soundness.{sound}
use Rattle.paper.specs.Refusals.{number}
use Rattle.paper.specs.Numbers.{map_number, rebuild_number, query_number, map_tick_number, map_script_refusal}
use Rattle.paper.specs.Reached.{reached, work_first, work_pages}
use Rattle.paper.specs.History.{Call, transaction, ticks}
use Rattle.paper.specs.Board.{Board, waited, after_call, after_ticks}
use Rattle.paper.specs.Script.{Script, Scripted, calls_at, after_steps, unstepped, refusal_of, scripted, script_calls}

-- page q of an array is all FFh
unfoldable pub blank_page : List ℕ → ℕ → Bool
blank_page xs q = all_below page_bytes (λ i. eqb (get_or xs (q * page_bytes + i) 0) erased_byte)

-- a map is right for an array: one bit per page, and each bit set exactly when its page is all FFh
pub record Right (m xs : List ℕ) : Type 0 where
  pub size : length m * 8 * page_bytes ≡ length xs
  pub bytes : AreBytes m
  pub bits : (q : ℕ) → q < length m * 8 → bit_in m q ≡ blank_page xs q

-- the map of an array of n blocks
unfoldable pub map_of : ℕ → List ℕ → List ℕ
map_of n xs = up_to (map_bytes n) (byte_of (blank_page xs))

-- a map after a rebuild, which makes it from the array: refused, as it was
unfoldable pub rebuilt : ℕ → List ℕ → List ℕ → List ℕ
rebuilt n xs m = when_zero (rebuild_number n (length xs) (length m)) (map_of n xs) m

-- the first page at or after page q that a map has as blank; the number of pages where none is
abbrev pub next_blank : ℕ → List ℕ → ℕ → ℕ
next_blank n m q = first_of (array_pages n) (λ i. leb q i and bit_in m i)

-- what a query of a map says: a page, the first that is blank; that none is; or the number that refuses it
pub data Blank : Type 0 where
  Page : ℕ → Blank
  NoPage : Blank
  Refused : ℕ → Blank

-- and how code says it
abbrev pub blank_of : Result (Option ℕ) Refusal → Blank
blank_of (Ok (Some q)) = Page q
blank_of (Ok None) = NoPage
blank_of (Err r) = Refused (number r)

-- what a query answers
unfoldable pub queried : ℕ → List ℕ → ℕ → Blank
queried n m q =
    when_zero (query_number n (length m) q)
    (cond (ltb (next_blank n m q) (array_pages n)) (Page (next_blank n m q)) NoPage)
    (Refused (query_number n (length m) q))

-- a map after ticks that reached r and left the array xs: the bits of the pages that they reached are right, and every other bit is as it was
unfoldable pub kept : Reached → List ℕ → List ℕ → List ℕ
kept r xs m = put_bits (work_pages r.work r.count) (work_first r.work) (blank_page xs) m

-- a map after a call, on a part with its memory: a transaction leaves it
abbrev pub map_after_call : Call → Board → List ℕ → List ℕ
map_after_call (transaction wp i o) b m = m
map_after_call (ticks n) b m = kept (reached b.state (waited b n)) (after_ticks b n).array m

-- and after a list of calls
abbrev pub map_after_calls : List Call → Board → List ℕ → List ℕ
map_after_calls [] b m = m
map_after_calls (c ∷ cs) b m = map_after_calls cs (after_call c b) (map_after_call c b m)

-- what ticks that are lent a map give: the part after them, the map, the number, and how many ticks did work
pub record MapTicked : Type 0 where
  pub board : Board
  pub map : List ℕ
  pub number : ℕ
  pub done : ℕ

abbrev pub map_tick_number_of : Board → ℕ → List ℕ → ℕ
map_tick_number_of b n m =
    map_tick_number b.state.part.blocks (sound b.state) (length b.array) (length b.rows) (length m) n

-- as plain ticks, and the map is kept; refused, with 1, 36, 2, 5 or 6, all is as it was
unfoldable pub map_ticked : Board → ℕ → List ℕ → MapTicked
map_ticked b n m =
    when_zero (map_tick_number_of b n m)
    (record { board = after_ticks b n; map = map_after_call (ticks n) b m; number = 0; done = (waited b n).done })
    (record { board = b; map = m; number = map_tick_number_of b n m; done = 0 })

-- a map after the first k steps of a script, up to and including the one that stops it
abbrev pub map_steps : Script → ℕ → Scripted → List ℕ → List ℕ
map_steps s zero w m = m
map_steps s (suc k) w m =
    when_zero (after_steps s k w).number
    (map_after_calls (calls_at s k (after_steps s k w)) (after_steps s k w).board (map_steps s k w m))
    (map_steps s k w m)

-- and after the whole: refused, it is as it was
unfoldable pub script_map : Bool → Script → Board → List ℕ → List ℕ → List ℕ → List ℕ → List ℕ
script_map sound s b o n d m =
    when_zero (refusal_of sound s b o n d) (map_steps s (length s.lengths) (unstepped 0 b o n d) m) m

-- what a script that is lent a map gives
pub record MapScripted : Type 0 where
  pub run : Scripted
  pub map : List ℕ

-- 1, 36, 2, 7, 4 or 5 of it, of a record that is sound or is not
abbrev pub map_refusal_of : Bool → Script → Board → List ℕ → List ℕ → List ℕ → List ℕ → ℕ
map_refusal_of sound s b o n d m =
    map_script_refusal b.state.part.blocks sound (length m) (length b.array) (length b.rows) s.lengths (length s.ticks) (length n) (length d) (length s.input) (length o)

-- as a plain script, and the map is kept
unfoldable pub map_scripted : Bool → Script → Board → List ℕ → List ℕ → List ℕ → List ℕ → MapScripted
map_scripted sound s b o n d m =
    when_zero (map_refusal_of sound s b o n d m)
    (record { run = scripted sound s b o n d; map = script_map sound s b o n d m })
    (record { run = unstepped (map_refusal_of sound s b o n d m) b o n d; map = m })

-- the calls that they make, with the part's own memory and a map of m bytes lent: the plain ones; refused by 36, none
abbrev pub map_tick_calls : Record → ℕ → ℕ → List Call
map_tick_calls p n m = when_zero (map_number p.part.blocks m) (ticks n ∷ []) []

abbrev pub map_script_calls : Bool → Script → Record → ℕ → ℕ → ℕ → ℕ → List Call
map_script_calls sound s p o n d m =
    when_zero (map_number p.part.blocks m) (script_calls sound s p o n d) []
