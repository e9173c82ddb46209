-- The laws for the driver team: each is what whole writes leave, place by place, put together.
use Prim.Native.Nat.{ℕ, ◌+◌, ◌<◌}
use mathlib.Core.Path.{◌≡◌, refl, sym, ap, ◌∙◌, subst, subst⁻¹}
use mathlib.Core.Bool.{Bool, true, false, cond}
use mathlib.Core.List.{List, [], ◌∷◌, ◌++◌, append_assoc}
use lib.ListN.{length, get_or}
use lib.Seq.{ext_get_or}
use lib.Dec.{ltb}
use Rattle.types.specs.declared.Memory.{Memory}
use Rattle.types.specs.declared.Memory.TheVariants.{Array, Rows}
use Rattle.types.specs.declared.EraseUnit.{EraseUnit}
use Rattle.types.specs.declared.Phase.TheVariants.{Idle}
use Rattle.types.specs.declared.Record.{Record}
use Rattle.words.specs.Logic.{◌and◌}
use Rattle.paper.specs.Sizes.{page_bytes, same_memory, from_on}
use Rattle.paper.specs.Program.{kept_count, passed_count, no_data, narrowed_byte}
use Rattle.paper.specs.Erase.{memory_of, erased_byte}
use Rattle.paper.specs.History.{Call}
use Rattle.paper.specs.Board.{Board, board_of, after_calls}
use Rattle.history.proofs.Joined.{Parted, run_folded, run_parted, run_exists, run_joined}
use Rattle.laws.specs.Writes.{Kind, program, erase, Write, steps, Whole, Rested, Makes, at_rest, place_of, data_of, in_page_of, in_unit_of, byte_to, byte_programmed, byte_written, memory_in, Done}
use Rattle.laws.specs.DriverLaws.{BothDone, all_steps, AllWhole, none, more, AsBefore, WritesFollow, EitherOrder, AnyOrder, TwiceIsOnce, EraseAfter, Within, EraseForgets, MergeLeavesBoth, Laws}
use Rattle.laws.proofs.Commanded.{standing_again}
use Rattle.laws.proofs.Exactly.{fits_exactly}
use Rattle.laws.proofs.Together.{programs_swap, program_twice, erase_forgets_place, merge_leaves}
use Rattle.laws.proofs.Written.{plainly_whole, write_done, rested_again, whole_again}

-- the memory of two boards is the same where it has one length and its bytes are, place by place; and the boards are if their records are too
module _ (b c e : Board) (lc : (m : Memory) → length (memory_in m c) ≡ length (memory_in m b)) (le : (m : Memory) → length (memory_in m e) ≡ length (memory_in m b))
    (h : (m : Memory) (at : ℕ) → at < length (memory_in m b) → get_or (memory_in m c) at 0 ≡ get_or (memory_in m e) at 0) where
  pub same_bytes : (m : Memory) → memory_in m c ≡ memory_in m e
  same_bytes m =
      ext_get_or 0 (memory_in m c) (memory_in m e) (lc m ∙ sym (le m)) (λ at l. h m at (subst (λ (n : ℕ). at < n) (lc m) l))

pub same_board : (b c e : Board) → c.state ≡ e.state → ((m : Memory) → length (memory_in m c) ≡ length (memory_in m b)) → ((m : Memory) → length (memory_in m e) ≡ length (memory_in m b))
    → ((m : Memory) (at : ℕ) → at < length (memory_in m b) → get_or (memory_in m c) at 0 ≡ get_or (memory_in m e) at 0) → c ≡ e
same_board b c e s lc le h =
    ap (λ (q : Record). board_of q c.array c.rows) s
    ∙ ap (λ (xs : List ℕ). board_of e.state xs c.rows) (same_bytes b c e lc le h Array)
    ∙ ap (λ (rs : List ℕ). board_of e.state e.array rs) (same_bytes b c e lc le h Rows)

-- a run of some calls and then others, with the board between
module _ (cs ds : List Call) (b e : Board) (run : Makes b (cs ++ ds) e) where
  parted : Parted b.state b.array b.rows cs ds e.state e.array e.rows
  parted = run_parted cs ds run

  abbrev middle : Board
  middle = board_of parted.between parted.array parted.rows

-- at rest, and at rest again
rest_again : (p : Record) → at_rest (at_rest p) ≡ at_rest p
rest_again p = standing_again p Idle false no_data Idle false no_data

-- what a write leaves of a byte does not depend on the rest
written_at_rest : (p : Record) (d : Kind) (i : List ℕ) (m : Memory) (at x : ℕ) → byte_written (at_rest p) d i m at x ≡ byte_written p d i m at x
written_at_rest p (program w) i m at x = refl
written_at_rest p (erase u) i m at x = refl

-- two whole writes
module _ (b : Board) (r : Rested b) (d f : Kind) (v w : Write) (hv : Whole b.state d v) (hw : Whole b.state f w) (c : Board) (run : Makes b (steps v ++ steps w) c) where
  abbrev between : Board
  between = middle (steps v) (steps w) b c run

  first_run : Makes b (steps v) between
  first_run = (parted (steps v) (steps w) b c run).before

  second_run : Makes between (steps w) c
  second_run = (parted (steps v) (steps w) b c run).after

  first_done : Done b d v between
  first_done = write_done b r d v hv between first_run

  second_done : Done between f w c
  second_done =
      write_done between (rested_again b r d v hv between first_run) f w (whole_again b r d v hv between first_run f w hw) c second_run

  both : BothDone b d v f w c
  both = record { between = between; leads = first_run; does = first_done; leads_on = second_run; does_then = second_done }

  both_rest : c.state ≡ at_rest b.state
  both_rest = second_done.rest ∙ ap at_rest first_done.rest ∙ rest_again b.state

  both_length : (m : Memory) → length (memory_in m c) ≡ length (memory_in m b)
  both_length m = second_done.lengths m ∙ first_done.lengths m

  both_bytes : (m : Memory) (at : ℕ) → at < length (memory_in m b)
      → get_or (memory_in m c) at 0 ≡ byte_written b.state f w.input m at (byte_written b.state d v.input m at (get_or (memory_in m b) at 0))
  both_bytes m at l =
      second_done.bytes m at (subst⁻¹ (λ (n : ℕ). at < n) (first_done.lengths m) l)
      ∙ ap (λ (q : Record). byte_written q f w.input m at (get_or (memory_in m between) at 0)) first_done.rest
      ∙ written_at_rest b.state f w.input m at (get_or (memory_in m between) at 0)
      ∙ ap (byte_written b.state f w.input m at) (first_done.bytes m at l)

any_order : AnyOrder
any_order b c e m k v w r hv hw one other =
    same_board b c e (both_rest b r (program m) (program k) v w hv hw c one ∙ sym (both_rest b r (program k) (program m) w v hw hv e other))
    (both_length b r (program m) (program k) v w hv hw c one)
    (both_length b r (program k) (program m) w v hw hv e other)
    (λ q at l.
    both_bytes b r (program m) (program k) v w hv hw c one q at l
    ∙ programs_swap q at (get_or (memory_in q b) at 0) k m (place_of b.state k w.input) (place_of b.state m v.input) (data_of b.state w.input) (data_of b.state v.input)
    ∙ sym (both_bytes b r (program k) (program m) w v hw hv e other q at l))

-- a place outside of the page of a program
outside_page : (m : Memory) (a : ℕ) (d : List ℕ) (k : Memory) (at x : ℕ) → in_page_of m a k at ≡ false → byte_programmed m a d k at x ≡ x
unfolding ◌and◌
outside_page m a d k at x h =
    ap (λ (t : Bool). cond (t and ltb (byte_to a d at) (kept_count d)) (narrowed_byte x (get_or d (passed_count d + byte_to a d at) 0)) x) h

either_order : EitherOrder
either_order b c e m v w r hv hw one_page one other =
    record {
      same = any_order b c e m m v w r hv hw one other;
      one_way = both b r (program m) (program m) v w hv hw c one;
      other_way = both b r (program m) (program m) w v hw hv e other;
      untouched = λ k at l h.
          let x = get_or (memory_in k b) at 0 in
          let o = ap (λ (a : ℕ). same_memory k m and from_on a page_bytes at) (sym one_page) ∙ h in
          both_bytes b r (program m) (program m) v w hv hw c one k at l
          ∙ outside_page m (place_of b.state m w.input) (data_of b.state w.input) k at (byte_programmed m (place_of b.state m v.input) (data_of b.state v.input) k at x) o
          ∙ outside_page m (place_of b.state m v.input) (data_of b.state v.input) k at x h;
    }

twice_is_once : TwiceIsOnce
twice_is_once b c e m v w r hv hw same once twice =
    let o = write_done b r (program m) v hv c once in
    same_board b e c (both_rest b r (program m) (program m) v w hv hw e twice ∙ sym o.rest)
    (both_length b r (program m) (program m) v w hv hw e twice)
    o.lengths
    (λ k at l.
    let x = get_or (memory_in k b) at 0 in
    both_bytes b r (program m) (program m) v w hv hw e twice k at l
    ∙ ap (λ (a : ℕ). byte_programmed m a (data_of b.state w.input) k at (byte_written b.state (program m) v.input k at x)) same.place
    ∙ ap (λ (d : List ℕ). byte_programmed m (place_of b.state m v.input) d k at (byte_written b.state (program m) v.input k at x)) same.same_data
    ∙ program_twice k at x m (place_of b.state m v.input) (data_of b.state v.input)
    ∙ sym (o.bytes k at l))

-- writes that are all whole on one part are so on another
all_again : {p q : Record} {Q R : Kind → Write → Type 0} {ws : List Write} → ((d : Kind) (w : Write) → Whole p d w → Whole q d w) → ((d : Kind) (w : Write) → Q d w → R d w) → AllWhole p Q ws → AllWhole q R ws
all_again f g none = none
all_again f g (more {w} d h t rest) = more d (f d w h) (g d w t) (all_again f g rest)

writes_follow : WritesFollow
writes_follow b e [] r none run =
    let z : e ≡ b = run_folded run in
    subst⁻¹ (AsBefore b) z (record { rested = r; whole = λ d w h. h })
writes_follow b e (w ∷ ws) r (more d h t rest) run =
    let c = middle (steps w) (all_steps ws) b e run in
    let first = (parted (steps w) (all_steps ws) b e run).before in
    let again = whole_again b r d w h c first in
    let on = writes_follow c e ws (rested_again b r d w h c first) (all_again again (λ f v q. q) rest) (parted (steps w) (all_steps ws) b e run).after in
    record { rested = on.rested; whole = λ f v g. on.whole f v (again f v g) }

erase_after : EraseAfter
erase_after b c e ws u w r all h before run =
    let q = writes_follow b c ws r all before in
    let o = write_done c q.rested (erase u) w (q.whole (erase u) w h) e run in
    record {
      done = o;
      filled = λ at l i. o.bytes (memory_of u) at l ∙ ap (λ (t : Bool). cond t erased_byte (get_or (memory_in (memory_of u) c) at 0)) i;
      untouched = λ k at l i. o.bytes k at l ∙ ap (λ (t : Bool). cond t erased_byte (get_or (memory_in k c) at 0)) i;
    }

-- a program of a page of the unit, and then the erase, or the erase alone
module _ (b : Board) (r : Rested b) (m : Memory) (v : Write) (u : EraseUnit) (w : Write) (hv : Whole b.state (program m) v) (hw : Whole b.state (erase u) w)
    (within : in_unit_of u b.state.part.blocks (place_of b.state (memory_of u) w.input) m (place_of b.state m v.input) ≡ true) where
  forgets_one : (c e : Board) → Makes b (steps w) c → Makes b (steps v ++ steps w) e → e ≡ c
  forgets_one c e alone run =
      let o = write_done b r (erase u) w hw c alone in
      same_board b e c (both_rest b r (program m) (erase u) v w hv hw e run ∙ sym o.rest)
      (both_length b r (program m) (erase u) v w hv hw e run)
      o.lengths
      (λ k at l.
      both_bytes b r (program m) (erase u) v w hv hw e run k at l
      ∙ erase_forgets_place u b.state.part.blocks (place_of b.state (memory_of u) w.input) (place_of b.state m v.input) at k m (data_of b.state v.input) (get_or (memory_in k b) at 0) within
      ∙ sym (o.bytes k at l))

within_at_rest : (p : Record) (u : EraseUnit) (a : ℕ) (d : Kind) (w : Write) → Within p u a d w → Within (at_rest p) u a d w
within_at_rest p u a (program m) w h = h
within_at_rest p u a (erase v) w h = h

erase_forgets : EraseForgets
erase_forgets b c e [] u w r none h alone run = run_folded run ∙ sym (run_folded alone)
erase_forgets b c e (v ∷ ws) u w r (more (erase x) hv t rest) h alone run = absurd t
erase_forgets b c e (v ∷ ws) u w r (more (program m) hv t rest) h alone run =
    let joined = subst (λ (cs : List Call). Makes b cs e) (append_assoc (steps v) (all_steps ws) (steps w)) run in
    let d = middle (steps v) (all_steps ws ++ steps w) b e joined in
    let first = (parted (steps v) (all_steps ws ++ steps w) b e joined).before in
    let second = (parted (steps v) (all_steps ws ++ steps w) b e joined).after in
    let rest_is : d.state ≡ at_rest b.state = (write_done b r (program m) v hv d first).rest in
    let again = whole_again b r (program m) v hv d first in
    let a = place_of b.state (memory_of u) w.input in
    let all : AllWhole d.state (Within d.state u (place_of d.state (memory_of u) w.input)) ws = all_again again (λ f x q. subst⁻¹ (λ (p : Record). Within p u (place_of p (memory_of u) w.input) f x) rest_is (within_at_rest b.state u a f x q)) rest in
    let last = run_exists (steps w) d in
    erase_forgets d (after_calls (steps w) d) e ws u w (rested_again b r (program m) v hv d first) all (again (erase u) w h) last second
    ∙ forgets_one b r m v u w hv h t c (after_calls (steps w) d) alone (run_joined first last)

merge_leaves_both : MergeLeavesBoth
merge_leaves_both b c e m v w z r hv hw hz g run merged =
    let p = b.state in
    let o = write_done b r (program m) z hz e merged in
    same_board b c e (both_rest b r (program m) (program m) v w hv hw c run ∙ sym o.rest)
    (both_length b r (program m) (program m) v w hv hw c run)
    o.lengths
    (λ k at l.
    let x = get_or (memory_in k b) at 0 in
    both_bytes b r (program m) (program m) v w hv hw c run k at l
    ∙ merge_leaves m (place_of p m v.input) (place_of p m w.input) (data_of p v.input) (data_of p w.input) g.goes_on g.fits k at x
    ∙ ap (λ (a : ℕ). byte_programmed m a (data_of p v.input ++ data_of p w.input) k at x) (sym g.starts)
    ∙ ap (λ (d : List ℕ). byte_programmed m (place_of p m z.input) d k at x) (sym g.joined)
    ∙ sym (o.bytes k at l))

pub laws : Laws
laws =
    record {
      fits_exactly = fits_exactly;
      plainly_whole = plainly_whole;
      writes_do = λ b e d w r h run. write_done b r d w h e run;
      writes_follow = writes_follow;
      either_order = either_order;
      any_order = any_order;
      twice_is_once = twice_is_once;
      erase_after = erase_after;
      erase_forgets = erase_forgets;
      merge_leaves_both = merge_leaves_both;
    }
