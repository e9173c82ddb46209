-- The laws for the driver team from C: calls from C lead where the calls lead that they stand for, so that what is the same of two boards is the same of what is lent.
use Prim.Native.Nat.{ℕ}
use mathlib.Core.Path.{◌≡◌, refl, sym, ap, ◌∙◌, subst}
use mathlib.Core.Bool.{Bool, true, false}
use mathlib.Core.List.{List, [], ◌∷◌, ◌++◌}
use lib.ListN.{length, replicate, length-replicate}
use Rattle.types.specs.declared.Memory.{Memory}
use Rattle.types.specs.declared.EraseUnit.{EraseUnit}
use Rattle.types.specs.declared.Record.{Record}
use Rattle.words.specs.Logic.{bit}
use Rattle.paper.specs.Sizes.{array_bytes, rows_bytes}
use Rattle.paper.specs.Program.{page_base}
use Rattle.paper.specs.History.{Call, transaction, ticks, record_after_call, record_after_calls}
use Rattle.paper.specs.Board.{Board}
use Rattle.paper.proofs.Kept.{powered_fresh}
use Rattle.record_bytes.specs.Layout.{record_bytes}
use Rattle.yawlspar.specs.Face.{Asked, identity_of, registers_of, up_of, power_up_answer, power_up_bytes}
use Rattle.history.proofs.Told.{run_told}
use Rattle.laws.specs.Writes.{program, erase, Write, steps, Whole, Rested, Makes, place_of}
use Rattle.laws.specs.DriverLaws.{all_steps, AllWhole, Any}
use Rattle.laws.proofs.DriverLaws.{laws}
use Rattle.from_c.specs.Driven.{Lent, lent, CCall, transact, call_of, calls_of, Driven}
use Rattle.from_c.specs.Holding.{Holding}
use Rattle.from_c.specs.LawsFromC.{board_in, in_c, MadeFromC, RestedIn, SameFromC, ErasedFromC, LawsFromC}
use Rattle.from_c.proofs.Chained.{driven_run, driven_heard, plain_heard}
use Rattle.from_c.proofs.FromC.{up_unrefused, up_holds}

-- a transaction at either level
pub level_call : (wp : Bool) (i : List ℕ) (o : ℕ) (p : Record) → call_of (transact (bit wp) i (replicate o 0)) p ≡ transaction wp i o ∷ []
level_call true i o p = ap (λ (n : ℕ). transaction true i n ∷ []) (length-replicate o 0)
level_call false i o p = ap (λ (n : ℕ). transaction false i n ∷ []) (length-replicate o 0)

in-c : (cs : List Call) (p : Record) → calls_of (in_c cs) p ≡ cs
in-c [] p = refl
in-c (transaction wp i o ∷ cs) p =
    ap (λ (ds : List Call). ds ++ calls_of (in_c cs) (record_after_calls ds p)) (level_call wp i o p)
    ∙ ap (λ (ds : List Call). transaction wp i o ∷ ds) (in-c cs (record_after_call (transaction wp i o) p))
in-c (ticks n ∷ cs) p = ap (λ (ds : List Call). ticks n ∷ ds) (in-c cs (record_after_call (ticks n) p))

-- what calls from C make
pub made_from_c : (l m : Lent) (p : Record) (cs : List CCall) → Holding l p → (chain : Driven l cs m) → MadeFromC p chain
made_from_c l m p cs h chain =
    let s = driven_run chain p h in
    record { next = s.next; holding = s.holding; made = s.run; answers = driven_heard chain p h; plain_answers = plain_heard chain p h }

-- the same board is the same record's bytes, array and rows
same_lent : (m n : Lent) (q r : Record) → Holding m q → Holding n r → board_in m q ≡ board_in n r → m ≡ n
same_lent m n q r h g e =
    ap (λ (bs : List ℕ). lent bs m.array m.rows) (h.bytes ∙ ap (λ (b : Board). record_bytes b.state) e ∙ sym g.bytes)
    ∙ ap (λ (b : Board). lent n.bytes b.array b.rows) e

module _ (l : Lent) (p : Record) (r : RestedIn l p) where
  pub rested_board : Rested (board_in l p)
  rested_board =
      record { is_sound = r.holding.is_sound; idle = r.idle; awake = r.awake; own_array = r.holding.array; own_rows = r.holding.rows }

  -- from what is lent, by calls from C that stand for these
  module _ (m : Lent) (cs : List CCall) (xs : List Call) (e : calls_of cs p ≡ xs) (chain : Driven l cs m) where
    made_so : MadeFromC p chain
    made_so = made_from_c l m p cs r.holding chain

    makes : Makes (board_in l p) xs (board_in m made_so.next)
    makes = subst (λ (ys : List Call). Makes (board_in l p) ys (board_in m made_so.next)) e made_so.made

    made_record : made_so.next ≡ record_after_calls xs p
    made_record = (run_told makes rested_board.is_sound rested_board.own_array rested_board.own_rows).next

  -- two ways that lead to the same board
  same_way : (m n : Lent) (cs ds : List CCall) (xs ys : List Call) (e : calls_of cs p ≡ xs) (f : calls_of ds p ≡ ys) (one : Driven l cs m) (other : Driven l ds n)
      → ((c d : Board) → Makes (board_in l p) xs c → Makes (board_in l p) ys d → c ≡ d) → m ≡ n
  same_way m n cs ds xs ys e f one other h =
      same_lent m n (made_so m cs xs e one).next (made_so n ds ys f other).next (made_so m cs xs e one).holding (made_so n ds ys f other).holding
      (h (board_in m (made_so m cs xs e one).next) (board_in n (made_so n ds ys f other).next) (makes m cs xs e one) (makes n ds ys f other))

powered_rested : (q : Asked) (bs xs rs : List ℕ) → power_up_answer (length bs) q ≡ 0 → length xs ≡ array_bytes q.blocks → length rs ≡ rows_bytes → RestedIn (lent (power_up_bytes q bs) xs rs) (up_of q).next
powered_rested q bs xs rs z lx lr =
    let e = powered_fresh q.blocks (identity_of q) (registers_of q) (up_unrefused q bs z) in
    record { holding = up_holds q bs z xs rs lx lr; idle = ap (λ (p : Record). p.phase) e; awake = ap (λ (p : Record). p.part.asleep) e }

erase_from_c : (l m n : Lent) (p : Record) (ws : List Write) (u : EraseUnit) (w : Write) (cs ds : List CCall) → RestedIn l p → AllWhole p Any ws → Whole p (erase u) w
    → calls_of cs p ≡ all_steps ws → calls_of ds (record_after_calls (all_steps ws) p) ≡ steps w → Driven l cs m → Driven m ds n → ErasedFromC u w m n
erase_from_c l m n p ws u w cs ds r all h e f one other =
    let first = made_so l p r m cs (all_steps ws) e one in
    let run = makes l p r m cs (all_steps ws) e one in
    let ready = laws.writes_follow (board_in l p) (board_in m first.next) ws (rested_board l p r) all run in
    let q : RestedIn m first.next = record { holding = first.holding; idle = ready.rested.idle; awake = ready.rested.awake } in
    let g = ap (calls_of ds) (made_record l p r m cs (all_steps ws) e one) ∙ f in
    let second = made_so m first.next q n ds (steps w) g other in
    record {
      before = first.next;
      after = second.next;
      held_before = first.holding;
      held_after = second.holding;
      erased = laws.erase_after (board_in l p) (board_in m first.next) (board_in n second.next) ws u w (rested_board l p r) all h run (makes m first.next q n ds (steps w) g other);
    }

either_from_c : (l m n : Lent) (p : Record) (k : Memory) (v w : Write) (cs ds : List CCall) → RestedIn l p → Whole p (program k) v → Whole p (program k) w
    → page_base (place_of p k v.input) ≡ page_base (place_of p k w.input)
    → calls_of cs p ≡ steps v ++ steps w → calls_of ds p ≡ steps w ++ steps v → Driven l cs m → Driven l ds n → SameFromC l p k v w m n
either_from_c l m n p k v w cs ds r hv hw page e f one other =
    let a = made_so l p r m cs (steps v ++ steps w) e one in
    let b = made_so l p r n ds (steps w ++ steps v) f other in
    let t = laws.either_order (board_in l p) (board_in m a.next) (board_in n b.next) k v w (rested_board l p r) hv hw page (makes l p r m cs (steps v ++ steps w) e one) (makes l p r n ds (steps w ++ steps v) f other) in
    record { same = same_lent m n a.next b.next a.holding b.holding t.same; one = a.next; other = b.next; held_one = a.holding; held_other = b.holding; told = t }

pub laws_from_c : LawsFromC
laws_from_c =
    record {
      calls = in-c;
      made = made_from_c;
      powered = powered_rested;
      either_order = either_from_c;
      any_order = λ l m n p k j v w cs ds r hv hw e f one other.
          same_way l p r m n cs ds (steps v ++ steps w) (steps w ++ steps v) e f one other (λ c d a b. laws.any_order (board_in l p) c d k j v w (rested_board l p r) hv hw a b);
      twice_is_once = λ l m n p k v w cs ds r hv hw same e f one other.
          same_way l p r n m ds cs (steps v ++ steps w) (steps v) f e other one (λ c d a b. laws.twice_is_once (board_in l p) d c k v w (rested_board l p r) hv hw same b a);
      erase_after = erase_from_c;
    }
