-- What calls from C give on what holds a record, with a level of WP# that is none, and on what holds no record. All that is proved from C rests on the functions' definitions through these laws alone.
use Prim.Native.Nat.{ℕ}
use mathlib.Core.Path.{◌≡◌, refl, sym, ap, ◌∙◌}
use mathlib.Core.Bool.{true, false, false≢true}
use mathlib.Core.List.{List, [], ◌∷◌}
use lib.Dec.{eqb, leb}
use lib.ListN.{length}
use Rattle.types.specs.declared.Memory.TheVariants.{Array, Rows}
use Rattle.types.specs.declared.Record.{Record}
use Rattle.types.specs.declared.Answer.{Answer}
use Rattle.types.specs.declared.Ticked.{Ticked}
use Rattle.words.specs.Logic.{◌and◌}
use Rattle.words.proofs.Tests.{and_r, and_true}
use Rattle.paper.specs.Soundness.{sound}
use Rattle.paper.specs.Calls.{transacted, transacted_output, ticked, ticked_memory}
use Rattle.paper.specs.Board.{board_of}
use Rattle.paper.specs.Script.{Scripted, scripted}
use Rattle.paper.specs.Map.{MapTicked, MapScripted, map_ticked, map_scripted}
use Rattle.paper.proofs.Numbers.{transaction_taken}
use Rattle.record_bytes.specs.Layout.{record_bytes}
use Rattle.record_bytes.specs.Read.{held, record_in, on_held}
use Rattle.ticks.specs.InBytes.{tick_bytes, tick_memory}
use Rattle.ticks.proofs.InBytes.{unheld_tick_bytes, unheld_memory}
use Rattle.yawlspar.specs.Face.{packed, transact_answer, transact_bytes, transact_output, tick_answer}
use Rattle.yawlspar_script.specs.Face.{script_answer}
use Rattle.yawlspar_map.specs.Face.{map_tick_answer}
use Rattle.yawlspar.proofs.Face.{unheld_bytes}
use Rattle.yawlspar.proofs.Refused.{refused_bytes}
use Rattle.script.specs.InBytes.{script_of, held_script, script_bytes}
use Rattle.checker.specs.InBytes.{held_check}
use Rattle.checker.proofs.InBytes.{same_run, image_left}
use Rattle.mapped.specs.InBytes.{held_map_ticked, held_map_scripted}
use Rattle.from_c.specs.Driven.{Lent, lent, CCall, transact, tick, script, check, tick_map, script_map, gives}

-- the bytes hold the record p
module _ (l : Lent) (p : Record) (e : record_in l.bytes ≡ held p) where
  -- a transaction whose level of WP# is one
  module _ (wp : ℕ) (i o : List ℕ) (level : leb wp 1 ≡ true) where
    abbrev answered : Answer
    answered = transacted p (length l.array) (length l.rows) (eqb wp 1) i (length o)

    pub held_answer : (gives (transact wp i o) l).answer ≡ packed answered.number answered.first
    unfolding on_held transact_answer transacted
    held_answer = rw (e, level, and_true (sound p)) refl

    pub held_transacted : (gives (transact wp i o) l).left.bytes ≡ record_bytes answered.next
    unfolding on_held transact_bytes transacted
    held_transacted = rw (e, level, and_true (sound p)) refl

    pub held_output : (gives (transact wp i o) l).buffers ≡ transacted_output p l.array l.rows (eqb wp 1) i o ∷ []
    unfolding on_held transact_output
    held_output = rw (e, level, and_true (sound p)) refl

  -- ticks
  module _ (n : ℕ) where
    abbrev ran : Ticked
    ran = ticked p (length l.array) (length l.rows) n

    pub held_ticks_answer : (gives (tick n) l).answer ≡ packed ran.number ran.done
    unfolding on_held tick_answer
    held_ticks_answer = rw e refl

    pub held_ticked : (gives (tick n) l).left.bytes ≡ record_bytes ran.next
    unfolding on_held tick_bytes
    held_ticked = rw e refl

    pub held_array : (gives (tick n) l).left.array ≡ ticked_memory Array p (length l.array) (length l.rows) n l.array
    unfolding on_held tick_memory
    held_array = rw e refl

    pub held_rows : (gives (tick n) l).left.rows ≡ ticked_memory Rows p (length l.array) (length l.rows) n l.rows
    unfolding on_held tick_memory
    held_rows = rw e refl

  -- a script
  module _ (wp : ℕ) (i ls ts o n d : List ℕ) where
    abbrev pub came : Scripted
    came = scripted (sound p and leb wp 1) (script_of wp i ls ts) (board_of p l.array l.rows) o n d

    pub held_script_lem : gives (script wp i ls ts o n d) l ≡ record { answer = script_answer came; buffers = came.output ∷ came.answers ∷ came.done ∷ []; left = lent (record_bytes came.board.state) came.board.array came.board.rows }
    unfolding on_held held_script
    held_script_lem = rw e refl

    -- with a map
    module _ (k : List ℕ) where
      abbrev pub came_map : MapScripted
      came_map = map_scripted (sound p and leb wp 1) (script_of wp i ls ts) (board_of p l.array l.rows) o n d k

      pub held_script_map : gives (script_map wp i ls ts o n d k) l ≡ record { answer = script_answer came_map.run; buffers = came_map.run.output ∷ came_map.run.answers ∷ came_map.run.done ∷ came_map.map ∷ []; left = lent (record_bytes came_map.run.board.state) came_map.run.board.array came_map.run.board.rows }
      unfolding on_held held_map_scripted
      held_script_map = rw e refl

  -- ticks with a map
  module _ (n : ℕ) (k : List ℕ) where
    abbrev pub ran_map : MapTicked
    ran_map = map_ticked (board_of p l.array l.rows) n k

    pub held_tick_map : gives (tick_map n k) l ≡ record { answer = map_tick_answer ran_map; buffers = ran_map.map ∷ []; left = lent (record_bytes ran_map.board.state) ran_map.board.array ran_map.board.rows }
    unfolding on_held held_map_ticked
    held_tick_map = rw e refl

-- a transaction whose level is none changes nothing
pub no_level : (l : Lent) (wp : ℕ) (i o : List ℕ) → leb wp 1 ≡ false → (gives (transact wp i o) l).left.bytes ≡ l.bytes
no_level l wp i o e =
    refused_bytes l.bytes (length l.array) (length l.rows) wp i (length o) (λ z. false≢true (sym e ∙ and_r _ _ (transaction_taken _ _ _ _ _ _ z).is_sound))

unheld_script : (wp : ℕ) (i ls ts o n d : List ℕ) (l : Lent) → (record_in l.bytes).ok ≡ false → (gives (script wp i ls ts o n d) l).left ≡ l
unfolding on_held held_script
unheld_script wp i ls ts o n d l e = rw e refl

unheld_script_map : (wp : ℕ) (i ls ts o n d k : List ℕ) (l : Lent) → (record_in l.bytes).ok ≡ false → (gives (script_map wp i ls ts o n d k) l).left ≡ l
unfolding on_held held_map_scripted
unheld_script_map wp i ls ts o n d k l e = rw e refl

unheld_tick_map : (n : ℕ) (k : List ℕ) (l : Lent) → (record_in l.bytes).ok ≡ false → (gives (tick_map n k) l).left ≡ l
unfolding on_held held_map_ticked
unheld_tick_map n k l e = rw e refl

-- a check leaves what its script leaves; with an image that is not as long as the array it leaves all as it was
module _ (wp : ℕ) (i ls ts o n d image : List ℕ) (l : Lent) where
  pub same_left : length image ≡ length l.array → (gives (check wp i ls ts o n d image) l).left ≡ (gives (script wp i ls ts o n d) l).left
  same_left e =
      ap (λ (w : Scripted). lent (script_bytes (record_in l.bytes) w l.bytes) w.board.array w.board.rows) (same_run l.bytes wp (script_of wp i ls ts) l.array l.rows o n d image e)

  pub image_kept : (length image ≡ length l.array → ⊥) → (gives (check wp i ls ts o n d image) l).left ≡ l
  image_kept h =
      let k = image_left l.bytes wp (script_of wp i ls ts) l.array l.rows o n d image h in
      rw (← k.bytes, ← k.array, ← k.rows) refl

  unheld_check : (record_in l.bytes).ok ≡ false → (gives (check wp i ls ts o n d image) l).left ≡ l
  unfolding on_held held_check
  unheld_check e = rw e refl

-- where the bytes hold no record, no call changes anything
pub unheld_left : (c : CCall) (l : Lent) → (record_in l.bytes).ok ≡ false → (gives c l).left ≡ l
unheld_left (transact wp i o) l e =
    ap (λ (bs : List ℕ). lent bs l.array l.rows) (sym (unheld_bytes (record_in l.bytes) e (length l.array) (length l.rows) wp i (length o) l.bytes))
unheld_left (tick n) l e =
    let h = record_in l.bytes in
    let a = length l.array in
    let r = length l.rows in
    rw (← unheld_tick_bytes h e a r n l.bytes, ← unheld_memory h e a r n Array l.array, ← unheld_memory h e a r n Rows l.rows) refl
unheld_left (script wp i ls ts o n d) l e = unheld_script wp i ls ts o n d l e
unheld_left (check wp i ls ts o n d image) l e = unheld_check wp i ls ts o n d image l e
unheld_left (tick_map n k) l e = unheld_tick_map n k l e
unheld_left (script_map wp i ls ts o n d k) l e = unheld_script_map wp i ls ts o n d k l e
