-- A sound part with its own memory stays one over calls, of the same size; and what each call changes, folded over calls and then others.
use mathlib.Core.Path.{◌≡◌, refl, sym, ap, ◌∙◌}
use mathlib.Core.Bool.{true}
use mathlib.Core.List.{List, [], ◌∷◌, ◌++◌}
use lib.ListN.{length}
use Rattle.types.specs.declared.Memory.TheVariants.{Array, Rows}
use Rattle.types.specs.declared.Record.{Record}
use Rattle.paper.specs.Sizes.{array_bytes}
use Rattle.paper.specs.Soundness.{sound}
use Rattle.paper.specs.History.{Call, transaction, ticks, record_after_call}
use Rattle.paper.specs.Board.{Board, Own, after_call, after_calls, over_calls}
use Rattle.paper.proofs.Kept.{run_sound, run_size}
use Rattle.paper.proofs.TransactionKept.{transaction_sound, transaction_size}
use Rattle.paper.proofs.CallKept.{after_tick_call}
use Rattle.paper.proofs.Touches.{ticked_length}

-- a call leaves a sound part with its own memory
pub call_own : (c : Call) (b : Board) → Own b → Own (after_call c b)
call_own (transaction wp i o) b own =
    let a = length b.array in
    let r = length b.rows in
    record { is_sound = transaction_sound b.state a r wp i o own.is_sound; own_array = own.own_array ∙ sym (ap array_bytes (transaction_size b.state i a r wp o)); own_rows = own.own_rows }
call_own (ticks n) b own =
    let p = b.state in
    let a = length b.array in
    let r = length b.rows in
    let same = after_tick_call (λ (q : Record). q.part.blocks ≡ p.part.blocks) p n refl (run_size n p) a r in
    record {
      is_sound = after_tick_call (λ (q : Record). sound q ≡ true) p n own.is_sound (run_sound n p own.is_sound) a r;
      own_array = ticked_length Array p a r n b.array ∙ own.own_array ∙ sym (ap array_bytes same);
      own_rows = ticked_length Rows p a r n b.rows ∙ own.own_rows;
    }

-- of the same size, and with the record that the call tells
pub own_state : (c : Call) (b : Board) → Own b → (after_call c b).state ≡ record_after_call c b.state
own_state (transaction wp i o) b own = rw (own.own_array, own.own_rows) refl
own_state (ticks n) b own = rw (own.own_array, own.own_rows) refl

pub own_size : (c : Call) (b : Board) → Own b → (after_call c b).state.part.blocks ≡ b.state.part.blocks
own_size (transaction wp i o) b own = transaction_size b.state i (length b.array) (length b.rows) wp o
own_size (ticks n) b own =
    after_tick_call (λ (q : Record). q.part.blocks ≡ b.state.part.blocks) b.state n refl (run_size n b.state) (length b.array) (length b.rows)

-- so do calls
pub calls_own : (cs : List Call) (b : Board) → Own b → Own (after_calls cs b)
calls_own [] b own = own
calls_own (c ∷ cs) b own = calls_own cs (after_call c b) (call_own c b own)

pub calls_size : (cs : List Call) (b : Board) → Own b → (after_calls cs b).state.part.blocks ≡ b.state.part.blocks
calls_size [] b own = refl
calls_size (c ∷ cs) b own = calls_size cs (after_call c b) (call_own c b own) ∙ own_size c b own

-- something that each call changes, over calls and then others
pub over_append : {A : Type 0} (f : Call → Board → A → A) (cs ds : List Call) (b : Board) (x : A) → over_calls f (cs ++ ds) b x ≡ over_calls f ds (after_calls cs b) (over_calls f cs b x)
over_append f [] ds b x = refl
over_append f (c ∷ cs) ds b x = over_append f cs ds (after_call c b) (f c b x)
