-- Runs of calls over a part's memory, each given the record that the last one returned and the bytes as the last one left them.
use Rattle.std.specs.Prelude.{ℕ, ◌≡◌, List, [], ◌∷◌, Bool, length}
use Rattle.types.specs.declared.Memory.TheVariants.{Array, Rows}
use Rattle.types.specs.declared.Record.{Record}
use Rattle.types.specs.declared.Answer.{Answer}
use Rattle.types.specs.declared.Ticked.{Ticked}
use Rattle.paper.specs.Calls.{transacted, ticked, ticked_memory}
use Rattle.paper.specs.History.{Call, transaction, ticks}

-- the record, the array and the rows before; the calls; the record, the array and the rows after. Each result is one that the call's contract allows. A transaction is lent the array and the rows to read alone
pub data Run : Record → List ℕ → List ℕ → List Call → Record → List ℕ → List ℕ → Type 0 where
  done : {p : Record} {xs rs : List ℕ} → Run p xs rs [] p xs rs
  sends : {p q : Record} {xs rs ys ts : List ℕ} {wp : Bool} {i : List ℕ} {o : ℕ} {cs : List Call} (a : Answer) → a ≡ transacted p (length xs) (length rs) wp i o → Run a.next xs rs cs q ys ts → Run p xs rs (transaction wp i o ∷ cs) q ys ts
  waits : {p q : Record} {xs rs xs' rs' ys ts : List ℕ} {n : ℕ} {cs : List Call} (t : Ticked) → t ≡ ticked p (length xs) (length rs) n → xs' ≡ ticked_memory Array p (length xs) (length rs) n xs → rs' ≡ ticked_memory Rows p (length xs) (length rs) n rs → Run t.next xs' rs' cs q ys ts → Run p xs rs (ticks n ∷ cs) q ys ts
