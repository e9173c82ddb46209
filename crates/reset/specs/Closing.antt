-- The last sentences of demand 3 as definitions: the calls that wake, arm and reset a part, what may stand between them, and what the part then is.
use Rattle.std.specs.Prelude.{ℕ, ◌≡◌, Bool, true, List, [], ◌∷◌, ◌++◌}
use Rattle.types.specs.declared.Identity.{Identity}
use Rattle.types.specs.declared.PoweredUp.{PoweredUp}
use Rattle.types.specs.declared.Answer.{Answer}
use Rattle.types.specs.declared.Record.{Record}
use Rattle.words.specs.Logic.{◌and◌}
use Rattle.paper.specs.Registers.{stored_bits}
use Rattle.paper.specs.Calls.{powered_up}
use Rattle.paper.specs.History.{Call, one_byte, record_after_call, answer_to_byte, record_after_calls, history, stands_aside}

-- ABh, 66h and 99h as one-byte transactions
abbrev pub wake : Bool → Call
wake wp = one_byte wp 0xAB

abbrev pub arm : Bool → Call
arm wp = one_byte wp 0x66

abbrev pub reset : Bool → Call
reset wp = one_byte wp 0x99

-- calls of which none is an executed or ignored transaction, each at the record that it is given
abbrev pub all_aside : List Call → Record → Bool
all_aside [] p = true
all_aside (c ∷ cs) p = stands_aside c p and all_aside cs (record_after_call c p)

-- ABh, the calls b, 66h
abbrev pub until_armed : Bool → Bool → List Call → List Call
until_armed w1 w2 b = wake w1 ∷ (b ++ (arm w2 ∷ []))

-- and the calls c
abbrev pub until_reset : Bool → Bool → List Call → List Call → List Call
until_reset w1 w2 b c = wake w1 ∷ (b ++ (arm w2 ∷ c))

-- and 99h
abbrev pub closing : Bool → Bool → Bool → List Call → List Call → List Call
closing w1 w2 w3 b c = wake w1 ∷ (b ++ (arm w2 ∷ (c ++ (reset w3 ∷ []))))

-- a part of n blocks and an identity, powered up with the stored register bits of the record q
abbrev pub powered_as : ℕ → Identity → Record → PoweredUp
powered_as n id q = powered_up n id (stored_bits q.part.stored)

-- what a record answers to 99h
abbrev pub answer_to_reset : Bool → Record → Answer
answer_to_reset wp q = answer_to_byte wp 0x99 q

-- after the calls that close, a part that had the record p is one of n blocks and that identity, freshly powered with its stored register bits just before 99h:
-- 99h is executed, the power-up is not refused, the records are equal, and no call but those of b and c reaches a stored byte
pub record FreshAfter (n : ℕ) (id : Identity) (w1 w2 w3 : Bool) (b c : List Call) (p : Record) : Type 0 where
  pub executed : (answer_to_reset w3 (record_after_calls (until_reset w1 w2 b c) p)).number ≡ 0
  pub unrefused : (powered_as n id (record_after_calls (until_reset w1 w2 b c) p)).number ≡ 0
  pub equal : record_after_calls (closing w1 w2 w3 b c) p ≡ (powered_as n id (record_after_calls (until_reset w1 w2 b c) p)).next
  pub reached : history (closing w1 w2 w3 b c) p ≡ history b (record_after_call (wake w1) p) ++ history c (record_after_calls (until_armed w1 w2 b) p)
