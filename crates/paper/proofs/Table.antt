-- The lists of codes that the paper prints, read off the command table; and what each row of it keeps to.
use Rattle.std.specs.Prelude.{None, Option, Some}
use Prim.Native.Nat.{ℕ}
use mathlib.Core.Path.{◌≡◌, refl, sym, ap, ◌∙◌}
use mathlib.Core.List.{List, [], ◌∷◌, ◌++◌}
use mathlib.Core.Bool.{Bool, true, false, not, cond, false≢true}
use lib.Dec.{eqb}
use borrow.Author.Tests.{not-true}
use Rattle.types.specs.declared.Addressing.{Addressing}
use Rattle.types.specs.declared.Columns.{Columns}
use Rattle.types.specs.declared.Command.{Command}
use Rattle.types.specs.declared.Command.TheVariants.{Read}
use Rattle.types.specs.declared.Effect.{Effect}
use Rattle.types.specs.declared.Effect.TheVariants.{Looks, Enables, Disables, Programs, Erases, Writes, Suspends, Resumes, Sleeps, Wakes, Arms, Resets, SetsLive, ClearsErrors, SetsBank, SetsFar}
use Rattle.types.specs.declared.Wanted.{Wanted}
use Rattle.types.specs.declared.Wanted.TheVariants.{Any, Running, Halted, Armed}
use Rattle.types.specs.declared.Phase.{Phase}
use Rattle.types.specs.declared.Part.{Part}
use Rattle.words.specs.Logic.{◌and◌, ◌or◌}
use Rattle.words.specs.Lists.{every}
use Rattle.words.proofs.Tests.{and_l, and_r}
use Rattle.words.proofs.Lists.{every_both}
use Rattle.paper.specs.Sizes.{is_large}
use Rattle.paper.specs.Registers.{extadd}
use Rattle.paper.specs.Table.{Entry, codes, large_codes, far_codes, codes_on, look_up, decoded, columns, taken_asleep, taken_busy, taken_suspended, is_read}
use Rattle.paper.specs.Phases.{work_is, any_operation}
use Rattle.paper.specs.Commands.{begins, errors_of}
use Rattle.paper.specs.Numbers.{state_ok}

-- the codes of the entries whose columns pass a test
abbrev pub codes_of : (Columns → Bool) → List Entry → List ℕ
codes_of test [] = []
codes_of test (e ∷ es) =
    cond (test (columns e.command)) (e.code ∷ codes_of test es) (codes_of test es)

-- the reads are 03h, 0Bh, 05h, 48h, 9Fh, 90h, ABh, 68h and 81h
pub reads : codes_of is_read codes ≡ 0x03 ∷ 0x0B ∷ 0x05 ∷ 0x48 ∷ 0x9F ∷ 0x90 ∷ 0xAB ∷ 0x68 ∷ 0x81 ∷ []
reads = refl

-- 21: asleep, code not ABh
pub taken_asleep_lem : codes_of (λ (k : Columns). taken_asleep k.taken) codes ≡ 0xAB ∷ []
taken_asleep_lem = refl

-- 22: busy, code not 05h, 48h, 75h, B0h, 66h, 99h, 81h
pub taken_busy_lem : codes_of (λ (k : Columns). taken_busy k.taken) codes ≡ 0x05 ∷ 0x48 ∷ 0x75 ∷ 0xB0 ∷ 0x66 ∷ 0x99 ∷ 0x81 ∷ []
taken_busy_lem = refl

-- 23: suspended, code not a read, 7Ah, 30h, 66h, 99h
pub taken_suspended_lem : codes_of (λ (k : Columns). taken_suspended k.taken false) codes ≡ 0x03 ∷ 0x0B ∷ 0x05 ∷ 0x48 ∷ 0x9F ∷ 0x90 ∷ 0xAB ∷ 0x68 ∷ 0x7A ∷ 0x30 ∷ 0x66 ∷ 0x99 ∷ 0x81 ∷ []
taken_suspended_lem = refl

-- and during erase suspend not 06h, 04h and 02h
pub taken_erase_suspended : codes_of (λ (k : Columns). taken_suspended k.taken true) codes ≡ 0x03 ∷ 0x0B ∷ 0x05 ∷ 0x48 ∷ 0x9F ∷ 0x90 ∷ 0xAB ∷ 0x68 ∷ 0x06 ∷ 0x04 ∷ 0x02 ∷ 0x7A ∷ 0x30 ∷ 0x66 ∷ 0x99 ∷ 0x81 ∷ []
taken_erase_suspended = refl

-- the codes that need WEL
pub needs_wel : codes_of (λ (k : Columns). k.wel) codes ≡ 0x01 ∷ 0x42 ∷ 0x02 ∷ 0xD7 ∷ 0x20 ∷ 0x52 ∷ 0xD8 ∷ 0xC7 ∷ 0x60 ∷ 0x64 ∷ 0x62 ∷ 0x85 ∷ []
needs_wel = refl

-- Of the large part: the reads are 13h, 0Ch, 16h and C8h, none is taken asleep or busy, the reads alone are while suspended, from an erase or from a program, and those of an erase or a program need WEL
pub large_reads : codes_of is_read large_codes ≡ 0x13 ∷ 0x0C ∷ 0x16 ∷ 0xC8 ∷ []
large_reads = refl

pub large_taken_asleep : codes_of (λ (k : Columns). taken_asleep k.taken) large_codes ≡ []
large_taken_asleep = refl

pub large_taken_busy : codes_of (λ (k : Columns). taken_busy k.taken) large_codes ≡ []
large_taken_busy = refl

pub large_taken_suspended : (erase : Bool) → codes_of (λ (k : Columns). taken_suspended k.taken erase) large_codes ≡ 0x13 ∷ 0x0C ∷ 0x16 ∷ 0xC8 ∷ []
large_taken_suspended true = refl
large_taken_suspended false = refl

pub large_needs_wel : codes_of (λ (k : Columns). k.wel) large_codes ≡ 0x12 ∷ 0x21 ∷ 0x5C ∷ 0xDC ∷ []
large_needs_wel = refl

-- the codes of table 8.3 are taken with four address bytes when they are with three, and need WEL so
pub far_taken_suspended : codes_of (λ (k : Columns). taken_suspended k.taken false) far_codes ≡ 0x03 ∷ 0x0B ∷ []
far_taken_suspended = refl

pub far_taken_erase_suspended : codes_of (λ (k : Columns). taken_suspended k.taken true) far_codes ≡ 0x03 ∷ 0x0B ∷ 0x02 ∷ []
far_taken_erase_suspended = refl

pub far_needs_wel : codes_of (λ (k : Columns). k.wel) far_codes ≡ 0x02 ∷ 0xD7 ∷ 0x20 ∷ 0x52 ∷ 0xD8 ∷ []
far_needs_wel = refl

-- a command that is looked up passes a test that those of all entries do
abbrev passes : (Command → Bool) → List Entry → Bool
passes test es = every (λ (e : Entry). test e.command) es

abbrev is_known : Option Command → Bool
is_known (Some k) = true
is_known None = false

abbrev command_in : Option Command → Command
command_in (Some k) = k
command_in None = Read

found_as : (test : Command → Bool) (x k : Command) (rest : Option Command) (t : Bool)
    → test x ≡ true → (rest ≡ Some k → test k ≡ true) → cond t (Some x) rest ≡ Some k → test k ≡ true
found_as test x k rest true h r e = ap test (sym (ap command_in e)) ∙ h
found_as test x k rest false h r e = r e

found : (test : Command → Bool) (es : List Entry) (c : ℕ) (k : Command) → passes test es ≡ true → look_up es c ≡ Some k → test k ≡ true
found test [] c k h e = absurd (false≢true (ap is_known e))
found test (x ∷ xs) c k h e =
    found_as test x.command k (look_up xs c) (eqb c x.code) (and_l _ _ h) (found test xs c k (and_r _ _ h)) e

passes_asked : (test : Command → Bool) (t : Bool) (es : List Entry) → passes test es ≡ true → passes test (cond t es []) ≡ true
passes_asked test true es h = h
passes_asked test false es h = refl

-- so does every command that a part knows, if every entry of the three lists of codes does
pub of_decoded : (test : Command → Bool) → passes test far_codes ≡ true → passes test codes ≡ true → passes test large_codes ≡ true → (n bank c : ℕ) (k : Command) → decoded n bank c ≡ Some k → test k ≡ true
unfolding decoded
of_decoded test f h l n bank c k e =
    found test (codes_on n bank) c k (every_both (λ (x : Entry). test x.command) (cond (extadd bank) far_codes []) (codes ++ cond (is_large n) large_codes []) (passes_asked test (extadd bank) far_codes f) (every_both (λ (x : Entry). test x.command) codes (cond (is_large n) large_codes []) h (passes_asked test (is_large n) large_codes l))) e

-- What a code is, from what each of the three lists of codes has at it: what a list has, where the test lets it be asked, or else what comes after it
abbrev on : Bool → Option Command → Option Command → Option Command
on t (Some k) d = cond t (Some k) d
on t None d = d

on_unasked : (a d : Option Command) → d ≡ on false a d
on_unasked (Some k) d = refl
on_unasked None d = refl

on_last : (a : Option Command) → a ≡ on true a None
on_last (Some k) = refl
on_last None = refl

on_more : (t : Bool) (k : Command) (a d e : Option Command) → e ≡ on true a d → cond t (Some k) e ≡ on true (cond t (Some k) a) d
on_more true k a d e h = refl
on_more false k a d e h = h

joined : (es fs : List Entry) (c : ℕ) → look_up (es ++ fs) c ≡ on true (look_up es c) (look_up fs c)
joined [] fs c = refl
joined (e ∷ es) fs c =
    on_more (eqb c e.code) e.command (look_up es c) (look_up fs c) (look_up (es ++ fs) c) (joined es fs c)

before : (t : Bool) (es fs : List Entry) (c : ℕ) → look_up (cond t es [] ++ fs) c ≡ on t (look_up es c) (look_up fs c)
before true es fs c = joined es fs c
before false es fs c = on_unasked (look_up es c) (look_up fs c)

last : (t : Bool) (es : List Entry) (c : ℕ) → look_up (cond t es []) c ≡ on t (look_up es c) None
last true es c = on_last (look_up es c)
last false es c = on_unasked (look_up es c) None

-- by the tests for EXTADD and for the large part; at a known code it computes to an answer by these
abbrev pub answer : Bool → Bool → ℕ → Option Command
answer far large c = on far (look_up far_codes c) (on true (look_up codes c) (on large (look_up large_codes c) None))

pub answered : (n bank c : ℕ) → decoded n bank c ≡ answer (extadd bank) (is_large n) c
unfolding decoded
answered n bank c =
    before (extadd bank) far_codes (codes ++ cond (is_large n) large_codes []) c
    ∙ ap (on (extadd bank) (look_up far_codes c)) (joined codes (cond (is_large n) large_codes []) c ∙ ap (on true (look_up codes c)) (last (is_large n) large_codes c))

-- a code is one command on every part, under every bank register
abbrev pub Always : ℕ → Command → Type 0
Always c k = (n bank : ℕ) → decoded n bank c ≡ Some k

-- so is each of the command table that table 8.3 does not list
pub known : (c : ℕ) (k : Command) → look_up far_codes c ≡ None → look_up codes c ≡ Some k → Always c k
known c k f e n bank = answered n bank c ∙ rw (f, e)

-- what writes the bank register
abbrev pub sets_bank : Effect → Bool
sets_bank Looks = false
sets_bank Enables = false
sets_bank Disables = false
sets_bank (Programs m) = false
sets_bank (Erases u) = false
sets_bank (Writes r) = false
sets_bank Suspends = false
sets_bank Resumes = false
sets_bank Sleeps = false
sets_bank Wakes = false
sets_bank Arms = false
sets_bank Resets = false
sets_bank SetsLive = false
sets_bank ClearsErrors = false
sets_bank SetsBank = true
sets_bank (SetsFar far) = true

-- is a command of the large part alone
abbrev spares_bank : Command → Bool
spares_bank k = not (sets_bank (columns k).effect)

spares_all : (far : Bool) → passes spares_bank (cond far far_codes [] ++ (codes ++ [])) ≡ true
unfolding ◌and◌
spares_all far = every_both (λ (x : Entry). spares_bank x.command) (cond far far_codes []) (codes ++ []) (passes_asked spares_bank far far_codes refl) refl

bank_large_as : (n bank c : ℕ) (k : Command) (t : Bool) → is_large n ≡ t
    → look_up (cond (extadd bank) far_codes [] ++ (codes ++ cond t large_codes [])) c ≡ Some k → sets_bank (columns k).effect ≡ true → is_large n ≡ true
bank_large_as n bank c k true l e h = l
bank_large_as n bank c k false l e h =
    absurd (false≢true (sym (ap not h) ∙ found spares_bank (cond (extadd bank) far_codes [] ++ (codes ++ [])) c k (spares_all (extadd bank)) e))

pub bank_large : (n bank c : ℕ) (k : Command) → decoded n bank c ≡ Some k → sets_bank (columns k).effect ≡ true → is_large n ≡ true
unfolding decoded
bank_large n bank c k e h = bank_large_as n bank c k (is_large n) refl e h

-- what a read does: it looks, or wakes
abbrev looks : Effect → Bool
looks Looks = true
looks Enables = false
looks Disables = false
looks (Programs m) = false
looks (Erases u) = false
looks (Writes r) = false
looks Suspends = false
looks Resumes = false
looks Sleeps = false
looks Wakes = true
looks Arms = false
looks Resets = false
looks SetsLive = false
looks ClearsErrors = false
looks SetsBank = false
looks (SetsFar far) = false

abbrev read_looks : Command → Bool
read_looks k = not (is_read (columns k)) or looks (columns k).effect

look_or_wake : (Q : Effect → Type 0) → Q Looks → Q Wakes → (e : Effect) → looks e ≡ true → Q e
look_or_wake Q l w Looks h = l
look_or_wake Q l w Enables h = absurd (false≢true h)
look_or_wake Q l w Disables h = absurd (false≢true h)
look_or_wake Q l w (Programs m) h = absurd (false≢true h)
look_or_wake Q l w (Erases u) h = absurd (false≢true h)
look_or_wake Q l w (Writes r) h = absurd (false≢true h)
look_or_wake Q l w Suspends h = absurd (false≢true h)
look_or_wake Q l w Resumes h = absurd (false≢true h)
look_or_wake Q l w Sleeps h = absurd (false≢true h)
look_or_wake Q l w Wakes h = w
look_or_wake Q l w Arms h = absurd (false≢true h)
look_or_wake Q l w Resets h = absurd (false≢true h)
look_or_wake Q l w SetsLive h = absurd (false≢true h)
look_or_wake Q l w ClearsErrors h = absurd (false≢true h)
look_or_wake Q l w SetsBank h = absurd (false≢true h)
look_or_wake Q l w (SetsFar far) h = absurd (false≢true h)

-- what holds of both, holds of what every read does
pub of_reads : (Q : Effect → Type 0) → Q Looks → Q Wakes → (n bank c : ℕ) (k : Command) → decoded n bank c ≡ Some k → is_read (columns k) ≡ true → Q (columns k).effect
unfolding ◌and◌ ◌or◌
of_reads Q l w n bank c k e h =
    look_or_wake Q l w (columns k).effect (rw h at (of_decoded read_looks refl refl refl n bank c k e))

-- what sets error bits, a program or an erase, wants nothing of the state
abbrev is_any : Wanted → Bool
is_any Any = true
is_any Running = false
is_any Halted = false
is_any Armed = false

abbrev wants_nothing : Command → Bool
wants_nothing k = eqb (errors_of (columns k).effect) 0 or is_any (columns k).wanted

any_state : (w : Wanted) (p : Part) (f : Phase) → is_any w ≡ true → state_ok w p f ≡ true
any_state Any p f h = refl
any_state Running p f h = absurd (false≢true h)
any_state Halted p f h = absurd (false≢true h)
any_state Armed p f h = absurd (false≢true h)

pub write_state : (n bank c : ℕ) (k : Command) (p : Part) (f : Phase) → decoded n bank c ≡ Some k → eqb (errors_of (columns k).effect) 0 ≡ false → state_ok (columns k).wanted p f ≡ true
unfolding ◌and◌ ◌or◌
write_state n bank c k p f e h =
    any_state (columns k).wanted p f (rw h at (of_decoded wants_nothing refl refl refl n bank c k e))

-- and needs WEL
abbrev needs_latch : Command → Bool
needs_latch k = eqb (errors_of (columns k).effect) 0 or (columns k).wel

pub write_latch : (n bank c : ℕ) (k : Command) → decoded n bank c ≡ Some k → eqb (errors_of (columns k).effect) 0 ≡ false → (columns k).wel ≡ true
unfolding ◌and◌ ◌or◌
write_latch n bank c k e h = rw h at (of_decoded needs_latch refl refl refl n bank c k e)

-- what begins something is not taken while the part is busy
abbrev waits_to_begin : Addressing → ℕ → List ℕ → Command → Bool
waits_to_begin g n i k = not (work_is any_operation (begins (columns k).effect g n i)) or not (taken_busy (columns k).taken)

pub begins_at_rest : (n bank c : ℕ) (k : Command) (g : Addressing) (i : List ℕ) → decoded n bank c ≡ Some k → work_is any_operation (begins (columns k).effect g n i) ≡ true → taken_busy (columns k).taken ≡ false
unfolding ◌and◌ ◌or◌
begins_at_rest n bank c k g i e h =
    not-true _ (rw h at (of_decoded (waits_to_begin g n i) refl refl refl n bank c k e))
