-- What a C program does with a part: chained calls, each lent the record's bytes, the array and the rows as the last one left them. A kind of call is a constructor of CCall, and a clause each of `gives`, `call_of`, `heard_of`, `told_by`, `InMemory` and `is_plain`.
use Rattle.std.specs.Prelude.{ℕ, zero, suc, ◌/◌, ◌%◌, ◌^◌, ◌<◌, ◌≡◌, Bool, true, false, cond, List, [], ◌∷◌, ◌++◌, eqb, leb, length, get_or}
use Rattle.types.specs.declared.Memory.TheVariants.{Array, Rows}
use Rattle.types.specs.declared.Record.{Record}
use Rattle.words.specs.Logic.{◌and◌}
use Rattle.paper.specs.Sizes.{array_bytes, rows_bytes}
use Rattle.paper.specs.Soundness.{sound}
use Rattle.paper.specs.History.{Call, transaction, ticks, record_after_calls}
use Rattle.paper.specs.Script.{Scripted, script_calls}
use Rattle.paper.specs.Check.{Checked, check_calls}
use Rattle.paper.specs.Map.{MapTicked, MapScripted, map_tick_calls, map_script_calls}
use Rattle.history.specs.Course.{Step, sent, waited, course_of}
use Rattle.record_bytes.specs.Read.{record_in}
use Rattle.ticks.specs.InBytes.{tick_bytes, tick_memory}
use Rattle.yawlspar.specs.Face.{packed, transact_answer, transact_bytes, transact_output, tick_answer}
use Rattle.yawlspar_script.specs.Face.{script_answer, check_answer}
use Rattle.yawlspar_map.specs.Face.{map_tick_answer}
use Rattle.script.specs.InBytes.{script_of, held_script, script_bytes}
use Rattle.checker.specs.InBytes.{held_check}
use Rattle.beside.specs.Beside.{board_bytes}
use Rattle.mapped.specs.InBytes.{held_map_ticked, held_map_scripted}

-- what every call is lent: the record's bytes, the array and the rows
pub record Lent : Type 0 where
  pub bytes : List ℕ
  pub array : List ℕ
  pub rows : List ℕ

abbrev pub lent : List ℕ → List ℕ → List ℕ → Lent
lent bs xs rs = record { bytes = bs; array = xs; rows = rs }

-- a call from C: a transaction with the number that stands for the level of WP#, its input, and its output buffer as it is lent; so many ticks;
-- a script with that number, its input, its lengths and its tick counts, and as they are lent its output buffer and the lists for the answers and the ticks done; a check of such a script, with an image;
-- or ticks, or such a script, with a map of blank pages as it is lent
pub data CCall : Type 0 where
  transact : ℕ → List ℕ → List ℕ → CCall
  tick : ℕ → CCall
  script : ℕ → List ℕ → List ℕ → List ℕ → List ℕ → List ℕ → List ℕ → CCall
  check : ℕ → List ℕ → List ℕ → List ℕ → List ℕ → List ℕ → List ℕ → List ℕ → CCall
  tick_map : ℕ → List ℕ → CCall
  script_map : ℕ → List ℕ → List ℕ → List ℕ → List ℕ → List ℕ → List ℕ → List ℕ → CCall

-- what a call gives to C: its answer, the buffers that are its own, in their order, and what every call is lent, all as it leaves them
pub record Given : Type 0 where
  pub answer : ℕ
  pub buffers : List (List ℕ)
  pub left : Lent

-- what a script that comes to w leaves, and its answer with that
abbrev pub script_gives : Lent → ℕ → Scripted → Given
script_gives l answer w =
    record { answer = answer; buffers = w.output ∷ w.answers ∷ w.done ∷ []; left = lent (script_bytes (record_in l.bytes) w l.bytes) w.board.array w.board.rows }

-- what a check of it gives
abbrev pub check_gives : Lent → Checked → Given
check_gives l c = script_gives l (check_answer c.verdict) c.run

-- what ticks with a map give, and a script with one
abbrev pub map_tick_gives : Lent → MapTicked → Given
map_tick_gives l w =
    record { answer = map_tick_answer w; buffers = w.map ∷ []; left = lent (board_bytes (record_in l.bytes) w.board l.bytes) w.board.array w.board.rows }

abbrev pub map_script_gives : Lent → MapScripted → Given
map_script_gives l w =
    record { answer = script_answer w.run; buffers = w.run.output ∷ w.run.answers ∷ w.run.done ∷ w.map ∷ []; left = lent (board_bytes (record_in l.bytes) w.run.board l.bytes) w.run.board.array w.run.board.rows }

-- what a call's contract allows it to give
abbrev pub gives : CCall → Lent → Given
gives (transact wp i o) l =
    record { answer = transact_answer (record_in l.bytes) (length l.array) (length l.rows) wp i (length o); buffers = transact_output (record_in l.bytes) l.array l.rows wp i o ∷ []; left = lent (transact_bytes (record_in l.bytes) (length l.array) (length l.rows) wp i (length o) l.bytes) l.array l.rows }
gives (tick n) l =
    record { answer = tick_answer (record_in l.bytes) (length l.array) (length l.rows) n; buffers = []; left = lent (tick_bytes (record_in l.bytes) (length l.array) (length l.rows) n l.bytes) (tick_memory Array (record_in l.bytes) (length l.array) (length l.rows) n l.array) (tick_memory Rows (record_in l.bytes) (length l.array) (length l.rows) n l.rows) }
gives (script wp i ls ts o n d) l =
    let w = held_script (record_in l.bytes) wp (script_of wp i ls ts) l.array l.rows o n d in
    script_gives l (script_answer w) w
gives (check wp i ls ts o n d image) l = check_gives l (held_check (record_in l.bytes) wp (script_of wp i ls ts) l.array l.rows o n d image)
gives (tick_map n k) l = map_tick_gives l (held_map_ticked (record_in l.bytes) l.array l.rows n k)
gives (script_map wp i ls ts o n d k) l = map_script_gives l (held_map_scripted (record_in l.bytes) wp (script_of wp i ls ts) l.array l.rows o n d k)

-- the calls that it stands for, on a part with the record p: WP# is low for 0 and high for 1; another number is no level, and the part does not see the call
abbrev pub call_of : CCall → Record → List Call
call_of (transact wp i o) p = cond (leb wp 1) (transaction (eqb wp 1) i (length o) ∷ []) []
call_of (tick n) p = ticks n ∷ []
call_of (script wp i ls ts o n d) p = script_calls (sound p and leb wp 1) (script_of wp i ls ts) p (length o) (length n) (length d)
call_of (check wp i ls ts o n d image) p = check_calls (sound p and leb wp 1) (script_of wp i ls ts) p (length o) (length n) (length d) (length image)
call_of (tick_map n k) p = map_tick_calls p n (length k)
call_of (script_map wp i ls ts o n d k) p = map_script_calls (sound p and leb wp 1) (script_of wp i ls ts) p (length o) (length n) (length d) (length k)

-- what C hears of the first k steps of a script, by its lists n and d, where all of them were made whole: of each its answer, and its ticks done with the number 0
abbrev pub heard_whole : ℕ → List ℕ → List ℕ → List ℕ
heard_whole zero n d = []
heard_whole (suc k) n d = heard_whole k n d ++ (get_or n k 0 ∷ packed 0 (get_or d k 0) ∷ [])

-- and of the entries of the step that a number stopped: by 3 its answer alone, by 6 its ticks done too; any other number refused the script before its first step
abbrev pub heard_stop : ℕ → ℕ → ℕ → List ℕ
heard_stop number answer done =
    cond (eqb number 3) (answer ∷ []) (cond (eqb number 6) (answer ∷ packed 6 done ∷ []) [])

-- of a script with that number and that step
abbrev pub heard_steps : ℕ → ℕ → List ℕ → List ℕ → List ℕ
heard_steps number k n d = heard_whole k n d ++ heard_stop number (get_or n k 0) (get_or d k 0)

-- what C hears of the answers of these calls; of a script by number and step, which its answer holds, and by its two lists; of a check nothing, since its answer is what it says of them all; of ticks that 36 refused nothing, since they are no call on the part
abbrev pub heard_of : CCall → Given → List ℕ
heard_of (transact wp i o) g = cond (leb wp 1) (g.answer ∷ []) []
heard_of (tick n) g = g.answer ∷ []
heard_of (script wp i ls ts o n d) g = heard_steps (g.answer % 256) (g.answer / 256) (get_or g.buffers 1 []) (get_or g.buffers 2 [])
heard_of (check wp i ls ts o n d image) g = []
heard_of (tick_map n k) g = cond (eqb g.answer 36) [] (g.answer ∷ [])
heard_of (script_map wp i ls ts o n d k) g = heard_steps (g.answer % 256) (g.answer / 256) (get_or g.buffers 1 []) (get_or g.buffers 2 [])

-- the calls that calls from C stand for, from the record p on
abbrev pub calls_of : List CCall → Record → List Call
calls_of [] p = []
calls_of (c ∷ cs) p = call_of c p ++ calls_of cs (record_after_calls (call_of c p) p)

-- what is lent before, the calls from C, and what is lent after. Each call gives what its contract allows
pub data Driven : Lent → List CCall → Lent → Type 0 where
  ended : {l : Lent} → Driven l [] l
  calls : {l m : Lent} {c : CCall} {cs : List CCall} (g : Given) → g ≡ gives c l → Driven g.left cs m → Driven l (c ∷ cs) m

-- what C hears of all of them
abbrev pub heard : {l m : Lent} {cs : List CCall} → Driven l cs m → List ℕ
heard ended = []
heard (calls {c = c} g e rest) = heard_of c g ++ heard rest

-- what the steps of a part's course answer to C
abbrev pub packed_steps : List Step → List ℕ
packed_steps [] = []
packed_steps (sent a ∷ ss) = packed a.number a.first ∷ packed_steps ss
packed_steps (waited t us ∷ ss) = packed t.number t.done ∷ packed_steps ss

-- and what they answer within a script, which does not tell where a transaction is first driven
abbrev pub script_steps : List Step → List ℕ
script_steps [] = []
script_steps (sent a ∷ ss) = a.number ∷ script_steps ss
script_steps (waited t us ∷ ss) = packed t.number t.done ∷ script_steps ss

-- what a call from C tells of the course of the calls that it stands for
abbrev pub told_by : CCall → List Step → List ℕ
told_by (transact wp i o) ss = packed_steps ss
told_by (tick n) ss = packed_steps ss
told_by (script wp i ls ts o n d) ss = script_steps ss
told_by (check wp i ls ts o n d image) ss = []
told_by (tick_map n k) ss = packed_steps ss
told_by (script_map wp i ls ts o n d k) ss = script_steps ss

-- the course of calls on a part with its own memory
abbrev pub own_course : List Call → Record → List Step
own_course cs p = course_of cs p (array_bytes p.part.blocks) rows_bytes

-- what calls from C tell of the part's course, from the record p on
abbrev pub told_of : List CCall → Record → List ℕ
told_of [] p = []
told_of (c ∷ cs) p = told_by c (own_course (call_of c p) p) ++ told_of cs (record_after_calls (call_of c p) p)

-- a script has fewer than 2 ^ 56 steps, so that its answer holds its step: a memory holds no list of so many
abbrev pub InMemory : CCall → Type 0
InMemory (transact wp i o) = Unit {0}
InMemory (tick n) = Unit {0}
InMemory (script wp i ls ts o n d) = length ls < 2 ^ 56
InMemory (check wp i ls ts o n d image) = Unit {0}
InMemory (tick_map n k) = Unit {0}
InMemory (script_map wp i ls ts o n d k) = length ls < 2 ^ 56

abbrev pub AllInMemory : List CCall → Type 0
AllInMemory [] = Unit {0}
AllInMemory (c ∷ cs) = InMemory c × AllInMemory cs

-- a call that is no script, with a map or without, and no check
abbrev pub is_plain : CCall → Bool
is_plain (transact wp i o) = true
is_plain (tick n) = true
is_plain (script wp i ls ts o n d) = false
is_plain (check wp i ls ts o n d image) = false
is_plain (tick_map n k) = true
is_plain (script_map wp i ls ts o n d k) = false

-- ABh, then the calls b, 66h, the calls c and 99h, as one-byte transactions with the levels l1, l2 and l3, into buffers that hold x, y and z
abbrev pub until_from_c : ℕ → ℕ → ℕ → ℕ → List CCall → List CCall → List CCall
until_from_c l1 l2 x y b c = transact l1 (0xAB ∷ []) (x ∷ []) ∷ (b ++ (transact l2 (0x66 ∷ []) (y ∷ []) ∷ c))

abbrev pub closing_from_c : ℕ → ℕ → ℕ → ℕ → ℕ → ℕ → List CCall → List CCall → List CCall
closing_from_c l1 l2 l3 x y z b c = until_from_c l1 l2 x y b (c ++ (transact l3 (0x99 ∷ []) (z ∷ []) ∷ []))
