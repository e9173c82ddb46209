-- The flasher's right script, request 13: "A script that erases exactly the sectors where some bit must go from 0 to 1, then programs every byte that still differs, and no other, with its wanted value, within page borders, sets write enable each time, allows the ticks of 01 and does nothing more". Each clause is a test that can be computed. What a step does goes by what it begins on the part, not by its code.
use Rattle.types.specs.declared.Command.{Command}
use Rattle.std.specs.Prelude.{ℕ, zero, suc, ◌+◌, ◌*◌, ◌/◌, ◌%◌, Bool, true, false, not, cond, List, [], ◌∷◌, ◌++◌, length, get_or, eqb, leb, None, Option, Some}
use Rattle.types.specs.declared.Memory.{Memory}
use Rattle.types.specs.declared.Memory.TheVariants.{Array, Rows}
use Rattle.types.specs.declared.EraseUnit.{EraseUnit}
use Rattle.types.specs.declared.EraseUnit.TheVariants.{Sector, Block32, Block64, Chip, Row}
use Rattle.types.specs.declared.Operation.{Operation}
use Rattle.types.specs.declared.Operation.TheVariants.{Program, Erase, Write}
use Rattle.types.specs.declared.Part.{Part}
use Rattle.types.specs.declared.Record.{Record}
use Rattle.words.specs.Logic.{◌and◌, bit}
use Rattle.words.specs.Lists.{every, between, all_below}
use Rattle.paper.specs.Sizes.{page_bytes, tick_limit, down_to, from_on}
use Rattle.paper.specs.Program.{narrowed_byte}
use Rattle.paper.specs.Erase.{unit_bytes, erased_byte}
use Rattle.paper.specs.Operations.{ticks_in_all}
use Rattle.paper.specs.Protection.{whole_code, protected_blocks}
use Rattle.paper.specs.Table.{decoded, columns, length_ok}
use Rattle.paper.specs.Commands.{begun}
use Rattle.paper.specs.Script.{Script, step_at, step_length}
use Rattle.laws.specs.Writes.{data_of}

-- "an unprotected part": no block is protected
abbrev pub unprotected : Record → Bool
unprotected p = eqb (protected_blocks (whole_code p.part.stored) p.part.blocks).count 0

-- what a step sends, and its ticks
pub record Sending : Type 0 where
  pub sent : List ℕ
  pub ticks : ℕ

-- those of step k of a script, of its first k steps, and of all
abbrev pub sending_at : Script → ℕ → Sending
sending_at s k = record { sent = between (step_at s k) (step_length s k) s.input; ticks = get_or s.ticks k 0 }

abbrev pub sendings_to : Script → ℕ → List Sending
sendings_to s zero = []
sendings_to s (suc k) = sendings_to s k ++ (sending_at s k ∷ [])

abbrev pub sendings_of : Script → List Sending
sendings_of s = sendings_to s (length s.lengths)

-- what a first byte that was decoded begins on a part, with the input i; and whether the length is one that the command table asks for
abbrev pub begun_as : Option Command → Part → List ℕ → Option Operation
begun_as (Some k) p i = begun (columns k) p i
begun_as None p i = None

abbrev pub length_as : Option Command → ℕ → Bool
length_as (Some k) n = length_ok (columns k).length n
length_as None n = false

-- the command of an input, and what it begins
abbrev pub command_of : Record → List ℕ → Option Command
command_of p i = decoded p.part.blocks p.part.bank (get_or i 0 0)

abbrev pub work_of : Record → List ℕ → Option Operation
work_of p i = begun_as (command_of p i) p.part i

-- what a step is for: the erase of the sector that begins at an address, the program of data from an address on, or anything else
pub data Job : Type 0 where
  erases : ℕ → Job
  programs : ℕ → List ℕ → Job
  other : Job

abbrev pub erase_job : EraseUnit → ℕ → Job
erase_job Sector b = erases b
erase_job Block32 b = other
erase_job Block64 b = other
erase_job Chip b = other
erase_job Row b = other

abbrev pub program_job : Memory → ℕ → List ℕ → Job
program_job Array a d = programs a d
program_job Rows a d = other

-- of an operation with the data d: a program begins at its place s of the page b
abbrev pub operation_job : Operation → List ℕ → Job
operation_job (Program m s b k t) d = program_job m (b + s) d
operation_job (Erase u b t) d = erase_job u b
operation_job (Write r v) d = other

abbrev pub work_job : Option Operation → List ℕ → Job
work_job None d = other
work_job (Some o) d = operation_job o d

abbrev pub job_of : Record → List ℕ → Job
job_of p i = work_job (work_of p i) (data_of p i)

-- "sets write enable": 06h, with any ticks that a call may ask
abbrev pub sets_enable : Record → Sending → Bool
sets_enable p e =
    eqb (length e.sent) 1
    and eqb (get_or e.sent 0 0) 0x06
    and leb e.ticks (tick_limit p.part.blocks)

-- "within page borders"; and nothing else than erases and programs
abbrev pub within_page : Job → Bool
within_page (erases b) = true
within_page (programs a d) = leb (a % page_bytes + length d) page_bytes
within_page other = false

-- "allows the ticks of 01": at least the operation's, and no more than a call may ask of a part of n blocks
abbrev pub allows_ticks : Option Operation → ℕ → ℕ → Bool
allows_ticks None n t = false
allows_ticks (Some o) n t = leb (ticks_in_all o n) t and leb t (tick_limit n)

-- the command that comes then
abbrev pub right_command : Record → Sending → Bool
right_command p w =
    within_page (job_of p w.sent)
    and length_as (command_of p w.sent) (length w.sent)
    and allows_ticks (work_of p w.sent) p.part.blocks w.ticks

-- "sets write enable each time .. and does nothing more": the steps come in twos
abbrev pub in_twos : Record → List Sending → Bool
in_twos p [] = true
in_twos p (e ∷ []) = false
in_twos p (e ∷ w ∷ ss) = sets_enable p e and right_command p w and in_twos p ss

-- and what they are for
abbrev pub jobs_in : Record → List Sending → List Job
jobs_in p [] = []
jobs_in p (e ∷ []) = []
jobs_in p (e ∷ w ∷ ss) = job_of p w.sent ∷ jobs_in p ss

-- "some bit must go from 0 to 1": no program makes the wanted byte of the old one
abbrev pub must_rise : ℕ → ℕ → Bool
must_rise old wanted = not (eqb (narrowed_byte old wanted) wanted)

-- a sector's size, which is the same on every part
abbrev pub sector_bytes : ℕ
sector_bytes = unit_bytes Sector 1

-- some bit of the sector that begins at b must, so that the array xs becomes the image
abbrev pub must_erase : List ℕ → List ℕ → ℕ → Bool
must_erase xs image b =
    not (all_below sector_bytes (λ (k : ℕ). not (must_rise (get_or xs (b + k) 0) (get_or image (b + k) 0))))

-- a byte after the erases of these sectors, and whether it still differs
abbrev pub byte_left : List ℕ → List ℕ → ℕ → ℕ
byte_left xs image a = cond (must_erase xs image (down_to sector_bytes a)) erased_byte (get_or xs a 0)

abbrev pub still_differs : List ℕ → List ℕ → ℕ → Bool
still_differs xs image a = not (eqb (byte_left xs image a) (get_or image a 0))

-- a job is an erase; it erases the sector that begins at b; it programs the byte at a
abbrev pub is_erase : Job → Bool
is_erase (erases c) = true
is_erase (programs c d) = false
is_erase other = false

abbrev pub erases_at : ℕ → Job → Bool
erases_at b (erases c) = eqb c b
erases_at b (programs c d) = false
erases_at b other = false

abbrev pub programs_at : ℕ → Job → Bool
programs_at a (erases c) = false
programs_at a (programs c d) = from_on c (length d) a
programs_at a other = false

-- how many of the jobs pass a test
abbrev pub how_many : (Job → Bool) → List Job → ℕ
how_many test [] = 0
how_many test (j ∷ js) = bit (test j) + how_many test js

-- "erases .., then programs"
abbrev pub erases_first : List Job → Bool
erases_first [] = true
erases_first (j ∷ js) = cond (is_erase j) (erases_first js) (every (λ (k : Job). not (is_erase k)) js)

-- "with its wanted value"
abbrev pub as_wanted : List ℕ → Job → Bool
as_wanted image (erases b) = true
as_wanted image (programs a d) = all_below (length d) (λ (k : ℕ). eqb (get_or d k 0) (get_or image (a + k) 0))
as_wanted image other = true

-- the jobs: "exactly the sectors where some bit must go from 0 to 1", each once; "every byte that still differs, and no other", each once
unfoldable pub right_jobs : List ℕ → List ℕ → List Job → Bool
right_jobs xs image js =
    erases_first js
    and all_below (length image / sector_bytes) (λ (q : ℕ). eqb (how_many (erases_at (q * sector_bytes)) js) (bit (must_erase xs image (q * sector_bytes))))
    and all_below (length image) (λ (a : ℕ). eqb (how_many (programs_at a) js) (bit (still_differs xs image a)))
    and every (as_wanted image) js

-- the script of a right flasher, for a part with the array xs
unfoldable pub flashes : Record → List ℕ → List ℕ → Script → Bool
flashes p xs image s = in_twos p (sendings_of s) and right_jobs xs image (jobs_in p (sendings_of s))
