-- A right flasher: it makes such a script for every array and image.
use Rattle.std.specs.Prelude.{ℕ, zero, suc, ◌*◌, ◌/◌, ◌%◌, Bool, not, cond, List, [], ◌∷◌, ◌++◌, length, get_or, eqb}
use Rattle.words.specs.Logic.{◌and◌}
use Rattle.paper.specs.Sizes.{is_large, page_bytes}
use Rattle.paper.specs.Script.{Script}
use Rattle.acceptance.specs.Flasher.{Sending, Job, erases, programs, other, must_erase, sector_bytes, still_differs}

-- the erases, of the first q sectors
abbrev pub erase_jobs : List ℕ → List ℕ → ℕ → List Job
erase_jobs xs image zero = []
erase_jobs xs image (suc q) =
    erase_jobs xs image q ++ cond (must_erase xs image (q * sector_bytes)) (erases (q * sector_bytes) ∷ []) []

-- a byte v at the address a, before jobs: it joins a program that begins at the next address of its page
abbrev pub joined : ℕ → ℕ → List Job → List Job
joined a v [] = programs a (v ∷ []) ∷ []
joined a v (erases b ∷ js) = programs a (v ∷ []) ∷ erases b ∷ js
joined a v (programs c d ∷ js) =
    cond (eqb c (suc a) and not (eqb (c % page_bytes) 0)) (programs a (v ∷ d) ∷ js) (programs a (v ∷ []) ∷ programs c d ∷ js)
joined a v (other ∷ js) = programs a (v ∷ []) ∷ other ∷ js

-- the programs of the bytes that still differ below the address a, before jobs: a program for each run of them within a page
abbrev pub program_jobs : List ℕ → List ℕ → ℕ → List Job → List Job
program_jobs xs image zero js = js
program_jobs xs image (suc a) js =
    program_jobs xs image a (cond (still_differs xs image a) (joined a (get_or image a 0) js) js)

-- all of them
unfoldable pub jobs_for : List ℕ → List ℕ → List Job
jobs_for xs image =
    erase_jobs xs image (length image / sector_bytes) ++ program_jobs xs image (length image) []

-- so many bytes of an address, high byte first
abbrev pub address_for : ℕ → ℕ → List ℕ
address_for zero a = []
address_for (suc k) a = address_for k (a / 256) ++ (a % 256 ∷ [])

-- what a job sends to a part of n blocks: 20h and 02h with three address bytes, 21h and 12h with four to the large part. And its ticks
abbrev pub addressed : ℕ → ℕ → ℕ → ℕ → List ℕ
addressed n near far a = cond (is_large n) (far ∷ address_for 4 a) (near ∷ address_for 3 a)

abbrev pub sent_for : ℕ → Job → List ℕ
sent_for n (erases b) = addressed n 0x20 0x21 b
sent_for n (programs a d) = addressed n 0x02 0x12 a ++ d
sent_for n other = []

abbrev pub ticks_for : Job → ℕ
ticks_for (erases b) = 16
ticks_for (programs a d) = length d
ticks_for other = 0

-- the steps: 06h, and the command, for each job
abbrev pub sendings_for : ℕ → List Job → List Sending
sendings_for n [] = []
sendings_for n (j ∷ js) =
    record { sent = 0x06 ∷ []; ticks = 0 } ∷ record { sent = sent_for n j; ticks = ticks_for j } ∷ sendings_for n js

-- a script of steps
abbrev pub input_of : List Sending → List ℕ
input_of [] = []
input_of (e ∷ es) = e.sent ++ input_of es

abbrev pub lengths_of : List Sending → List ℕ
lengths_of [] = []
lengths_of (e ∷ es) = length e.sent ∷ lengths_of es

abbrev pub ticks_of : List Sending → List ℕ
ticks_of [] = []
ticks_of (e ∷ es) = e.ticks ∷ ticks_of es

abbrev pub script_for : Bool → List Sending → Script
script_for wp es = record { wp = wp; input = input_of es; lengths = lengths_of es; ticks = ticks_of es }

-- the flasher's script that makes the image of the array xs on a part of n blocks, with WP# at any level
unfoldable pub flasher_for : Bool → ℕ → List ℕ → List ℕ → Script
flasher_for wp n xs image = script_for wp (sendings_for n (jobs_for xs image))
