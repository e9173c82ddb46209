-- The cases worked on paper, 1 to 11, as one statement. From 4 on a case is a statement on a part, its input and its array: `Cases` has it for the part of 16 blocks that power-up and 06h give, `Everywhere` for every sound part of a size that 01 lists, and every array.
use Prim.Native.Nat.{ℕ, ◌+◌, ◌*◌, ◌<◌, ◌≤◌}
use mathlib.Core.Path.{◌≡◌}
use mathlib.Core.Bool.{true, false}
use mathlib.Core.List.{List, [], ◌∷◌, ◌++◌}
use lib.ListN.{length, get_or, take, drop, set, replicate}
use lib.Bits.{bit_and}
use Rattle.types.specs.declared.Memory.TheVariants.{Array}
use Rattle.types.specs.declared.Addressing.TheVariants.{Three}
use Rattle.types.specs.declared.Phase.TheVariants.{Idle}
use Rattle.types.specs.declared.Identity.{Identity}
use Rattle.types.specs.declared.Answer.{Answer}
use Rattle.types.specs.declared.Ticked.{Ticked}
use Rattle.types.specs.declared.Stored.{Stored}
use Rattle.types.specs.declared.Record.{Record}
use Rattle.paper.specs.Sizes.{is_large, array_bytes, rows_bytes, page_bytes}
use Rattle.paper.specs.Address.{address_in}
use Rattle.paper.specs.Protection.{code_of, protected_at, locked}
use Rattle.paper.specs.Records.{fresh}
use Rattle.paper.specs.Soundness.{sound}
use Rattle.paper.specs.Registers.{with_bytes}
use Rattle.paper.specs.History.{transaction, ticks, one_byte}
use Rattle.paper.specs.Board.{board_of, after_calls}
use Rattle.paper.specs.Calls.{no_stored, powered_up, transacted, ticked, ticked_memory}

-- a transaction with the part's own memory and WP# high
abbrev pub send : Record → List ℕ → Answer
send p i = transacted p (array_bytes p.part.blocks) rows_bytes true i (length i)

-- a tick call with the part's own memory
abbrev pub tick : Record → ℕ → Ticked
tick p n = ticked p (array_bytes p.part.blocks) rows_bytes n

-- the array after a tick call
abbrev pub array_ticked : Record → ℕ → List ℕ → List ℕ
array_ticked p n xs = ticked_memory Array p (length xs) rows_bytes n xs

-- a sound part of one of 01's sizes, which are all but the large one, idle and awake
pub record Ready (p : Record) : Type 0 where
  pub is_sound : sound p ≡ true
  pub listed : is_large p.part.blocks ≡ false
  pub idle : p.phase ≡ Idle
  pub awake : p.part.asleep ≡ false

-- registers with the BP code c and the IRL bits k, all else zero
abbrev pub coded : ℕ → ℕ → Stored
coded c k = with_bytes (c * 4) (k * 16) no_stored

-- the part of 16 blocks that power-up gives for these, and the one that it is after 06h, with WEL 1
abbrev pub powered : Identity → ℕ → ℕ → Record
powered id c k = (powered_up 16 id (coded c k)).next

abbrev pub enabled_part : Identity → ℕ → ℕ → Record
enabled_part id c k = (send (powered id c k) (0x06 ∷ [])).next

-- such a power-up is not refused, and gives a ready part; 06h is executed, and gives one with WEL 1
pub record Part16 (id : Identity) (c k : ℕ) : Type 0 where
  pub up : (powered_up 16 id (coded c k)).number ≡ 0
  pub ready : Ready (powered id c k)
  pub enables : (send (powered id c k) (0x06 ∷ [])).number ≡ 0
  pub enabled_ready : Ready (enabled_part id c k)
  pub size : (enabled_part id c k).part.blocks ≡ 16
  pub wel : (enabled_part id c k).part.wel ≡ true
  pub code : code_of (enabled_part id c k).part.stored.status ≡ c
  pub locks : (enabled_part id c k).part.stored.function ≡ k * 16

-- so many bytes, each of them b
unfoldable pub filled : ℕ → ℕ → List ℕ
filled n b = replicate n b

-- the address a is protected under the code c on n blocks, or free
abbrev pub Protected : ℕ → ℕ → ℕ → Type 0
Protected c n a = protected_at c n a ≡ true

abbrev pub Free : ℕ → ℕ → ℕ → Type 0
Free c n a = protected_at c n a ≡ false

-- data that a program can send
abbrev pub Sendable : List ℕ → Type 0
Sendable d = (1 ≤ length d) × (length d ≤ 4092)

-- c = 4: 07FFFFh free, 080000h protected
abbrev pub Case1 : Type 0
Case1 = Free 4 16 0x07FFFF × Protected 4 16 0x080000

-- c = 11: 07FFFFh protected, 080000h free
abbrev pub Case2 : Type 0
Case2 = Protected 11 16 0x07FFFF × Free 11 16 0x080000

-- N = 4, c = 12: all four blocks protected
abbrev pub Case3 : Type 0
Case3 = (a : ℕ) → a < array_bytes 4 → Protected 12 4 a

-- c = 15, WEL 1, idle: 02h executed, at any address h m l; C7h in its stead answers 28
abbrev pub Case4 : Record → List ℕ → Type 0
Case4 p d =
    (h m l : ℕ) → ((send p (0x02 ∷ h ∷ m ∷ l ∷ d)).number ≡ 0) × ((send p (0xC7 ∷ [])).number ≡ 28)

-- PP at 0000FEh of 01 02 03 on FFh bytes: FEh=01, FFh=02, 00h=03, 3 ticks
abbrev pub Case5 : Record → List ℕ → Type 0
Case5 p xs =
    let t = send p (0x02 ∷ 0x00 ∷ 0x00 ∷ 0xFE ∷ 0x01 ∷ 0x02 ∷ 0x03 ∷ []) in
    (t.number ≡ 0)
    × (array_ticked t.next 3 xs ≡ set (set (set xs 0x0000FE 0x01) 0x0000FF 0x02) 0x000000 0x03)
    × ((tick t.next 3).next.phase ≡ Idle)
    × ((tick t.next 4).done ≡ 3)

-- 258 data bytes at offset 0: tick 1 writes the third byte sent at offset 2
abbrev pub Case6 : Record → ℕ → ℕ → List ℕ → List ℕ → Type 0
Case6 p h m d xs =
    let i : List ℕ = 0x02 ∷ h ∷ m ∷ 0x00 ∷ d in
    let a = address_in (Three false) p.part.blocks i in
    ((send p i).number ≡ 0) × (array_ticked (send p i).next 1 xs ≡ set xs (a + 2) (bit_and (get_or xs (a + 2) 0) (get_or d 2 0)))

-- A5h programmed over 5Ah gives 00h
abbrev pub Case7 : Record → ℕ → ℕ → ℕ → List ℕ → Type 0
Case7 p h m l xs =
    let i : List ℕ = 0x02 ∷ h ∷ m ∷ l ∷ 0xA5 ∷ [] in
    ((send p i).number ≡ 0) × (array_ticked (send p i).next 1 xs ≡ set xs (address_in (Three false) p.part.blocks i) 0x00)

-- 06h sent as two bytes: 24
abbrev pub Case8 : Record → ℕ → Type 0
Case8 p b = (send p (0x06 ∷ b ∷ [])).number ≡ 24

-- 66h, 05h, 99h: 0, 0, 25
abbrev pub Case9 : Record → Type 0
Case9 p =
    let a = send p (0x66 ∷ []) in
    let b = send a.next (0x05 ∷ []) in
    let c = send b.next (0x99 ∷ []) in
    (a.number ≡ 0) × (b.number ≡ 0) × (c.number ≡ 25)

-- 62h with WEL at 001000h, IRL1 = 1: 28; at 000100h: 27
abbrev pub Case10 : Record → List ℕ → Type 0
Case10 p d =
    ((send p (0x62 ∷ 0x00 ∷ 0x10 ∷ 0x00 ∷ d)).number ≡ 28) × ((send p (0x62 ∷ 0x00 ∷ 0x01 ∷ 0x00 ∷ d)).number ≡ 27)

-- BER64 at block 3, 100 ticks, suspend, reset: first 100 pages FFh, other 156 as before
abbrev pub Case11 : Record → ℕ → ℕ → List ℕ → List ℕ → Type 0
Case11 p m l xs rs =
    let i : List ℕ = 0xD8 ∷ 0x03 ∷ m ∷ l ∷ [] in
    let w = send p (0x06 ∷ []) in
    let e = send w.next i in
    let t = tick e.next 100 in
    let s = send t.next (0x75 ∷ []) in
    let a = send s.next (0x66 ∷ []) in
    let r = send a.next (0x99 ∷ []) in
    let d = after_calls (one_byte true 0x06 ∷ transaction true i 4 ∷ ticks 100 ∷ one_byte true 0x75 ∷ one_byte true 0x66 ∷ one_byte true 0x99 ∷ []) (board_of p xs rs) in
    (w.number ≡ 0) × (e.number ≡ 0) × (t.number ≡ 0) × (t.done ≡ 100) × (s.number ≡ 0) × (a.number ≡ 0) × (r.number ≡ 0)
    × (r.next.phase ≡ Idle) × (r.next ≡ fresh p.part.blocks p.identity p.part.stored)
    × (d.array ≡ take 0x030000 xs ++ (replicate (100 * page_bytes) 0xFF ++ drop (0x030000 + 100 * page_bytes) xs)) × (d.rows ≡ rs)

-- the list of the cases, on parts of 16 blocks with any identity; case 3 on 4 blocks
pub record Cases : Type 0 where
  pub part_16 : (id : Identity) (c k : ℕ) → c < 16 → Part16 id c k
  pub case_1 : Case1
  pub case_2 : Case2
  pub case_3 : Case3
  pub case_4 : (id : Identity) (b : ℕ) → Case4 (enabled_part id 15 0) (b ∷ [])
  pub case_5 : (id : Identity) → Case5 (enabled_part id 0 0) (filled (array_bytes 16) 0xFF)
  pub case_6 : (id : Identity) (h m first second third rest b : ℕ) → Case6 (enabled_part id 0 0) h m (first ∷ second ∷ third ∷ replicate 255 rest) (filled (array_bytes 16) b)
  pub case_7 : (id : Identity) (h m l : ℕ) → Case7 (enabled_part id 0 0) h m l (filled (array_bytes 16) 0x5A)
  pub case_8 : (id : Identity) (b : ℕ) → Case8 (powered id 0 0) b
  pub case_9 : (id : Identity) → Case9 (powered id 0 0)
  pub case_10 : (id : Identity) (b : ℕ) → Case10 (enabled_part id 0 2) (b ∷ [])
  pub case_11 : (id : Identity) (b c : ℕ) → Case11 (powered id 0 0) 0x00 0x00 (filled (array_bytes 16) b) (filled rows_bytes c)

-- cases 4 to 11 on every part that they speak of, with every input and every array
abbrev pub Case4Everywhere : Type 0
Case4Everywhere =
    (p : Record) → Ready p → code_of p.part.stored.status ≡ 15 → p.part.wel ≡ true → (d : List ℕ) → Sendable d → Case4 p d

abbrev pub Case5Everywhere : Type 0
Case5Everywhere =
    (p : Record) → Ready p → p.part.wel ≡ true → Free (code_of p.part.stored.status) p.part.blocks 0x0000FE
    → (xs : List ℕ) → length xs ≡ array_bytes p.part.blocks → get_or xs 0x0000FE 0 ≡ 0xFF → get_or xs 0x0000FF 0 ≡ 0xFF → get_or xs 0x000000 0 ≡ 0xFF → Case5 p xs

abbrev pub Case6Everywhere : Type 0
Case6Everywhere =
    (p : Record) → Ready p → p.part.wel ≡ true → (h m : ℕ) (d : List ℕ) → length d ≡ 258
    → Free (code_of p.part.stored.status) p.part.blocks (address_in (Three false) p.part.blocks (0x02 ∷ h ∷ m ∷ 0x00 ∷ d))
    → (xs : List ℕ) → length xs ≡ array_bytes p.part.blocks → Case6 p h m d xs

abbrev pub Case7Everywhere : Type 0
Case7Everywhere =
    (p : Record) → Ready p → p.part.wel ≡ true → (h m l : ℕ)
    → let a = address_in (Three false) p.part.blocks (0x02 ∷ h ∷ m ∷ l ∷ 0xA5 ∷ []) in
    Free (code_of p.part.stored.status) p.part.blocks a
    → (xs : List ℕ) → length xs ≡ array_bytes p.part.blocks → get_or xs a 0 ≡ 0x5A → Case7 p h m l xs

abbrev pub Case8Everywhere : Type 0
Case8Everywhere =
    (p : Record) → Ready p → (b : ℕ) → Case8 p b

abbrev pub Case9Everywhere : Type 0
Case9Everywhere =
    (p : Record) → sound p ≡ true → p.part.asleep ≡ false → Case9 p

abbrev pub Case10Everywhere : Type 0
Case10Everywhere =
    (p : Record) → Ready p → p.part.wel ≡ true → locked p.part.stored.function 1 ≡ true → (d : List ℕ) → Sendable d → Case10 p d

abbrev pub Case11Everywhere : Type 0
Case11Everywhere =
    (p : Record) → Ready p → 3 < p.part.blocks → Free (code_of p.part.stored.status) p.part.blocks 0x030000
    → (m l : ℕ) → m < 256 → l < 256 → (xs rs : List ℕ) → length xs ≡ array_bytes p.part.blocks → length rs ≡ rows_bytes → Case11 p m l xs rs

pub record Everywhere : Type 0 where
  pub case_4 : Case4Everywhere
  pub case_5 : Case5Everywhere
  pub case_6 : Case6Everywhere
  pub case_7 : Case7Everywhere
  pub case_8 : Case8Everywhere
  pub case_9 : Case9Everywhere
  pub case_10 : Case10Everywhere
  pub case_11 : Case11Everywhere
