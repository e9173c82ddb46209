-- Request 12 from C: a map of blank pages over chained calls, of which each that makes ticks is lent the map as the last one left it.
use Rattle.std.specs.Prelude.{ℕ, ◌≡◌, List, [], length, get_or}
use Rattle.types.specs.declared.Record.{Record}
use Rattle.words.specs.Lists.{AreBytes}
use Rattle.paper.specs.Sizes.{array_bytes, map_bytes, rows_bytes}
use Rattle.paper.specs.Numbers.{rebuild_number}
use Rattle.paper.specs.History.{Call, history}
use Rattle.paper.specs.Map.{Right, rebuilt, map_after_calls}
use Rattle.yawlspar.specs.Face.{Asked, power_up_answer, power_up_bytes}
use Rattle.map_laws.specs.MapLaws.{Framed}
use Rattle.from_c.specs.Driven.{Lent, lent, CCall, transact, tick, script, check, tick_map, script_map, Given, calls_of, Driven, ended, calls}
use Rattle.from_c.specs.Holding.{Holding}
use Rattle.from_c.specs.LawsFromC.{board_in}

-- a call that keeps the map k is lent it. A transaction needs none; ticks and scripts without a map, and checks, do not keep one
abbrev pub LendsMap : CCall → List ℕ → Type 0
LendsMap (transact wp i o) k = Unit {0}
LendsMap (tick n) k = ⊥
LendsMap (script wp i ls ts o n d) k = ⊥
LendsMap (check wp i ls ts o n d image) k = ⊥
LendsMap (tick_map n m) k = m ≡ k
LendsMap (script_map wp i ls ts o n d m) k = m ≡ k

-- the map k after a call that gave g: the buffer of a call that was lent it, else as it was
abbrev pub map_left : CCall → Given → List ℕ → List ℕ
map_left (transact wp i o) g k = k
map_left (tick n) g k = k
map_left (script wp i ls ts o n d) g k = k
map_left (check wp i ls ts o n d image) g k = k
map_left (tick_map n m) g k = get_or g.buffers 0 []
map_left (script_map wp i ls ts o n d m) g k = get_or g.buffers 3 []

-- chained calls that keep a map, which is k before them and j after
abbrev pub KeepsMap : {l m : Lent} {cs : List CCall} → Driven l cs m → List ℕ → List ℕ → Type 0
KeepsMap ended k j = j ≡ k
KeepsMap (calls {c = c} g e rest) k j = LendsMap c k × KeepsMap rest (map_left c g k) j

-- calls from C that stand for these and keep a map, which is k before them
pub record DrivesMap (l : Lent) (p : Record) (cs : List Call) (k : List ℕ) : Type 0 where
  pub made : List CCall
  pub stands : calls_of made p ≡ cs
  pub after : Lent
  pub chain : Driven l made after
  pub last : List ℕ
  pub keeps : KeepsMap chain k last

pub record MapFromC : Type 0 where
  -- each list of calls is what some calls from C stand for that keep a map
  pub driven : (l : Lent) (p : Record) (cs : List Call) (k : List ℕ) → Holding l p → length k ≡ map_bytes p.part.blocks → DrivesMap l p cs k
  -- what they make of a map is what the calls make of it that they stand for
  pub exact : (l m : Lent) (p : Record) (cs : List CCall) (k j : List ℕ) → Holding l p → (chain : Driven l cs m) → KeepsMap chain k j
      → j ≡ map_after_calls (calls_of cs p) (board_in l p) k
  -- "in a run from a right map the map is right at the end"
  pub right : (l m : Lent) (p : Record) (cs : List CCall) (k j : List ℕ) → Holding l p → (chain : Driven l cs m) → KeepsMap chain k j
      → Right k l.array → Right j m.array
  -- "Whatever map is given: only bits of pages that a working tick reached may change, and those are right afterwards"
  pub frame : (l m : Lent) (p : Record) (cs : List CCall) (k j : List ℕ) → Holding l p → (chain : Driven l cs m) → KeepsMap chain k j
      → length k ≡ map_bytes p.part.blocks → AreBytes k → Framed p.part.blocks (history (calls_of cs p) p) m.array k j
  -- a rebuild is not refused that is lent a map of the part's size, and leaves a right one to begin with
  pub begins : (l : Lent) (p : Record) (k : List ℕ) → Holding l p → length k ≡ map_bytes p.part.blocks
      → (rebuild_number p.part.blocks (length l.array) (length k) ≡ 0) × Right (rebuilt p.part.blocks l.array k) l.array
  -- so that after a power-up and a rebuild the map is right at the end of any calls that keep it
  pub powered : (q : Asked) (bs xs rs : List ℕ) (m : Lent) (cs : List CCall) (k j : List ℕ) → power_up_answer (length bs) q ≡ 0 → length xs ≡ array_bytes q.blocks → length rs ≡ rows_bytes → length k ≡ map_bytes q.blocks
      → (chain : Driven (lent (power_up_bytes q bs) xs rs) cs m) → KeepsMap chain (rebuilt q.blocks xs k) j → Right j m.array
