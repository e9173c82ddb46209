-- Chained calls from C are made of calls: what the contracts of yawlspar_transact, yawlspar_tick, yawlspar_script, yawlspar_check, yawlspar_tick_map, yawlspar_script_map and yawlspar_power_up allow are their steps and their start, and what that of yawlspar_map_rebuild allows is the map that they begin with.
use mathlib.Core.Path.{◌≡◌, refl}
use mathlib.Core.List.{List, [], ◌∷◌}
use lib.ListN.{length}
use Rattle.words.proofs.Allowed.{Follows}
use Rattle.paper.specs.Numbers.{rebuild_number}
use Rattle.paper.specs.Map.{rebuilt}
use Rattle.yawlspar.specs.Face.{asked, power_up_answer, power_up_bytes}
use Rattle.yawlspar.proofs.yawlspar_power_up.Reads as yawlspar-power-up
use Rattle.yawlspar.proofs.yawlspar_transact.Reads as yawlspar-transact
use Rattle.yawlspar.proofs.yawlspar_tick.Reads as yawlspar-tick
use Rattle.yawlspar_script.proofs.yawlspar_script.Reads as yawlspar-script
use Rattle.yawlspar_script.proofs.yawlspar_check.Reads as yawlspar-check
use Rattle.yawlspar_map.proofs.yawlspar_map_rebuild.Reads as yawlspar-map-rebuild
use Rattle.yawlspar_map.proofs.yawlspar_tick_map.Reads as yawlspar-tick-map
use Rattle.yawlspar_script.proofs.yawlspar_script_map.Reads as yawlspar-script-map
use Rattle.from_c.specs.Driven.{Lent, lent, CCall, transact, tick, script, check, tick_map, script_map, Driven, calls}

-- bytes, array, rows, level, input and output are a call's arguments
pub transact_drives : Follows yawlspar-transact.Learnt (λ κ a x s.
    (cs : List CCall) (m : Lent) → Driven (lent s.0.now a.1.0.now a.1.1.0.now) cs m
    → Driven (lent a.0.now a.1.0.now a.1.1.0.now) (transact a.1.1.1.0 a.1.1.1.1.0.now a.1.1.1.1.1.0.now ∷ cs) m)
transact_drives κ a x s l cs m r =
    calls {l = lent a.0.now a.1.0.now a.1.1.0.now} {c = transact a.1.1.1.0 a.1.1.1.1.0.now a.1.1.1.1.1.0.now} (record { answer = x; buffers = s.1.1.1.1.1.0.now ∷ []; left = lent s.0.now a.1.0.now a.1.1.0.now })
    (rw (l.0, l.1.0, l.1.1) refl) r

-- bytes, array, rows and ticks are
pub tick_drives : Follows yawlspar-tick.Learnt (λ κ a x s.
    (cs : List CCall) (m : Lent) → Driven (lent s.0.now s.1.0.now s.1.1.0.now) cs m
    → Driven (lent a.0.now a.1.0.now a.1.1.0.now) (tick a.1.1.1.0 ∷ cs) m)
tick_drives κ a x s l cs m r =
    calls {l = lent a.0.now a.1.0.now a.1.1.0.now} {c = tick a.1.1.1.0} (record { answer = x; buffers = []; left = lent s.0.now s.1.0.now s.1.1.0.now })
    (rw (l.0, l.1.0, l.1.1.0, l.1.1.1) refl) r

-- bytes, array, rows, level, input, lengths, tick counts, output, answers and ticks done are
pub script_drives : Follows yawlspar-script.Learnt (λ κ a x s.
    (cs : List CCall) (m : Lent) → Driven (lent s.0.now s.1.0.now s.1.1.0.now) cs m
    → Driven (lent a.0.now a.1.0.now a.1.1.0.now) (script a.1.1.1.0 a.1.1.1.1.0.now a.1.1.1.1.1.0.now a.1.1.1.1.1.1.0.now a.1.1.1.1.1.1.1.0.now a.1.1.1.1.1.1.1.1.0.now a.1.1.1.1.1.1.1.1.1.0.now ∷ cs) m)
script_drives κ a x s l cs m r =
    calls {l = lent a.0.now a.1.0.now a.1.1.0.now} {c = script a.1.1.1.0 a.1.1.1.1.0.now a.1.1.1.1.1.0.now a.1.1.1.1.1.1.0.now a.1.1.1.1.1.1.1.0.now a.1.1.1.1.1.1.1.1.0.now a.1.1.1.1.1.1.1.1.1.0.now}
    (record { answer = x; buffers = s.1.1.1.1.1.1.1.0.now ∷ s.1.1.1.1.1.1.1.1.0.now ∷ s.1.1.1.1.1.1.1.1.1.0.now ∷ []; left = lent s.0.now s.1.0.now s.1.1.0.now })
    (rw (l.0, l.1.0, l.1.1.0, l.1.1.1.0, l.1.1.1.1.0, l.1.1.1.1.1.0, l.1.1.1.1.1.1) refl) r

-- and an image, of a check
pub check_drives : Follows yawlspar-check.Learnt (λ κ a x s.
    (cs : List CCall) (m : Lent) → Driven (lent s.0.now s.1.0.now s.1.1.0.now) cs m
    → Driven (lent a.0.now a.1.0.now a.1.1.0.now) (check a.1.1.1.0 a.1.1.1.1.0.now a.1.1.1.1.1.0.now a.1.1.1.1.1.1.0.now a.1.1.1.1.1.1.1.0.now a.1.1.1.1.1.1.1.1.0.now a.1.1.1.1.1.1.1.1.1.0.now a.1.1.1.1.1.1.1.1.1.1.0.now ∷ cs) m)
check_drives κ a x s l cs m r =
    calls {l = lent a.0.now a.1.0.now a.1.1.0.now} {c = check a.1.1.1.0 a.1.1.1.1.0.now a.1.1.1.1.1.0.now a.1.1.1.1.1.1.0.now a.1.1.1.1.1.1.1.0.now a.1.1.1.1.1.1.1.1.0.now a.1.1.1.1.1.1.1.1.1.0.now a.1.1.1.1.1.1.1.1.1.1.0.now}
    (record { answer = x; buffers = s.1.1.1.1.1.1.1.0.now ∷ s.1.1.1.1.1.1.1.1.0.now ∷ s.1.1.1.1.1.1.1.1.1.0.now ∷ []; left = lent s.0.now s.1.0.now s.1.1.0.now })
    (rw (l.0, l.1.0, l.1.1.0, l.1.1.1.0, l.1.1.1.1.0, l.1.1.1.1.1.0, l.1.1.1.1.1.1) refl) r

-- bytes, array, rows, ticks and a map are
pub tick_map_drives : Follows yawlspar-tick-map.Learnt (λ κ a x s.
    (cs : List CCall) (m : Lent) → Driven (lent s.0.now s.1.0.now s.1.1.0.now) cs m
    → Driven (lent a.0.now a.1.0.now a.1.1.0.now) (tick_map a.1.1.1.0 a.1.1.1.1.0.now ∷ cs) m)
tick_map_drives κ a x s l cs m r =
    calls {l = lent a.0.now a.1.0.now a.1.1.0.now} {c = tick_map a.1.1.1.0 a.1.1.1.1.0.now} (record { answer = x; buffers = s.1.1.1.1.0.now ∷ []; left = lent s.0.now s.1.0.now s.1.1.0.now })
    (rw (l.0, l.1.0, l.1.1.0, l.1.1.1.0, l.1.1.1.1) refl) r

-- and of a script with a map, what a script's are, and the map
pub script_map_drives : Follows yawlspar-script-map.Learnt (λ κ a x s.
    (cs : List CCall) (m : Lent) → Driven (lent s.0.now s.1.0.now s.1.1.0.now) cs m
    → Driven (lent a.0.now a.1.0.now a.1.1.0.now) (script_map a.1.1.1.0 a.1.1.1.1.0.now a.1.1.1.1.1.0.now a.1.1.1.1.1.1.0.now a.1.1.1.1.1.1.1.0.now a.1.1.1.1.1.1.1.1.0.now a.1.1.1.1.1.1.1.1.1.0.now a.1.1.1.1.1.1.1.1.1.1.0.now ∷ cs) m)
script_map_drives κ a x s l cs m r =
    calls {l = lent a.0.now a.1.0.now a.1.1.0.now} {c = script_map a.1.1.1.0 a.1.1.1.1.0.now a.1.1.1.1.1.0.now a.1.1.1.1.1.1.0.now a.1.1.1.1.1.1.1.0.now a.1.1.1.1.1.1.1.1.0.now a.1.1.1.1.1.1.1.1.1.0.now a.1.1.1.1.1.1.1.1.1.1.0.now}
    (record { answer = x; buffers = s.1.1.1.1.1.1.1.0.now ∷ s.1.1.1.1.1.1.1.1.0.now ∷ s.1.1.1.1.1.1.1.1.1.0.now ∷ s.1.1.1.1.1.1.1.1.1.1.0.now ∷ []; left = lent s.0.now s.1.0.now s.1.1.0.now })
    (rw (l.0, l.1.0, l.1.1.0, l.1.1.1.0, l.1.1.1.1.0, l.1.1.1.1.1.0, l.1.1.1.1.1.1.0, l.1.1.1.1.1.1.1) refl) r

-- bytes, blocks, maker, kind, capacity, device, status, function and extended are
pub power_up_drives : Follows yawlspar-power-up.Learnt (λ κ a x s.
    (x ≡ power_up_answer (length a.0.now) (asked a.1.0 a.1.1.0 a.1.1.1.0 a.1.1.1.1.0 a.1.1.1.1.1.0 a.1.1.1.1.1.1.0 a.1.1.1.1.1.1.1.0 a.1.1.1.1.1.1.1.1.0))
    × (s.0.now ≡ power_up_bytes (asked a.1.0 a.1.1.0 a.1.1.1.0 a.1.1.1.1.0 a.1.1.1.1.1.0 a.1.1.1.1.1.1.0 a.1.1.1.1.1.1.1.0 a.1.1.1.1.1.1.1.1.0) a.0.now))
power_up_drives κ a x s l = (l.0, l.1)

-- blocks, array and map are
pub map_rebuild_begins : Follows yawlspar-map-rebuild.Learnt (λ κ a x s.
    (x ≡ rebuild_number a.0 (length a.1.0.now) (length a.1.1.0.now))
    × (s.1.1.0.now ≡ rebuilt a.0 a.1.0.now a.1.1.0.now))
map_rebuild_begins κ a x s l = (l.0, l.1)
