-- Request 12: what a script makes of a map of blank pages, told by the calls that it stands for, on a sound part with its own memory.
use Rattle.std.specs.Prelude.{◌≡◌, Bool, List, ℕ, length}
use Rattle.paper.specs.Board.{Board, Own}
use Rattle.paper.specs.Script.{Script, script_calls}
use Rattle.paper.specs.Map.{map_after_calls, script_map}

-- it is the map after these calls; ok is false where its level of WP# is none
abbrev pub ScriptMap : Type 0
ScriptMap =
    (ok : Bool) (s : Script) (b : Board) (o n d m : List ℕ) → Own b
    → script_map ok s b o n d m ≡ map_after_calls (script_calls ok s b.state (length o) (length n) (length d)) b m
