-- An operation that is suspended over a list of calls: none of them lets it go, and what stands around them.
use Rattle.std.specs.Prelude.{ℕ, Bool, true, not, List, [], ◌∷◌, ◌++◌}
use Rattle.types.specs.declared.Record.{Record}
use Rattle.words.specs.Logic.{◌and◌}
use Rattle.paper.specs.History.{Call, ticks, record_after_call}
use Rattle.paper.specs.Halted.{releases}

-- no call of a list lets the suspended operation go
abbrev pub none_releases : List Call → Record → Bool
none_releases [] p = true
none_releases (c ∷ cs) p = not (releases c p) and none_releases cs (record_after_call c p)

-- d ticks, a suspend, calls, and a resume
abbrev pub interrupted : ℕ → Call → List Call → Call → List Call
interrupted d suspend cs resume = ticks d ∷ suspend ∷ (cs ++ (resume ∷ []))
