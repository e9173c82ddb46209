-- `decode::decode` meets its contract: of a range the code is none of the keys, so no list of codes has it.
use Prim.Native.Nat.{ℕ}
use mathlib.Core.List.{List, [], ◌∷◌}
use Rattle.decode.proofs.Codes.{at_none}
use Rattle.decode.proofs.decode.Goals as goal

-- the keys of the arms, the last arm's first
abbrev arms : List (List ℕ)
arms =
    (0x00 ∷ 0x61 ∷ 0x63 ∷ 0x65 ∷ 0x67 ∷ 0x84 ∷ 0xB8 ∷ 0xC6 ∷ []) ∷ (0x29 ∷ []) ∷ (0xB7 ∷ []) ∷ (0x17 ∷ 0xC5 ∷ []) ∷ (0x16 ∷ 0xC8 ∷ [])
    ∷ (0xDC ∷ []) ∷ (0x5C ∷ []) ∷ (0x21 ∷ []) ∷ (0x12 ∷ []) ∷ (0x0C ∷ []) ∷ (0x13 ∷ []) ∷ (0x82 ∷ []) ∷ (0x83 ∷ [])
    ∷ (0x85 ∷ []) ∷ (0x81 ∷ []) ∷ (0x62 ∷ []) ∷ (0x64 ∷ []) ∷ (0x99 ∷ []) ∷ (0x66 ∷ []) ∷ (0xB9 ∷ []) ∷ (0x30 ∷ 0x7A ∷ [])
    ∷ (0x75 ∷ 0xB0 ∷ []) ∷ (0x60 ∷ 0xC7 ∷ []) ∷ (0xD8 ∷ []) ∷ (0x52 ∷ []) ∷ (0x20 ∷ 0xD7 ∷ []) ∷ (0x02 ∷ []) ∷ (0x42 ∷ []) ∷ (0x01 ∷ [])
    ∷ (0x04 ∷ []) ∷ (0x06 ∷ []) ∷ (0x68 ∷ []) ∷ (0xAB ∷ []) ∷ (0x90 ∷ []) ∷ (0x9F ∷ []) ∷ (0x48 ∷ []) ∷ (0x05 ∷ [])
    ∷ (0x0B ∷ []) ∷ (0x03 ∷ []) ∷ []

pub returns-in-0-2 : goal.returns-in-0-2
returns-in-0-2 c = at_none arms _ _ _ c.in-0.in-0-own.rest tt tt tt
