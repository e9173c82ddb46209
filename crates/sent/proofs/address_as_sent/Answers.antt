-- `sent::address_as_sent` meets its contract: three bytes and a bank are below 2^25.
use Prim.Native.Nat.{ℕ, ◌<◌}
use lib.ListN.{get_or}
use Rattle.paper.proofs.Addresses.{address_below}
use native.Mathlib.Omega.{arith}
use Rattle.std.proofs.Common.{rules}
use Rattle.sent.proofs.address_as_sent.Goals as goal

pub overflow_add-result : goal.overflow_add-result
overflow_add-result c =
    let i = c.args.input.now in
    let byte : (j : ℕ) → get_or i j 0 < 256 = λ j. omega (arith, c.shared_slice_known-1.given j) in
    grind (arith, c.address_sent.ensures, address_below i byte 3)

pub returns-in-Three : goal.returns-in-Three
returns-in-Three c = search rules
