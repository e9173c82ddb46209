-- The answers to a script and to a check as C gets them: one number each.
use Rattle.std.specs.Prelude.{ℕ, ◌+◌, ◌*◌, ◌%◌, ◌^◌}
use Rattle.types.specs.declared.Verdict.{Verdict}
use Rattle.types.specs.declared.Verdict.TheVariants.{Yes, Step, Address, Refused}
use Rattle.paper.specs.Script.{Scripted}
use Rattle.yawlspar.specs.Face.{packed}

-- a script: its number, and its step, which is taken modulo 2 ^ 56: no memory holds a list so long
unfoldable pub script_answer : Scripted → ℕ
script_answer w = packed w.number (w.step % 2 ^ 56)

-- a check: above the number in 8 bits what is said, 0 yes, 1 a step, 2 an address; above it the step or the address, taken modulo 2 ^ 48: no memory holds so much
abbrev pub check_answer : Verdict → ℕ
check_answer Yes = packed 0 0
check_answer (Step k) = packed 0 (1 + 256 * (k % 2 ^ 48))
check_answer (Address a) = packed 0 (2 + 256 * (a % 2 ^ 48))
check_answer (Refused number) = packed number 0
