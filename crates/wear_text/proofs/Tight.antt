-- Two results that the contract of `write` allows are equal: the answer, and the text.
use Rattle.words.proofs.Allowed.{OneResult, OneExit, agree}
use Rattle.wear_text.proofs.write.Reads as write

pub write_one : OneResult write.Learnt
write_one κ a x y s t p q = agree p.0 q.0

pub write_one_text : OneExit write.Learnt (λ κ s. s.1.1.0.now)
write_one_text κ a x y s t p q = agree p.1 q.1
