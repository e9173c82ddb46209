-- Two results that a contract of this crate allows are equal.
use Rattle.words.proofs.Allowed.{OneResult, agree}
use Rattle.address.proofs.high_first_bytes.Reads as high-first-bytes
use Rattle.address.proofs.address_sent.Reads as address-sent

pub high_first_bytes_one : OneResult high-first-bytes.Learnt
high_first_bytes_one κ a x y s t p q = agree p q

pub address_sent_one : OneResult address-sent.Learnt
address_sent_one κ a x y s t p q = agree p q
