-- Two results that a contract of this crate allows are equal.
use Rattle.words.proofs.Allowed.{OneResult, OneExit, agree}
use Rattle.sent.proofs.byte_at.Reads as byte_at
use Rattle.sent.proofs.address_in.Reads as address_in_lem
use Rattle.sent.proofs.row_ok.Reads as row_ok
use Rattle.sent.proofs.row_base.Reads as row-base
use Rattle.sent.proofs.row_byte.Reads as row-byte
use Rattle.sent.proofs.write_page_data.Reads as write-page-data
use Rattle.sent.proofs.page_data.Reads as page_data_lem
use Rattle.sent.proofs.begins.Reads as begins

pub byte_at_one : OneResult byte_at.Learnt
byte_at_one κ a x y s t p q = agree p q

pub address_in_one : OneResult address_in_lem.Learnt
address_in_one κ a x y s t p q = agree p q

pub row_ok_one : OneResult row_ok.Learnt
row_ok_one κ a x y s t p q = agree p q

pub row_base_one : OneResult row-base.Learnt
row_base_one κ a x y s t p q = agree p q

pub row_byte_one : OneResult row-byte.Learnt
row_byte_one κ a x y s t p q = agree p q

pub write_page_data_one : OneExit write-page-data.Learnt (λ κ s. s.1.1.0.now)
write_page_data_one κ a x y s t p q = agree p q

pub page_data_one : OneResult page_data_lem.Learnt
page_data_one κ a x y s t p q = agree p q

pub begins_one : OneResult begins.Learnt
begins_one κ a x y s t p q = agree p q
