-- Two results that a contract of this crate allows are equal.
use Rattle.words.proofs.Allowed.{OneResult, agree}
use Rattle.record.proofs.no_data.Reads as no-data
use Rattle.record.proofs.make.Reads as make
use Rattle.record.proofs.settle.Reads as settle
use Rattle.record.proofs.fresh_part.Reads as fresh-part
use Rattle.record.proofs.no_stored.Reads as no-stored
use Rattle.record.proofs.zero_record.Reads as zero-record
use Rattle.record.proofs.large_ok.Reads as large-ok
use Rattle.record.proofs.bits_ok.Reads as bits-ok
use Rattle.record.proofs.power_up.Reads as power-up

pub no_data_one : OneResult no-data.Learnt
no_data_one κ a x y s t p q = agree p q

pub make_one : OneResult make.Learnt
make_one κ a x y s t p q = agree p q

pub settle_one : OneResult settle.Learnt
settle_one κ a x y s t p q = agree p q

pub fresh_part_one : OneResult fresh-part.Learnt
fresh_part_one κ a x y s t p q = agree p q

pub no_stored_one : OneResult no-stored.Learnt
no_stored_one κ a x y s t p q = agree p q

pub zero_record_one : OneResult zero-record.Learnt
zero_record_one κ a x y s t p q = agree p q

pub large_ok_one : OneResult large-ok.Learnt
large_ok_one κ a x y s t p q = agree p q

pub bits_ok_one : OneResult bits-ok.Learnt
bits_ok_one κ a x y s t p q = agree p q

pub power_up_one : OneResult power-up.Learnt
power_up_one κ a x y s t p q = agree p q
