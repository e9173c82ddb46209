-- Two results that a contract of this crate allows are equal.
use Rattle.words.proofs.Allowed.{OneResult, OneExit, agree}
use Rattle.pages.proofs.page_place.Reads as page-place
use Rattle.pages.proofs.unit_memory.Reads as unit-memory
use Rattle.pages.proofs.unit_pages.Reads as unit-pages
use Rattle.pages.proofs.unit_base.Reads as unit-base
use Rattle.pages.proofs.erase_page.Reads as erase_page

pub page_place_one : OneResult page-place.Learnt
page_place_one κ a x y s t p q = agree p q

pub unit_memory_one : OneResult unit-memory.Learnt
unit_memory_one κ a x y s t p q = agree p q

pub unit_pages_one : OneResult unit-pages.Learnt
unit_pages_one κ a x y s t p q = agree p q

pub unit_base_one : OneResult unit-base.Learnt
unit_base_one κ a x y s t p q = agree p q

pub erase_page_one : OneExit erase_page.Learnt (λ κ s. s.0.now)
erase_page_one κ a x y s t p q = agree p q
