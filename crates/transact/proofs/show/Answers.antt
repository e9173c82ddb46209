-- `transact::show` meets its contract: each arm drives the bytes of its source.
use mathlib.Core.Path.{refl, sym, ◌∙◌}
use Rattle.types.specs.declared.Source.TheVariants.{ArrayBytes, RowBytes, StatusByte, FunctionByte, IdentityBytes, MakerPair, DeviceByte, ExtendedByte, BankByte}
use Rattle.transact.proofs.Outputs.{driven_output, some_bytes, blank_output, row_inside}
use Rattle.transact.proofs.show.Goals as goal

pub drive_from-requires : goal.drive_from-requires
drive_from-requires c =
    let s = c in
    let a = c.args in
    some_bytes a.k a.identity a.part a.array.now a.rows.now a.input.now ArrayBytes c.in-ArrayBytes.is refl c.requires.0

pub drive_row-requires : goal.drive_row-requires
drive_row-requires c =
    let s = c in
    let a = c.args in
    rw c.requires.2 (row_inside a.k a.identity a.part a.array.now a.rows.now a.input.now c.in-RowBytes.is c.requires.0)

pub returns-in-Void : goal.returns-in-Void
returns-in-Void c =
    let s = c in
    let a = c.args in
    c.blank.ensures ∙ rw c.requires.1 (sym (blank_output a.k a.identity a.part a.array.now a.rows.now a.input.now c.in-Void.is))

pub returns-in-ArrayBytes : goal.returns-in-ArrayBytes
returns-in-ArrayBytes c =
    let s = c in
    let a = c.args in
    c.drive_from.ensures ∙ rw (c.requires.1, c.address_in-at.ensures, c.requires.2) (sym (driven_output a.k a.identity a.part a.array.now a.rows.now a.input.now ArrayBytes c.in-ArrayBytes.is refl))

pub returns-in-RowBytes : goal.returns-in-RowBytes
returns-in-RowBytes c =
    let s = c in
    let a = c.args in
    c.drive_row.ensures ∙ rw (c.requires.1, c.requires.2) (sym (driven_output a.k a.identity a.part a.array.now a.rows.now a.input.now RowBytes c.in-RowBytes.is refl))

pub returns-in-StatusByte : goal.returns-in-StatusByte
returns-in-StatusByte c =
    let s = c in
    let a = c.args in
    c.repeat_from.ensures ∙ rw c.requires.1 (sym (driven_output a.k a.identity a.part a.array.now a.rows.now a.input.now StatusByte c.in-StatusByte.is refl))

pub returns-in-FunctionByte : goal.returns-in-FunctionByte
returns-in-FunctionByte c =
    let s = c in
    let a = c.args in
    c.repeat_from-in-FunctionByte.ensures ∙ rw c.requires.1 (sym (driven_output a.k a.identity a.part a.array.now a.rows.now a.input.now FunctionByte c.in-FunctionByte.is refl))

pub returns-in-IdentityBytes : goal.returns-in-IdentityBytes
returns-in-IdentityBytes c =
    let s = c in
    let a = c.args in
    c.drive_from-in-IdentityBytes.ensures ∙ rw c.requires.1 (sym (driven_output a.k a.identity a.part a.array.now a.rows.now a.input.now IdentityBytes c.in-IdentityBytes.is refl))

pub returns-in-MakerPair : goal.returns-in-MakerPair
returns-in-MakerPair c =
    let s = c in
    let a = c.args in
    c.drive_from-in-MakerPair.ensures ∙ rw (c.requires.1, c.byte_at.ensures) (sym (driven_output a.k a.identity a.part a.array.now a.rows.now a.input.now MakerPair c.in-MakerPair.is refl))

pub returns-in-DeviceByte : goal.returns-in-DeviceByte
returns-in-DeviceByte c =
    let s = c in
    let a = c.args in
    c.repeat_from-in-DeviceByte.ensures ∙ rw c.requires.1 (sym (driven_output a.k a.identity a.part a.array.now a.rows.now a.input.now DeviceByte c.in-DeviceByte.is refl))

pub returns-in-ExtendedByte : goal.returns-in-ExtendedByte
returns-in-ExtendedByte c =
    let s = c in
    let a = c.args in
    c.repeat_from-in-ExtendedByte.ensures ∙ rw (c.requires.1, c.extended_read.ensures) (sym (driven_output a.k a.identity a.part a.array.now a.rows.now a.input.now ExtendedByte c.in-ExtendedByte.is refl))

pub returns-in-BankByte : goal.returns-in-BankByte
returns-in-BankByte c =
    let s = c in
    let a = c.args in
    c.repeat_from-in-BankByte.ensures ∙ rw c.requires.1 (sym (driven_output a.k a.identity a.part a.array.now a.rows.now a.input.now BankByte c.in-BankByte.is refl))
