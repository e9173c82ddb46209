-- `ignoring::address_ok` meets its contract: each arm is a clause of the definition.
use Rattle.ignoring.proofs.address_ok.Goals as goal

pub returns-in-Bare : goal.returns-in-Bare
returns-in-Bare c = rw c.in-Bare.is

pub returns-in-Place : goal.returns-in-Place
returns-in-Place c = rw c.in-Place.is

pub returns-in-Far : goal.returns-in-Far
returns-in-Far c = rw c.in-Far.is

pub returns-in-InRow : goal.returns-in-InRow
returns-in-InRow c = rw c.in-InRow.is c.row_ok.ensures
