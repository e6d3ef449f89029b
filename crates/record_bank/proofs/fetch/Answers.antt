-- A read answers the record of its register.
use Rattle.std.proofs.Common.{◌<◌, length, arith}
use Rattle.record_bank.specs.RecordCells.{record_cells}
use Rattle.record_bank.proofs.RecordBanks.{within, record_read}
use Rattle.record_bank.proofs.fetch.Goals as goal

pub offset_bounds-records-at : goal.offset_bounds-records-at
offset_bounds-records-at g c =
    let found = c.in_ok-at.ensures.found in
    let inside : c.in_ok-at.at < length (record_cells c.args.records.now) = omega (arith, found.0) in
    omega (arith, within c.args.records.now c.in_ok-at.at c.args.register inside found.1)

pub bounds-records-at : goal.bounds-records-at
bounds-records-at g c =
    let found = c.in_ok-at.ensures.found in
    let inside : c.in_ok-at.at < length (record_cells c.args.records.now) = omega (arith, found.0) in
    within c.args.records.now c.in_ok-at.at c.args.register inside found.1

pub returns : goal.returns
returns g c =
    let found = c.in_ok-at.ensures.found in
    let inside : c.in_ok-at.at < length (record_cells c.args.records.now) = omega (arith, found.0) in
    record_read c.args.records.now c.in_ok-at.at c.args.register inside found.1 c.index-records-at.result c.index-records-at.is
