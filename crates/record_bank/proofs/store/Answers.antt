-- A write puts the record in the place of its register.
use Rattle.std.proofs.Common.{◌≡◌, ◌<◌, length, Some, arith, rules}
use Rattle.registers.specs.Records.{made}
use Rattle.record_bank.specs.RecordCells.{record_cells}
use Rattle.record_bank.proofs.RecordBanks.{within, record_written, record_after, record_size, record_rest}
use Rattle.record_bank.proofs.store.Goals as goal

pub offset_bounds-records-at : goal.offset_bounds-records-at
offset_bounds-records-at g c =
    let found = c.in_ok-at.ensures.found in
    let inside : c.in_ok-at.at < length (record_cells c.args.records.now) = omega (arith, found.0) in
    let h : c.in_ok-at.at < length c.args.records.now = within c.args.records.now c.in_ok-at.at c.args.register inside found.1 in
    search rules

pub bounds-records-at : goal.bounds-records-at
bounds-records-at g c =
    let found = c.in_ok-at.ensures.found in
    let inside : c.in_ok-at.at < length (record_cells c.args.records.now) = omega (arith, found.0) in
    within c.args.records.now c.in_ok-at.at c.args.register inside found.1

pub returns : goal.returns
returns g c =
    let rs = c.args.records.now in
    let i = c.in_ok-at.at in
    let j = c.args.register in
    let f = c.args.fields.now in
    let r = c.in_ok-records.field-0 in
    let found = c.in_ok-at.ensures.found in
    let inside : c.in_ok-at.at < length (record_cells c.args.records.now) = omega (arith, found.0) in
    let e : Some c.in_ok-records.field-0 ≡ made c.args.fields.now = search rules in
    record {
      answer = search rules;
      records = record_written rs i j inside found.1 f r e;
      after = record_after rs i j inside found.1 f r e;
      size = record_size rs i j inside found.1 f r e;
      rest = record_rest rs i j inside found.1 f r e;
    }
