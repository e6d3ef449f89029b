pub mod RecordCells
