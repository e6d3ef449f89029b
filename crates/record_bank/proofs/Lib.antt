pub mod RecordBanks
