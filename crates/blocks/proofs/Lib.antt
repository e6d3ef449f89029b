pub mod Places
pub mod RoundTrip
pub mod BlockBanks
