pub mod Key
pub mod Document
pub mod Decimal
pub mod Values
pub mod Siafunds
pub mod Config
pub mod Told
