-- A file for each command: its form, its files, its text, and what it gives for the bytes that it reads.
pub mod Ledger
pub mod Prove
pub mod Root
pub mod Show
