pub mod Opening
pub mod Books
