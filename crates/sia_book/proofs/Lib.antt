pub mod Playing
pub mod Missing
pub mod MarkedLive
pub mod OpenedBooks
