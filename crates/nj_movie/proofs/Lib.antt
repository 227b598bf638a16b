pub mod TextLemmas
pub mod SaysLemmas
pub mod ReadingLemmas
pub mod WrittenLemmas
