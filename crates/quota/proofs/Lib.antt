pub mod AuthorCounts
pub mod RoomTest
