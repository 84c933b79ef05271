pub mod NonceLists
pub mod PongPlaces
pub mod PeerCalls
pub mod PeerArea
pub mod PendingCount
