pub mod NoncePlaces
