pub mod BatchReads
