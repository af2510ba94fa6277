pub mod Cursors
pub mod Walks
