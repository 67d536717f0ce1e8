mod Explained
mod Told
pub mod Chunks
pub mod Said
mod Counted
pub mod Judged
pub mod Lines
mod LinesPlayed
mod Mailed
mod Results
mod Rows
mod Sights
mod Turns
mod Written
mod Accepted
mod NumberRows
mod Numbers
mod Refused
mod Stops
mod Walks
