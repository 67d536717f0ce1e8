mod Opening
mod Ends
