-- A scene played backwards: its vertices under other numbers, its pieces, its list and its refusals.
pub mod Numbers
pub mod Unsewn
pub mod TimeTurned
pub mod Turned
pub mod Pieces
pub mod Checked
pub mod Listed
