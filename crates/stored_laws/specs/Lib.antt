-- Scenes that keep their boxes: the checks of their calls, the positions after a move, the scene after it and its boxes.
pub mod Checks
pub mod Placed
pub mod Torn
pub mod Moved
pub mod Once
