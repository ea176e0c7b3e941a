-- Four corners seen from two others: where their shadows lie on one side, the piece has no weights.
pub mod Pivot
pub mod Shadows
pub mod Parted
