-- A stretch of rows in the scratch of a mesh: its count, and its list where there is room for it; its entries, held until that is known.
pub mod Stretching
pub mod Holding
