-- Rows in runs by a lent order: boxes of parts from those of their vertices, the boxes of a run's rows with one that covers them, places taken to their
-- parts, the parts' boxes spread, what the parts that are found tell of each row, and a row by its second places.
pub mod PartBoxes
pub mod RowBoxes
pub mod SpreadParts
pub mod Leading
pub mod RunRows
pub mod Put
