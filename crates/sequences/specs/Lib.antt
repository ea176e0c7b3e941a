-- Lists and lent buffers over any element: choice, parts of lists, what a writer leaves behind, lists gathered index by index.
-- a choice by a test
pub mod Pick
-- laws of take, drop, ++ and set that lib.ListN and lib.Seq lack, at i + 1 as code writes it, and the part of a list that stands between two places
pub mod Parts
-- what a writer promises of a buffer that it was lent
pub mod Wrote
-- what a scanner promises of a list that it reads
pub mod Stands
-- the invariant of a loop that writes
pub mod Writing
-- going from an index up to a bound
pub mod Range
-- lists made index by index
pub mod Gather
-- of the elements g i, g (i + 1), … those whose test holds, in order
pub mod Chosen
-- the invariant of a loop that counts a list before another writes it
pub mod Counting
-- lists in which every earlier element is smaller
pub mod Rising
-- a list told by what stands in it and in which order
pub mod Lists
-- a list written out element by element, each as a short list of one width
pub mod Flat
-- a list written out element by element, each as one number
pub mod Mapped
-- lists of one width, gathered one behind the other
pub mod Blocks
