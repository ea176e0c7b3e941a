-- One line of a scene text: that a line is one record's at most, what the checks of a record come to below a scene, and what the functions
-- that read and judge a line promise.
pub mod Rendered
-- what the reader of a line promises
pub mod Reading
-- a coordinate as the machine holds it
pub mod Coordinate
-- the scene of the records above a line, with its counts
pub mod Above
-- what each check says of a scene with one record more, where it did not hold of the scene above
pub mod Adding
-- the checks of a record go by counts alone
pub mod Checks
-- what the judge of a record promises, and how the tests of the code are those of the definition
pub mod Judging
-- what one step over a line promises
pub mod Stepping
