-- Laws on the way to: clean at the start and nothing touched, so clean at the end.
-- vectors of a plane, no two on one line: as many lead as trail
pub mod Borders
-- vectors have weights that take them to nothing, or all lie on one side
pub mod Gordan
-- points as columns: what does not touch stays so when it is blown up and nudged
pub mod Columns
-- a point has weight 0 in some weights exactly when its vector is a border
pub mod Facets
-- the seven points of a cell: all that balances over them is given by two numbers
pub mod Cells
-- a point without weight may be left out, or another put in its place
pub mod Dropped
-- in general position: pierced at the start exactly when pierced at the end, where nothing is touched
pub mod SixCells
-- blown up by n and nudged: congruent by n to the nudges
pub mod Congruent
-- ten nudges in general position
pub mod Nudges
-- what is through, and touches nothing, stays through
pub mod Proper
-- nothing touched: pierced at the start exactly when pierced at the end, whatever the places
pub mod Clean
