-- What follows from the meaning.
-- laws of the weighted sum `total`, over points of any kind
pub mod Totals
-- what bounds every value on a list bounds their weighted sum
pub mod Bounds
-- spans of numbers
pub mod Spans
-- the joint box of several boxes does not see their order
pub mod Joints
-- what holds of vertices as they are written holds of them put in rising number, and what holds of two places in either order holds with the lower one first
pub mod InOrder
-- a part's box holds every point of every piece of it, and holds its vertices all the way of their straight motion
pub mod Inside
-- what is done to the start and the end of every vertex of a part is done to every point of the part's pieces
pub mod MovingParts
-- a pair that the list leaves out does not touch
pub mod Cull
-- pieces that touch together and are degenerate together have the same verdicts, and so have pairs of such pieces
pub mod Alike
-- laws of `determinant`, by cofactors along the first row, for rows and columns of any number
pub mod Determinants
-- lists with their elements in another order
pub mod Rearranged
-- the order of the points within a simplex, and which simplex comes first, is nothing to a piece
pub mod SamePoints
-- the order in which an edge's ends or a triangle's corners are written changes nothing
pub mod Written
-- an ee pair may be asked for in either order, with the same answer
pub mod EitherOrder
-- no cracks
pub mod NoCrack
-- whether parts share a vertex, and a part's box, are read off the list of its vertices without seeing their order
pub mod AnyOrder
-- a scene that writes the ends of its edges and the corners of its triangles in another order has the same pieces, shared vertices, boxes, and so the same verdicts and the same list
pub mod Rewritten
-- every piece holds in its first simplex an event at the start and one at the end
pub mod Differences
-- the sign law
pub mod Solved
-- four numbers that combine the four differences to the origin spread to weights of all six points, and these balance
pub mod Spread
-- all weights that balance come from four numbers that combine the four differences to the origin
pub mod Gathered
-- each of the two forms is solved by the signed volumes of its four differences
pub mod Shapes
-- numbers that are 0 or have the sign of D: a sum of such is one, and so is one times what is not negative
pub mod Agreement
-- the verdict read off signs
pub mod Reading
-- the six equations and the volumes with expressions of the normaliser for numbers, so that an identity between them is settled by computing
pub mod Symbols
-- the determinant of the six equations of a piece is the common factor of its form with the other sign
pub mod Bridge
-- the verdict of a piece of each form, read off the signs of its common factor and of a few numbers made of its four volumes
pub mod Judged
-- what code computes of a piece
pub mod Computed
-- the verdict that code computes is the piece's, for each of the seven pieces
pub mod SevenPieces
-- space sent through a linear map, with one shift at the start and another at the end
pub mod Sent
-- each of the seven pieces, sent through a linear map with a shift at the start and another at the end, is singular exactly where it was
pub mod SentPieces
-- demand 3
pub mod Moved
-- each piece has exactly one verdict, and so has each pair
pub mod OneVerdict
-- rational numbers, as far as weights need them
pub mod Fractions
-- the six equations with rational weights, as document 01 first says them, and what they have to do with whole weights
pub mod Rational
-- three vectors whose volume is 0 depend on one another
pub mod Independence
-- weights that balance may be multiplied by a number, and added
pub mod Balances
-- 'One solution' of demand 2
pub mod OneSolution
-- where the six equations have exactly one rational solution, their determinant is not 0
pub mod Singular
-- demand 2's words on a piece, in rational terms
pub mod RationalVerdicts
