-- What a reader must believe: documents 01 and 02, in their words and their order.
-- ---- what it takes and what it says
-- every limit, once
pub mod Limits
-- a mesh at two times, its seams, when it is accepted
pub mod Scene
-- the space-time pieces of a moving point, edge and triangle
pub mod Pieces
-- six weights, six equations
pub mod Equations
-- hit, miss, degenerate: a piece and a pair
pub mod Verdicts
-- touch and apart: cloth at rest
pub mod Resting
-- the table: a check, an answer that is right by it, its number
pub mod Refusals
-- pierced: an edge through a triangle at one time
pub mod Pierced
-- ---- the list
-- swept boxes
pub mod Boxes
-- straight motion, of which the cull speaks too
pub mod Motion
-- which pairs, in which order, and an entry's number
pub mod List
-- runs of 16 and the box tests of a walk
pub mod Runs
-- the word of each listed pair, as a byte
pub mod SceneWords
-- a list of one's own
pub mod OwnList
-- ---- meshes
-- a scene of any size, and its checks
pub mod Mesh
-- far and near pairs, and boxes at one time
pub mod Near
-- the list row by row, and the calls over a stretch of rows
pub mod MeshRows
-- whether every side of a triangle is an edge, by a lent certificate
pub mod MeshEdges
-- the edges that are through a triangle, row by row
pub mod PiercedRows
-- ---- texts
-- a text of any grammar: sound lines, or the first faulty one
pub mod Lines
-- the scene text, and what its reader leaves
pub mod Text
-- the report of a scene text
pub mod Report
-- the same for a scene that is there already
pub mod SceneLines
-- a scene written as text
pub mod Saved
-- a partner's claims
pub mod Claims
-- ---- played backwards
pub mod Backwards
-- ---- when and where it touched
-- time and shares of a contact
pub mod Contacts
-- the answer for a pair and for a scene
pub mod WholeContacts
-- contacts as lines
pub mod ContactLines
-- ---- boxes that a scene keeps
-- where they stand, and that they are right
pub mod StoredBoxes
-- one vertex moved
pub mod Dragging
-- ---- two OBJ files
-- one line
pub mod ObjLine
-- one file
pub mod ObjFile
-- two files as one scene
pub mod ObjPair
-- with its boxes
pub mod ObjBoxes
-- what two files print
pub mod ObjPrinted
-- ---- a series
-- its steps, its hits, its log
pub mod Series
-- its text
pub mod SeriesText
-- what its answer says
pub mod SeriesAnswers
-- what its call promises
pub mod SeriesCall
-- a series as lines
pub mod SeriesLines
-- ---- answers as numbers, for C
pub mod Numbers
-- the answer of an import as one number
pub mod ImportNumbers
-- a series told as numbers into lent arrays, since neither a struct nor an enum crosses to C: the rows of its log, and the numbers beside it
pub mod SeriesNumbers
-- the calls over meshes as a number and a lent array
pub mod MeshNumbers
-- ---- cases shown
pub mod shown
