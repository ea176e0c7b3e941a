-- Two OBJ files as one scene.

-- the end's positions among the start's
pub mod Between
-- whether two files have the same faces
pub mod Same
-- the second file, behind the first
pub mod Ending
-- both files, each refusal in its place
pub mod Importing
-- a result before its error was told of a file
pub mod Mapped
-- the scene is accepted by every other call
pub mod AcceptedImport
-- what a caller has of an import
pub mod Using
-- two results of an import are one
pub mod OneImport
