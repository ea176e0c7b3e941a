-- A scene text read into a draft: how it goes on from line to line.
pub mod Reading
