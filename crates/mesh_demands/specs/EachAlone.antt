-- Each listed pair of a mesh as a part of its own: these parts hold every listed pair, so what is said of all of them is the report of the mesh. A
-- program that finds the pairs and asks for each alone does no more.
use mathlib.Core.List.{Memᴰ}
use Rattle.meaning.specs.Scene.{Scene}
use Rattle.meaning.specs.List.{Pair, pairs}
use Rattle.list_pairs.specs.InOrder.{list_is}
use Rattle.mesh_demands.specs.Alone.{Apart}

-- a listed pair shares no vertex
pub listed_apart : (s : Scene) (q : Pair) → Memᴰ q (pairs s) → Apart s q.kind q.first q.second
listed_apart s q m =
    let t = ((list_is s).stands q).0 m in
    record { there = t.there; ordered = t.ordered; unshared = t.apart }
