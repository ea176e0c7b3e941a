-- `obj_edges::is_joined` meets its contract: the edge is none of those that the search has passed, and those between them have another sum.
use native.Mathlib.Omega.{arith}
use borrow.Author.Rules.{rules}
use Rattle.obj_edges.specs.Chains.{Searching, search_starts, search_found, search_goes, search_ends}
use Rattle.obj_edges.proofs.is_joined.Given as goal

abbrev pub invariant-loop-e : goal.invariant-loop-e
invariant-loop-e l = Searching l.a l.b l.edges l.count l.e

abbrev pub decreases-loop-e : goal.decreases-loop-e
decreases-loop-e l = l.e
