-- `faults::repeated_vertex`: by the numbers as they are written where there are no seams, by the vertices stood for where there are.
use borrow.Author.Rules.{rules}
use Rattle.scene_checks.specs.AsWritten.{as_written}
use Rattle.scene_checks.proofs.faults.repeated_vertex.Goals as goal

pub returns-then-stands-eq0 : goal.returns-then-stands-eq0
returns-then-stands-eq0 c =
    let x = c.args in
    rw (c.written_in_edges.ensures, c.written_in_triangles.ensures)
    (as_written x.edges.now x.triangles.now x.stands.now c.if-stands-eq0.true)

pub returns-else-stands-eq0 : goal.returns-else-stands-eq0
returns-else-stands-eq0 c = rw (c.repeated_in_edges.ensures, c.repeated_in_triangles.ensures)
