-- `check_mesh_into`: each return is right by the tests that led to it.
use Rattle.meaning.specs.Scene.{scene_of}
use Rattle.scene_checks.specs.Ways.{shown, wrong_shape, out_of_range_lem, unknown_vertex_lem, broken_seam_lem, repeated_vertex_lem, nothing_wrong}
use Rattle.mesh_checks.specs.Checking.{sewable, by_way}
use Rattle.mesh_checks.proofs.check_mesh_into.Goals as goal

pub returns-then-wrong_shape : goal.returns-then-wrong_shape
returns-then-wrong_shape c = by_way (wrong_shape _ _ _ (shown c.wrong_shape.ensures c.if-wrong_shape.true))

pub returns-then-outside : goal.returns-then-outside
returns-then-outside c = by_way (out_of_range_lem _ _ _ (shown c.wrong_shape.ensures c.if-wrong_shape.false) (shown c.out_of_range-outside.ensures c.if-outside.true))

pub returns-then-unknown : goal.returns-then-unknown
returns-then-unknown c =
    by_way (unknown_vertex_lem _ _ _ (shown c.wrong_shape.ensures c.if-wrong_shape.false) (shown c.out_of_range-outside.ensures c.if-outside.false)
    (shown c.unknown_vertex-unknown.ensures c.if-unknown.true))

pub sew_all-broken-requires : goal.sew_all-broken-requires
sew_all-broken-requires c =
    let a = c.args in
    sewable (scene_of a.positions.now a.edges.now a.triangles.now a.seams.now) _ c.requires (shown c.wrong_shape.ensures c.if-wrong_shape.false)
    (shown c.unknown_vertex-unknown.ensures c.if-unknown.false)

pub returns-then-broken : goal.returns-then-broken
returns-then-broken c =
    by_way (broken_seam_lem _ _ _ (shown c.wrong_shape.ensures c.if-wrong_shape.false) (shown c.out_of_range-outside.ensures c.if-outside.false) (shown c.unknown_vertex-unknown.ensures c.if-unknown.false)
    c.sew_all-broken.ensures c.if-broken.true)

pub returns-then-repeated : goal.returns-then-repeated
returns-then-repeated c =
    by_way (repeated_vertex_lem _ _ _ (shown c.wrong_shape.ensures c.if-wrong_shape.false) (shown c.out_of_range-outside.ensures c.if-outside.false) (shown c.unknown_vertex-unknown.ensures c.if-unknown.false)
    c.sew_all-broken.ensures c.if-broken.false c.repeated_vertex-repeated.ensures c.if-repeated.true)

pub returns-else-repeated : goal.returns-else-repeated
returns-else-repeated c =
    by_way (nothing_wrong _ _ _ (shown c.wrong_shape.ensures c.if-wrong_shape.false) (shown c.out_of_range-outside.ensures c.if-outside.false) (shown c.unknown_vertex-unknown.ensures c.if-unknown.false)
    c.sew_all-broken.ensures c.if-broken.false c.repeated_vertex-repeated.ensures c.if-repeated.false)
