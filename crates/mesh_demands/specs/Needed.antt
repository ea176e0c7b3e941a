-- Why the orders are kept. With the edges of case 11 exchanged, all else as it was, pieces AB and BA change places; and with the vertices in the order of their own
-- numbers, where the whole is sewn, a pair has another word.
use Rattle.std.specs.Prelude.{[], ◌∷◌, refl}
use Rattle.whole.specs.Vector.{volume}
use Rattle.meaning.specs.Scene.{Scene, scene_of, stood_for}
use Rattle.meaning.specs.Pieces.{piece_of}
use Rattle.meaning.specs.Resting.{PieceSettled, PairSettled}
use Rattle.meaning.specs.declared.Kind.TheVariants.{PointTriangle, EdgeEdge}
use Rattle.meaning.specs.declared.Settled.TheVariants.{Hit, Miss}
use Rattle.theory.specs.Reading.{verdict_of, agreeing}
use Rattle.theory.specs.Computed.{piece_verdict, edge_differences, start_sum, end_sum}
use Rattle.corner_search.specs.Decided.{settled_by, piece_word, piece_word_is}
use Rattle.demands.specs.Table.{numbered}
use Rattle.seam_demands.specs.Crack.{seam_open, seam_closed, open_missed, closed_hit}

abbrev case_eleven : Scene
case_eleven = (numbered 11).scene

-- the same vertices, the edges in the other order
abbrev pub exchanged : Scene
exchanged = scene_of case_eleven.positions (2 ∷ 3 ∷ 0 ∷ 1 ∷ []) [] []

-- the pair is edges 0 and 1 of the one and edges 1 and 0 of the other
pub edge_order_needed : PieceSettled (piece_of case_eleven EdgeEdge 0 1 1) Hit × PieceSettled (piece_of exchanged EdgeEdge 1 0 1) Miss
unfolding stood_for piece_verdict edge_differences start_sum end_sum volume verdict_of agreeing piece_word settled_by
edge_order_needed = ((piece_word_is case_eleven EdgeEdge 0 1 1 _).1 refl, (piece_word_is exchanged EdgeEdge 1 0 1 _).1 refl)

-- the same positions and the same triangles: in the one each vertex counts as itself, in the other as the vertex that it stands for
pub vertex_order_needed : PairSettled seam_open PointTriangle 3 1 Miss × PairSettled seam_closed PointTriangle 3 1 Hit
vertex_order_needed = (open_missed.1, closed_hit)
