use Prim.Native.Nat.{ℕ, suc}
use native.Mathlib.Omega.{arith}
use mathlib.Core.List.{[]}
use borrow.Author.Rules.{rules}
use Rattle.meaning.specs.Scene.{Scene, scene_of}
use Rattle.meaning.specs.Pieces.{moving_point, moving_triangle}
use Rattle.meaning.specs.Verdicts.{PieceIs}
use Rattle.theory.specs.Computed.{point_differences}
use Rattle.three_words.specs.Right.{point_right, at_none, at_one, at_more}
use Rattle.three_words.proofs.pieces.point_piece.Goals as goal

pub returns-then-k-eq0 : goal.returns-then-k-eq0
unfolding point_differences
returns-then-k-eq0 c =
    let a = c.args in
    let s : Scene = scene_of a.positions.now [] [] [] in
    at_none
    (λ k. PieceIs (record { first = moving_point s.positions a.p; second = moving_triangle s.positions a.c k }) c.judge_point.result)
    a.k c.if-k-eq0.true (point_right s a.p a.c 0 c.judge_point.result c.judge_point.ensures)

pub returns-then-k-eq1 : goal.returns-then-k-eq1
unfolding point_differences
returns-then-k-eq1 c =
    let a = c.args in
    let s : Scene = scene_of a.positions.now [] [] [] in
    at_one
    (λ k. PieceIs (record { first = moving_point s.positions a.p; second = moving_triangle s.positions a.c k }) c.judge_point-then-k-eq1.result)
    a.k c.if-k-eq1.true (point_right s a.p a.c 1 c.judge_point-then-k-eq1.result c.judge_point-then-k-eq1.ensures)

pub returns : goal.returns
unfolding point_differences
returns c =
    let a = c.args in
    let s : Scene = scene_of a.positions.now [] [] [] in
    at_more
    (λ k. PieceIs (record { first = moving_point s.positions a.p; second = moving_triangle s.positions a.c k }) c.judge_point-2.result)
    a.k c.if-k-eq0.false c.if-k-eq1.false (λ m. point_right s a.p a.c (suc (suc m)) c.judge_point-2.result c.judge_point-2.ensures)

pub judge_point-requires : goal.judge_point-requires
judge_point-requires c = (omega arith, c.requires.bounded)

pub judge_point-requires-then-k-eq1 : goal.judge_point-requires-then-k-eq1
judge_point-requires-then-k-eq1 c = (omega arith, c.requires.bounded)

pub judge_point-requires-2 : goal.judge_point-requires-2
judge_point-requires-2 c = (omega arith, c.requires.bounded)
