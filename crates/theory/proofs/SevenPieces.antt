-- Of `SevenPieces`: what rests on its definitions.
use Rattle.std.specs.Prelude.{◌≡◌, refl, List, [], ◌∷◌, map, ℕ, zero, suc, ◌/◌, ◌%◌, min, max, ℤ, pos, neg_ℤ, ◌-ℤ◌}
use Rattle.std.proofs.Common.{subst}
use Rattle.whole.specs.Vector.{Vector}
use Rattle.whole.specs.Signs.{sgn}
use Rattle.whole.specs.Quote.{quotes, ring}
use Rattle.whole.specs.Cramer.{Four, each, volumes, all, dot4}
use Rattle.meaning.specs.Scene.{Scene, ends_of, corners_of}
use Rattle.meaning.specs.Pieces.{Event, moving_point, moving_edge, moving_triangle, piece_of}
use Rattle.meaning.specs.Verdicts.{PieceIs}
use Rattle.meaning.specs.declared.Ends.{Ends}
use Rattle.meaning.specs.declared.Corners.{Corners}
use Rattle.meaning.specs.declared.Kind.{Kind}
use Rattle.meaning.specs.declared.Kind.TheVariants.{PointTriangle, EdgeEdge}
use Rattle.theory.specs.Differences.{Form, alone, around, formed}
use Rattle.theory.specs.Spread.{factor}
use Rattle.theory.specs.Reading.{verdict_of}
use Rattle.theory.specs.Judged.{tested}
use Rattle.theory.proofs.Judged.{judged}
use Rattle.theory.specs.Computed.{point_differences, point_verdict, edge_differences, edge_verdict, edge_numbers, start_sum, end_sum, piece_verdict}
use Rattle.theory.specs.SevenPieces.{Seen, start, end, seen_differences, seen_timely, edge_times}

-- the verdict of a form with its differences and its numbers as code has them
judged_seen : (form : Form) {p q : Vector} (o : Four Event) (d : Four Vector) → Seen p q o.v0 d.v0 → Seen p q o.v1 d.v1 → Seen p q o.v2 d.v2 → Seen p q o.v3 d.v3 → (l : Four ℤ → List ℤ) → ((n : Four ℤ) → tested form o n ≡ l n) → PieceIs (formed form p q o) (verdict_of (sgn (factor form (volumes d))) (map sgn (l (volumes d))))
judged_seen form {p} {q} o d a0 a1 a2 a3 l h =
    subst (λ (m : List ℤ). PieceIs (formed form p q o) (verdict_of (sgn (factor form (volumes d))) (map sgn m))) (h (volumes d))
    (subst (λ (c : Four Vector). PieceIs (formed form p q o) (verdict_of (sgn (factor form (volumes c))) (map sgn (tested form o (volumes c))))) (seen_differences p q o d a0 a1 a2 a3)
    (judged form p q o (seen_timely p q o d a0 a1 a2 a3)))

pub judged_point : (s : Scene) (p : ℕ) (c : Corners) (k : ℕ) → PieceIs (record { first = moving_point s.positions p; second = moving_triangle s.positions c k }) (point_verdict (volumes (point_differences s p c k)))
unfolding moving_triangle point_differences formed factor tested
judged_point s p c zero = judged_seen alone _ _ start start start end all (λ n. refl)
judged_point s p c (suc zero) = judged_seen alone _ _ start start end end all (λ n. refl)
judged_point s p c (suc (suc k)) = judged_seen alone _ _ start end end end all (λ n. refl)

start_sum_is : (i j : ℕ) (n : Four ℤ) → dot4 n (each (λ t. pos 1 -ℤ t) (edge_times i j)) ≡ start_sum i j n
unfolding start_sum
start_sum_is zero zero n = ring (all n) (search quotes depth 40 fits 9000) refl
start_sum_is zero (suc j) n = ring (all n) (search quotes depth 40 fits 9000) refl
start_sum_is (suc i) zero n = ring (all n) (search quotes depth 40 fits 9000) refl
start_sum_is (suc i) (suc j) n = ring (all n) (search quotes depth 40 fits 9000) refl

end_sum_is : (i j : ℕ) (n : Four ℤ) → dot4 n (edge_times i j) ≡ end_sum i j n
unfolding end_sum
end_sum_is zero zero n = ring (all n) (search quotes depth 40 fits 9000) refl
end_sum_is zero (suc j) n = ring (all n) (search quotes depth 40 fits 9000) refl
end_sum_is (suc i) zero n = ring (all n) (search quotes depth 40 fits 9000) refl
end_sum_is (suc i) (suc j) n = ring (all n) (search quotes depth 40 fits 9000) refl

numbers_are : (i j : ℕ) (n : Four ℤ) → neg_ℤ n.v0 ∷ n.v1 ∷ n.v2 ∷ n.v3 ∷ dot4 n (each (λ t. pos 1 -ℤ t) (edge_times i j)) ∷ dot4 n (edge_times i j) ∷ [] ≡ edge_numbers i j n
numbers_are i j n = λ k. neg_ℤ n.v0 ∷ n.v1 ∷ n.v2 ∷ n.v3 ∷ start_sum_is i j n k ∷ end_sum_is i j n k ∷ []

pub judged_edge : (s : Scene) (e : Ends) (i : ℕ) (f : Ends) (j : ℕ) → PieceIs (record { first = moving_edge s.positions e i; second = moving_edge s.positions f j }) (edge_verdict i j (volumes (edge_differences s e i f j)))
unfolding moving_edge edge_differences formed factor tested
judged_edge s e zero f zero = judged_seen around _ _ start start start end (edge_numbers 0 0) (numbers_are 0 0)
judged_edge s e zero f (suc j) = judged_seen around _ _ start start end end (edge_numbers 0 (suc j)) (numbers_are 0 (suc j))
judged_edge s e (suc i) f zero = judged_seen around _ _ end start start end (edge_numbers (suc i) 0) (numbers_are (suc i) 0)
judged_edge s e (suc i) f (suc j) = judged_seen around _ _ end start end end (edge_numbers (suc i) (suc j)) (numbers_are (suc i) (suc j))

pub judged_piece : (s : Scene) (kind : Kind) (i j k : ℕ) → PieceIs (piece_of s kind i j k) (piece_verdict s kind i j k)
unfolding piece_of piece_verdict
judged_piece s PointTriangle i j k = judged_point s i (corners_of s j) k
judged_piece s EdgeEdge i j k = judged_edge s (ends_of s (min i j)) (k / 2) (ends_of s (max i j)) (k % 2)
