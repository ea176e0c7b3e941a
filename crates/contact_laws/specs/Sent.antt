-- Demand 3 for contacts: time and shares do not mention a place, so they go with a piece through a map and shifts, and back.
use Rattle.std.specs.Prelude.{ℕ, Bool, ◌≢◌, List, map, ℤ, pos}
use Rattle.std.proofs.Common.{sym, subst}
use Rattle.whole.specs.Vector.{Vector}
use Rattle.whole.specs.VectorLaws.{Matrix, det}
use Rattle.meaning.specs.Pieces.{Event, Piece}
use Rattle.meaning.specs.Equations.{one, time_of, total, Touches}
use Rattle.meaning.specs.Contacts.{Cut, weights, only, TimeIs, FirstShareIs, SecondShareIs}
use Rattle.theory.specs.Totals.{total_map}
use Rattle.theory.specs.Sent.{sent, balanced_there, balanced_back, sums_sent}
use Rattle.theory.specs.SentPieces.{sent_piece}

module _ (m : Matrix) (a b : Vector) where
  -- a share of what is sent is the share of what was there
  cut_sent : (f : Event → ℤ) (g : Event → ℤ) (u w : ℕ → ℤ) (l : List Event) (n : ℕ) → Cut (total (λ e. f (sent m a b e)) u l) (total (λ e. g (sent m a b e)) w l) n
      → Cut (total f u (map (sent m a b) l)) (total g w (map (sent m a b) l)) n
  cut_sent f g u w l n c = rw (total_map f (sent m a b) u l, total_map g (sent m a b) w l) c

  cut_back : (f : Event → ℤ) (g : Event → ℤ) (u w : ℕ → ℤ) (l : List Event) (n : ℕ) → Cut (total f u (map (sent m a b) l)) (total g w (map (sent m a b) l)) n
      → Cut (total (λ e. f (sent m a b e)) u l) (total (λ e. g (sent m a b e)) w l) n
  cut_back f g u w l n c = rw (total_map f (sent m a b) u l, total_map g (sent m a b) w l) at c

  -- the weights themselves go there and back
  abbrev there : (p : Piece) → Touches p → Touches (sent_piece m a b p)
  there p t = record {
    u = t.u;
    v = t.v;
    balanced = balanced_there m a b p.first p.second (weights t.u) (weights t.v) t.balanced;
    some = rw (sums_sent m a b) t.some;
  }

  abbrev back : (p : Piece) → det m ≢ pos 0 → Touches (sent_piece m a b p) → Touches p
  back p d t = record {
    u = t.u;
    v = t.v;
    balanced = balanced_back m a b p.first p.second (weights t.u) (weights t.v) d t.balanced;
    some = rw (sums_sent m a b) at t.some;
  }

  module _ (p : Piece) (n : ℕ) where
    pub time_sent : det m ≢ pos 0 → TimeIs p n → TimeIs (sent_piece m a b p) n
    time_sent d h t = cut_sent time_of one (weights t.u) (weights t.u) p.first n (h (back p d t))

    pub time_back : TimeIs (sent_piece m a b p) n → TimeIs p n
    time_back h t = cut_back time_of one (weights t.u) (weights t.u) p.first n (h (there p t))

    module _ (counts : ℕ → Bool) where
      pub first_sent : det m ≢ pos 0 → FirstShareIs p counts n → FirstShareIs (sent_piece m a b p) counts n
      first_sent d h t =
          cut_sent one one (weights (only counts t.u)) (weights t.u) p.first n (h (back p d t))

      pub first_back : FirstShareIs (sent_piece m a b p) counts n → FirstShareIs p counts n
      first_back h t =
          cut_back one one (weights (only counts t.u)) (weights t.u) p.first n (h (there p t))

      pub second_sent : det m ≢ pos 0 → SecondShareIs p counts n → SecondShareIs (sent_piece m a b p) counts n
      second_sent d h t =
          cut_sent one one (weights (only counts t.v)) (weights t.v) p.second n (h (back p d t))

      pub second_back : SecondShareIs (sent_piece m a b p) counts n → SecondShareIs p counts n
      second_back h t =
          cut_back one one (weights (only counts t.v)) (weights t.v) p.second n (h (there p t))
