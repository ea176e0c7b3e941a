-- A corner's place seen from the base of its time, as code takes it, is its difference, whichever corners are the bases.
use Rattle.std.specs.Prelude.{ℕ, ◌<◌, ◌≡◌, Bool, true, false, cond, List, ◌++◌, ℤ}
use Rattle.std.proofs.Common.{sym}
use Rattle.whole.specs.Vector.{minus}
use Rattle.whole.specs.Cramer.{Four, each, Place, p0, p1, p2, p3, pick}
use Rattle.meaning.specs.Pieces.{Event}
use Rattle.exact.specs.Places.{place_at}
use Rattle.exact_signs.specs.BySignsLaws.{clock}
use Rattle.theory.specs.Differences.{difference, difference_start, difference_end}
use Rattle.corner_laws.specs.Slots.{event_in, differences_in}
use Rattle.corner_leaf.specs.declared.SixPoints.{SixPoints}
use Rattle.corner_leaf.specs.Points.{offset, at_end, piece_at, six_at}
use Rattle.corner_leaf.specs.Answer.{seen_from}

module _ (ps : List ℤ) (six : SixPoints) (s e : ℕ) (h : s < 6) (k : e < 6) where
  abbrev events : List Event
  events = (piece_at ps six).first ++ (piece_at ps six).second

  seen : (i : ℕ) → i < 6 → seen_from ps six s e i ≡ difference (event_in events s).place (event_in events e).place (event_in events i)
  seen i l = rw (six_at ps six s h, six_at ps six e k, six_at ps six i l) (go (at_end six i))
    where
      go : (c : Bool) → minus (place_at ps (offset six i)) (place_at ps (offset six (cond c e s))) ≡ difference (place_at ps (offset six s)) (place_at ps (offset six e)) (record { place = place_at ps (offset six i); time = clock c })
      go true = sym (difference_end (place_at ps (offset six s)) (place_at ps (offset six e)) (place_at ps (offset six i)))
      go false = sym (difference_start (place_at ps (offset six s)) (place_at ps (offset six e)) (place_at ps (offset six i)))

  pub four_seen : (q : Four ℕ) → ((k : Place) → pick k q < 6) → each (seen_from ps six s e) q ≡ differences_in events s e q
  four_seen q l = λ i. record { v0 = seen q.v0 (l p0) i; v1 = seen q.v1 (l p1) i; v2 = seen q.v2 (l p2) i; v3 = seen q.v3 (l p3) i }
