-- The four signed volumes of a piece from places in the positions, and as the machine holds them.
use Rattle.std.specs.Prelude.{◌≡◌, List, ℕ, ℤ, pos, neg_ℤ, ◌-ℤ◌}
use Rattle.std.proofs.Math.IntN.{+ℤ_idl}
use Rattle.std.specs.Int.{w64}
use Rattle.whole.specs.Cramer.{Four, volumes}
use Rattle.whole.specs.Sizes.{Is, is_self, is_neg, held}
use Rattle.whole.proofs.Sizes.{back}
use Rattle.exact.specs.Limits.{determinant_limit}
use Rattle.exact.specs.Places.{Room, apart}
use Rattle.exact.specs.declared.Volumes.{Volumes}

abbrev pub four : {A : Type 0} → A → A → A → A → Four A
four a b c d = record { v0 = a; v1 = b; v2 = c; v3 = d }

-- the signed volumes of the four places at the offsets o, each seen from the place at its base in b
abbrev pub volumes_at : List ℤ → Four ℕ → Four ℕ → Four ℤ
volumes_at ps o b =
    volumes
    (four (apart ps o.v0 b.v0) (apart ps o.v1 b.v1) (apart ps o.v2 b.v2) (apart ps o.v3 b.v3))

pub record Rooms (ps : List ℤ) (o b : Four ℕ) : Type 0 where
  pub room0 : Room ps o.v0 b.v0
  pub room1 : Room ps o.v1 b.v1
  pub room2 : Room ps o.v2 b.v2
  pub room3 : Room ps o.v3 b.v3

-- the signs of four numbers in turn
abbrev pub in_turn : Four ℤ → Four ℤ
in_turn e = four e.v0 (neg_ℤ e.v1) e.v2 (neg_ℤ e.v3)

-- each no larger than a determinant
pub record SmallFour (e : Four ℤ) : Type 0 where
  pub small0 : Is determinant_limit e.v0 e.v0
  pub small1 : Is determinant_limit e.v1 e.v1
  pub small2 : Is determinant_limit e.v2 e.v2
  pub small3 : Is determinant_limit e.v3 e.v3

abbrev pub four_of : Volumes → Four ℤ
four_of v = four v.e0 v.e1 v.e2 v.e3

-- v holds the numbers e, each no larger than a determinant
pub record Holds (v : Volumes) (e : Four ℤ) : Type 0 where
  pub is0 : Is determinant_limit v.e0 e.v0
  pub is1 : Is determinant_limit v.e1 e.v1
  pub is2 : Is determinant_limit v.e2 e.v2
  pub is3 : Is determinant_limit v.e3 e.v3

abbrev pub Small : Volumes → Type 0
Small v = Holds v (four_of v)

module _ {v : Volumes} {e : Four ℤ} (h : Holds v e) where
  pub holds_small : Small v
  holds_small =
      record { is0 = is_self h.is0; is1 = is_self h.is1; is2 = is_self h.is2; is3 = is_self h.is3 }

  pub holds_same : four_of v ≡ e
  holds_same = rw (h.is0.same, h.is1.same, h.is2.same, h.is3.same)

-- a volume that the machine turned round
pub turned : {u z : ℤ} → Is determinant_limit u z → Is determinant_limit (pos 0 -ℤ held w64 u) (neg_ℤ z)
turned h = rw +ℤ_idl (is_neg (back w64 h tt))

-- four volumes as their locals hold them
module _ {u0 u1 u2 u3 z0 z1 z2 z3 : ℤ} (p : Is determinant_limit u0 z0) (q : Is determinant_limit u1 z1) (r : Is determinant_limit u2 z2) (s : Is determinant_limit u3 z3) where
  pub held_small : SmallFour (four (held w64 u0) (held w64 u1) (held w64 u2) (held w64 u3))
  held_small =
      record {
        small0 = is_self (back w64 p tt);
        small1 = is_self (back w64 q tt);
        small2 = is_self (back w64 r tt);
        small3 = is_self (back w64 s tt);
      }

  pub held_in_turn : {v : Volumes} → Holds v (in_turn (four (held w64 u0) (held w64 u1) (held w64 u2) (held w64 u3))) → Holds v (in_turn (four z0 z1 z2 z3))
  held_in_turn h = rw ((back w64 p tt).same, (back w64 q tt).same, (back w64 r tt).same, (back w64 s tt).same) at h
