-- The verdict that code computes is the piece's, for each of the seven pieces: a moving point against the three pieces of a moving
-- triangle, and the two pieces of a moving edge against the two of another.
use Rattle.std.specs.Prelude.{◌≡◌, ℕ, zero, suc, ℤ, pos, ◌-ℤ◌, ◌≤ℤ◌}
use Rattle.std.specs.Int.Signed.{le_z_yes}
use Rattle.whole.specs.Vector.{Vector, minus}
use Rattle.whole.specs.Cramer.{Four}
use Rattle.meaning.specs.Pieces.{Event}
use Rattle.theory.specs.Differences.{difference, differences, difference_start, difference_end, at_start, at_end}
use Rattle.theory.specs.Judged.{Timely}

-- an event at the start or at the end, and its difference
pub record Seen (p q : Vector) (e : Event) (d : Vector) : Type 0 where
  pub differs : difference p q e ≡ d
  pub from_start : pos 0 ≤ℤ e.time
  pub to_end : pos 0 ≤ℤ (pos 1 -ℤ e.time)

pub start : {p q a : Vector} → Seen p q (at_start a) (minus a p)
start {p} {q} {a} = record { differs = difference_start p q a; from_start = le_z_yes tt; to_end = le_z_yes tt }

pub end : {p q a : Vector} → Seen p q (at_end a) (minus a q)
end {p} {q} {a} = record { differs = difference_end p q a; from_start = le_z_yes tt; to_end = le_z_yes tt }

module _ (p q : Vector) (o : Four Event) (d : Four Vector) (a0 : Seen p q o.v0 d.v0) (a1 : Seen p q o.v1 d.v1) (a2 : Seen p q o.v2 d.v2) (a3 : Seen p q o.v3 d.v3) where
  pub seen_differences : differences p q o ≡ d
  seen_differences = λ i. record { v0 = a0.differs i; v1 = a1.differs i; v2 = a2.differs i; v3 = a3.differs i }

  pub seen_timely : Timely o
  seen_timely = record {
    from_start = record { k0 = a0.from_start; k1 = a1.from_start; k2 = a2.from_start; k3 = a3.from_start };
    to_end = record { k0 = a0.to_end; k1 = a1.to_end; k2 = a2.to_end; k3 = a3.to_end };
  }

-- the times of the four others of edge pieces i and j
abbrev pub edge_times : ℕ → ℕ → Four ℤ
edge_times zero zero = record { v0 = pos 0; v1 = pos 0; v2 = pos 0; v3 = pos 1 }
edge_times zero (suc j) = record { v0 = pos 0; v1 = pos 0; v2 = pos 1; v3 = pos 1 }
edge_times (suc i) zero = record { v0 = pos 1; v1 = pos 0; v2 = pos 0; v3 = pos 1 }
edge_times (suc i) (suc j) = record { v0 = pos 1; v1 = pos 0; v2 = pos 1; v3 = pos 1 }
