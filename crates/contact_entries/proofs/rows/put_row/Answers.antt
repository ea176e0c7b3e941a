-- Five stores side by side.
use Prim.Native.Nat.{ℕ, ◌<◌}
use native.Mathlib.Nat.{lt_trans}
use native.Mathlib.Omega.{arith}
use lib.Dec.{lit<}
use mir.Syntax.{w32}
use mir.Val.{Fits}
use lib.ListN.{length-set}
use Rattle.contact_entries.specs.Rows.{wrote_five}
use Rattle.contact_entries.proofs.rows.put_row.Goals as goal

pub returns : goal.returns
returns c =
    let start = c in
    let m = start.args.m in
    wrote_five _ start.args.at m.piece m.k m.first m.second m.third start.requires.0

small-fits : (n : ℕ) → n < 4 → Fits w32 n
small-fits n h = record { fits = lt_trans h (lit< tt) }

pub overflow_cast-contacts : goal.overflow_cast-contacts
overflow_cast-contacts c = small-fits c.args.m.piece c.requires.1

pub bounds-contacts-at : goal.bounds-contacts-at
bounds-contacts-at c = omega (arith, c.requires.0)

pub bounds-contacts-at-2 : goal.bounds-contacts-at-2
bounds-contacts-at-2 c = simp length-set (omega (arith, c.requires.0))

pub bounds-contacts-at-3 : goal.bounds-contacts-at-3
bounds-contacts-at-3 c = simp length-set (omega (arith, c.requires.0))

pub bounds-contacts-at-4 : goal.bounds-contacts-at-4
bounds-contacts-at-4 c = simp length-set (omega (arith, c.requires.0))

pub bounds-contacts-at-5 : goal.bounds-contacts-at-5
bounds-contacts-at-5 c = simp length-set (omega (arith, c.requires.0))
