-- Parts by a lent order: the place k of a tree has the part to which the order leads from k, and part k itself where no order is lent.
use Rattle.std.specs.Prelude.{ℕ, ◌<◌, List, ◌≢◌, ◌≡◌, eqb, length}
use Rattle.std.proofs.Common.{arith, eq-eqb, ne_eqb, eqb-true}
use Rattle.std.proofs.lemmas.Bool.{eqb-false}
use Rattle.sequences.specs.Pick.{pick}
use Rattle.answers.specs.Answering.{holds_or_not}
use Rattle.mesh_orders.specs.Orders.{at, Order}

abbrev pub part_of : List ℕ → ℕ → ℕ
part_of o k = pick (eqb (length o) 0) k (at o k)

-- what is lent as an order of n parts is one, or empty
pub record OrderLent (n : ℕ) (o : List ℕ) : Type 0 where
  pub order : length o ≢ 0 → Order n o

module _ (o : List ℕ) (k : ℕ) where
  pub part_itself : length o ≡ 0 → part_of o k ≡ k
  part_itself h = rw (eq-eqb (length o) 0 h)

  pub part_led : length o ≢ 0 → part_of o k ≡ at o k
  part_led h = rw (ne_eqb (length o) 0 h)

-- an order is as long as there are parts
pub led_inside : {n : ℕ} {o : List ℕ} → OrderLent n o → (k : ℕ) → k < n → length o ≢ 0 → k < length o
led_inside lent k h some = omega (arith, (lent.order some).whole)

pub part_inside : {n : ℕ} {o : List ℕ} → OrderLent n o → (k : ℕ) → k < n → part_of o k < n
part_inside {n} {o} lent k h =
    holds_or_not (eqb (length o) 0)
    (λ none. omega (arith, part_itself o k (eqb-true (length o) 0 none)))
    (λ some. let there = eqb-false (length o) 0 some in omega (arith, part_led o k there, (lent.order there).out.inside k h))

-- no order is one that leads from each place to itself
pub none_lent : (n : ℕ) (o : List ℕ) → length o ≡ 0 → OrderLent n o
none_lent n o h = record { order = λ some. absurd (some h) }
