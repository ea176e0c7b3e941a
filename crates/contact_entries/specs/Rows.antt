-- Rows of five numbers in a lent buffer, one for each pair, and a loop that puts them there.
use Rattle.std.specs.Prelude.{ℕ, ◌+◌, ◌*◌, ◌≤◌, ◌<◌, ◌≡◌, refl, List, [], ◌∷◌, ◌++◌, length, take, drop, set}
use Rattle.std.proofs.Common.{arith, add_assoc, sym, ap, ◌∙◌, append_assoc, length-set, length-take, length-drop, take-append-drop, take-add, drop-drop}
use Rattle.sequences.specs.Wrote.{Wrote, wrote_two, wrote_three, wrote_then}
use Rattle.sequences.specs.Parts.{drop_more}
use Rattle.meaning.specs.Scene.{Scene}
use Rattle.meaning.specs.Pieces.{piece_count}
use Rattle.meaning.specs.WholeContacts.{WholeContactIs, row_of, row_left, rows_left}
use Rattle.meaning.specs.declared.Kind.{Kind}
use Rattle.meaning.specs.declared.Kind.TheVariants.{PointTriangle, EdgeEdge}
use Rattle.meaning.specs.declared.ContactNumbers.{ContactNumbers}
use Rattle.meaning.specs.declared.WholeContact.{WholeContact}
use Rattle.meaning.specs.declared.WholeContact.TheVariants.{Hit, Miss, Touch, Apart}

-- the piece's number is one of a piece
unfoldable pub SmallContact : WholeContact → Type 0
SmallContact (Hit m) = m.piece < 4
SmallContact Miss = Unit {0}
SmallContact Touch = Unit {0}
SmallContact Apart = Unit {0}

count_small : (kind : Kind) → piece_count kind ≤ 4
unfolding piece_count
count_small PointTriangle = omega arith
count_small EdgeEdge = omega arith

pub whole_contact_small : (s : Scene) (kind : Kind) (i j : ℕ) (m : WholeContact) → WholeContactIs s kind i j m → SmallContact m
unfolding WholeContactIs SmallContact
whole_contact_small s kind i j (Hit m) h = omega (arith, h.there, count_small kind)
whole_contact_small s kind i j Miss h = tt
whole_contact_small s kind i j Touch h = tt
whole_contact_small s kind i j Apart h = tt

-- five stores side by side
pub wrote_five : (o : List ℕ) (n a b c d e : ℕ) → n + 5 ≤ length o
    → Wrote o n (a ∷ b ∷ c ∷ d ∷ e ∷ []) (set (set (set (set (set o n a) (n + 1) b) (n + 2) c) (n + 3) d) (n + 4) e) (n + 5)
wrote_five o n a b c d e h =
    rw (add_assoc n 3 1, add_assoc n 3 2) at
    (wrote_then (wrote_three o n a b c (omega arith)) (wrote_two (set (set (set o n a) (n + 1) b) (n + 2) c) (n + 3) d e (simp length-set (omega arith))))

-- what was not touched stands there
pub wrote_same : (o : List ℕ) (n : ℕ) → n + 5 ≤ length o → Wrote o n (take 5 (drop n o)) o (n + 5)
wrote_same o n h = record {
  front = take-add n 5 o;
  back = refl;
  place = simp (length-take, length-drop) (omega arith);
  same = refl;
}

module _ (m : WholeContact) (o : List ℕ) (n : ℕ) where
  pub wrote_hit : {h : ContactNumbers} {o' : List ℕ} → m ≡ Hit h → Wrote o n (row_of h) o' (n + 5) → Wrote o n (row_left m (take 5 (drop n o))) o' (n + 5)
  unfolding row_left
  wrote_hit e w = rw e w

  pub small_hit : {h : ContactNumbers} → m ≡ Hit h → SmallContact m → h.piece < 4
  unfolding SmallContact
  small_hit e s = rw e at s

-- ---- a loop over the rows

pub record RowsGoing (ms : List WholeContact) (o₀ o : List ℕ) (k : ℕ) : Type 0 where
  pub done : take (5 * k) o ++ rows_left (drop k ms) (drop (5 * k) o₀) ≡ rows_left ms o₀
  pub back : drop (5 * k) o ≡ drop (5 * k) o₀
  pub same : length o ≡ length o₀

pub rows_start : (ms : List WholeContact) (o : List ℕ) → RowsGoing ms o o 0
rows_start ms o = record { done = refl; back = refl; same = refl }

-- one row more: m is the next of the contacts
pub rows_step : (ms : List WholeContact) {o₀ o o' : List ℕ} {k : ℕ} (m : WholeContact) → drop k ms ≡ m ∷ drop (k + 1) ms → RowsGoing ms o₀ o k
    → Wrote o (5 * k) (row_left m (take 5 (drop (5 * k) o))) o' (5 * k + 5)
    → RowsGoing ms o₀ o' (k + 1)
unfolding rows_left
rows_step ms {o₀} {o} {o'} {k} m next g w =
    let five : 5 * (k + 1) ≡ 5 * k + 5 = omega arith in
    let row : List ℕ = row_left m (take 5 (drop (5 * k) o₀)) in
    let v : Wrote o (5 * k) row o' (5 * k + 5) = rw g.back at w in
    let rest : drop (5 * k + 5) o₀ ≡ drop 5 (drop (5 * k) o₀) = sym (drop-drop 5 (5 * k) o₀) in
    record {
      done = rw five (
          ap (λ (l : List ℕ). l ++ rows_left (drop (k + 1) ms) (drop (5 * k + 5) o₀)) v.front
          ∙ append_assoc (take (5 * k) o) row (rows_left (drop (k + 1) ms) (drop (5 * k + 5) o₀))
          ∙ ap (λ (l : List ℕ). take (5 * k) o ++ (row ++ rows_left (drop (k + 1) ms) l)) rest
          ∙ ap (λ (l : List WholeContact). take (5 * k) o ++ rows_left l (drop (5 * k) o₀)) (sym next)
          ∙ g.done);
      back = rw five (v.back ∙ drop_more (5 * k + 5) (5 * k) o o₀ (omega arith) g.back);
      same = v.same ∙ g.same;
    }

pub rows_end : (ms : List WholeContact) {o₀ o : List ℕ} {k : ℕ} → drop k ms ≡ [] → RowsGoing ms o₀ o k → o ≡ rows_left ms o₀
unfolding rows_left
rows_end ms {o₀} {o} {k} none g =
    sym (take-append-drop (5 * k) o)
    ∙ ap (λ (l : List ℕ). take (5 * k) o ++ l) g.back
    ∙ ap (λ (l : List WholeContact). take (5 * k) o ++ rows_left l (drop (5 * k) o₀)) (sym none)
    ∙ g.done
