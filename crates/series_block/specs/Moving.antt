-- What the code of one next end promises: the positions after it, and 13, 2 and 15 of its line.
use Rattle.std.specs.Prelude.{Result, Ok, Err, ℕ, ◌+◌, ◌*◌, ◌/◌, ◌≤◌, ◌<◌, Bool, true, false, cond, ◌||◌, ◌&&◌, List, [], ◌∷◌, ◌++◌, ◌≡◌, leb, ltb, ℤ, pos, length, get_or, set, replicate}
use Rattle.std.proofs.Math.Path.{refl}
use Rattle.std.proofs.Common.{ap, ◌∙◌, subst, arith, ltb-false, leb-false, get_or-set_other}
use Rattle.sequences.specs.Wrote.{Wrote, wrote_three, patched, wrote_is, wrote_then, wrote_patched}
use Rattle.answers.specs.Answering.{refuses, lets_pass, gives}
use Rattle.answers.specs.Below.{or_left, or_rest}
use Rattle.meaning.specs.Limits.{coordinate_limit, vertex_limit}
use Rattle.meaning.specs.Scene.{broken_seam}
use Rattle.meaning.specs.Refusals.{Outcome, given, refused, Check, Answers}
use Rattle.scene_seams.specs.Sewing.{seams_alone, Sewable}
use Rattle.text_record.specs.Putting.{point_from, Near}
use Rattle.series_block.specs.declared.BlockFault.{BlockFault}
use Rattle.series_block.specs.declared.BlockFault.TheVariants.{Form, Late, Length, Far, Apart}

abbrev pub three_at : List ℤ → ℕ → List ℤ
three_at p i = get_or p i (pos 0) ∷ get_or p (i + 1) (pos 0) ∷ get_or p (i + 2) (pos 0) ∷ []

-- vertex v has gone on to the numbers in front of the buffers
abbrev pub moved_on : List ℤ → ℕ → List ℕ → List Bool → List ℤ
moved_on p v sizes minus = patched p (6 * v) (three_at p (6 * v + 3) ++ point_from sizes minus 0)

abbrev pub far_three : List ℕ → Bool
far_three l =
    ltb coordinate_limit (get_or l 0 0) || ltb coordinate_limit (get_or l 1 0) || ltb coordinate_limit (get_or l 2 0)

abbrev pub wrong_here : Bool → ℕ → ℕ → Bool
wrong_here last vertices k = leb vertices k || last && ltb (k + 1) vertices

abbrev pub last_here : List ℤ → List ℕ → ℕ → Bool
last_here p w k = cond (leb (length p / 6) (k + 1)) (broken_seam (seams_alone p w)) false

-- what the line's own checks say, of the positions before it and after it
abbrev pub end_checks : Bool → ℕ → List ℕ → List ℕ → List ℤ → List ℤ → List Check
end_checks last k w sizes p p' =
    record { number = 13; holds = wrong_here last (length p / 6) k; carries = 0 }
    ∷ record { number = 2; holds = far_three sizes; carries = 0 }
    ∷ record { number = 15; holds = last_here p' w k; carries = 0 }
    ∷ []

unfoldable pub fault_number : BlockFault → ℕ
fault_number Form = 9
fault_number Late = 10
fault_number Length = 13
fault_number Far = 2
fault_number Apart = 15

unfoldable pub end_says : Result (Unit {0}) BlockFault → Outcome (Unit {0})
end_says (Ok t) = given tt
end_says (Err f) = refused (fault_number f) 0

pub record EndReady (k : ℕ) (p : List ℤ) (w sizes : List ℕ) (minus : List Bool) : Type 0 where
  pub within : k ≤ length p / 6
  pub even : length p ≡ 6 * (length p / 6)
  pub sewable : Sewable p w (replicate vertex_limit 0)
  pub sized : 3 ≤ length sizes
  pub signed : 3 ≤ length minus

-- the positions move only where neither 13 nor 2 refuses
pub record EndIs (last : Bool) (k : ℕ) (w sizes : List ℕ) (minus : List Bool) (p p' : List ℤ) (r : Result (Unit {0}) BlockFault) : Type 0 where
  pub answer : Answers (end_checks last k w sizes p (moved_on p k sizes minus)) (λ t. Unit {0}) (end_says r)
  pub left : p' ≡ cond (wrong_here last (length p / 6) k || far_three sizes) p (moved_on p k sizes minus)

-- ---- the laws

-- three stores side by side, each of the number three places on
pub three_stored : (o : List ℤ) (n : ℕ) (a b c : ℤ) → a ≡ get_or o (n + 3) (pos 0) → b ≡ get_or (set o n a) (n + 4) (pos 0)
    → c ≡ get_or (set (set o n a) (n + 1) b) (n + 5) (pos 0)
    → n + 6 ≤ length o
    → Wrote o n (three_at o (n + 3)) (set (set (set o n a) (n + 1) b) (n + 2) c) (n + 3)
three_stored o n a b c first second third h =
    let four : n + 4 ≡ n + 3 + 1 = omega arith in
    let five : n + 5 ≡ n + 3 + 2 = omega arith in
    let b_is : b ≡ get_or o (n + 3 + 1) (pos 0) =
    second ∙ get_or-set_other o n (n + 4) a (pos 0) (λ e. omega arith) ∙ ap (λ (i : ℕ). get_or o i (pos 0)) four in
    let c_is : c ≡ get_or o (n + 3 + 2) (pos 0) =
    third
    ∙ get_or-set_other (set o n a) (n + 1) (n + 5) b (pos 0) (λ e. omega arith)
    ∙ get_or-set_other o n (n + 5) a (pos 0) (λ e. omega arith)
    ∙ ap (λ (i : ℕ). get_or o i (pos 0)) five in
    subst (λ (l : List ℤ). Wrote o n l (set (set (set o n a) (n + 1) b) (n + 2) c) (n + 3)) (λ i. first i ∷ b_is i ∷ c_is i ∷ [])
    (wrote_three o n a b c (omega arith))

pub moved_by : {o o' o'' : List ℤ} (v : ℕ) (sizes : List ℕ) (minus : List Bool) → Wrote o (6 * v) (three_at o (6 * v + 3)) o' (6 * v + 3)
    → Wrote o' (6 * v + 3) (point_from sizes minus 0) o'' (6 * v + 3 + 3) → o'' ≡ moved_on o v sizes minus
moved_by v sizes minus a b = wrote_is (wrote_then a b)

module _ (last : Bool) (k : ℕ) (w sizes : List ℕ) (minus : List Bool) (p : List ℤ) where
  pub end_wrong : wrong_here last (length p / 6) k ≡ true → EndIs last k w sizes minus p p (Err Length)
  unfolding end_says fault_number
  end_wrong h = record { answer = refuses (λ t. Unit {0}) _ _ (refused 13 0) h refl; left = rw h refl }

  pub end_far : wrong_here last (length p / 6) k ≡ false → far_three sizes ≡ true → EndIs last k w sizes minus p p (Err Far)
  unfolding end_says fault_number
  end_far h far = record {
    answer = lets_pass (λ t. Unit {0}) _ _ (refused 2 0) h (refuses (λ t. Unit {0}) _ _ (refused 2 0) far refl);
    left = rw (h, far) refl;
  }

  module _ {p' : List ℤ} (h : wrong_here last (length p / 6) k ≡ false) (near : far_three sizes ≡ false) (e : p' ≡ moved_on p k sizes minus) where
    pub end_apart : last_here p' w k ≡ true → EndIs last k w sizes minus p p' (Err Apart)
    unfolding end_says fault_number
    end_apart apart = record {
      answer = lets_pass (λ t. Unit {0}) _ _ (refused 15 0) h
          (lets_pass (λ t. Unit {0}) _ _ (refused 15 0) near (refuses (λ t. Unit {0}) _ _ (refused 15 0) (rw e at apart) refl));
      left = rw (h, near) e;
    }

    pub end_good : last_here p' w k ≡ false → EndIs last k w sizes minus p p' (Ok tt)
    unfolding end_says
    end_good together = record {
      answer = lets_pass (λ t. Unit {0}) _ _ (given tt) h
          (lets_pass (λ t. Unit {0}) _ _ (given tt) near (lets_pass (λ t. Unit {0}) _ _ (given tt) (rw e at together) (gives (λ t. Unit {0}) tt tt)));
      left = rw (h, near) e;
    }

near_three : (sizes : List ℕ) → far_three sizes ≡ false → Near sizes 0
near_three sizes h =
    record {
      first = ltb-false _ _ (search (or_left, or_rest));
      second = ltb-false _ _ (search (or_left, or_rest));
      third = ltb-false _ _ (search (or_left, or_rest));
    }

-- the vertex has its place, and its numbers fit
pub end_moves : (last : Bool) (k : ℕ) {p : List ℤ} {w sizes : List ℕ} {minus : List Bool} → EndReady k p w sizes minus
    → wrong_here last (length p / 6) k ≡ false → far_three sizes ≡ false
    → (6 * k + 6 ≤ length p) × (3 ≤ length sizes) × (3 ≤ length minus) × Near sizes 0
end_moves last k {p} {w} {sizes} r h near =
    let below : k < length p / 6 = leb-false (length p / 6) k (or_left (leb (length p / 6) k) (last && ltb (k + 1) (length p / 6)) h) in
    (omega (arith, r.even), r.sized, r.signed, near_three sizes near)

-- seams are asked of the positions after it, which are as many
moved_length : (p : List ℤ) (k : ℕ) (sizes : List ℕ) (minus : List Bool) → 6 * k + 6 ≤ length p → length (moved_on p k sizes minus) ≡ length p
moved_length p k sizes minus h = (wrote_patched p (6 * k) (three_at p (6 * k + 3) ++ point_from sizes minus 0) h).same

pub sewable_as_long : {p p' : List ℤ} {w t : List ℕ} → length p' ≡ length p → Sewable p w t → Sewable p' w t
sewable_as_long {p} {p'} {w} e s = record {
  blank = s.blank;
  even = s.even;
  few = rw e s.few;
  inside = λ i h. rw e (s.inside i h);
}

pub end_sewable : (k : ℕ) {p p' : List ℤ} {w sizes : List ℕ} {minus : List Bool} → EndReady k p w sizes minus → 6 * k + 6 ≤ length p
    → p' ≡ moved_on p k sizes minus
    → Sewable p' w (replicate vertex_limit 0) × (k ≤ vertex_limit)
end_sewable k {p} {p'} {w} {sizes} {minus} r room e =
    let same : length p' ≡ length p = ap length e ∙ moved_length p k sizes minus room in
    (sewable_as_long same r.sewable, omega (arith, r.within, r.sewable.few))
