-- 'The order in which the scene writes the ends of an edge or the corners of a triangle changes nothing', of texts: two texts that differ only in
-- that have the same report, and where they are at fault the same fault at the same line.
use Rattle.std.specs.Prelude.{ℕ, suc, ◌+◌, ◌*◌, ◌-◌, ◌/◌, ◌%◌, ◌≤◌, ◌<◌, false, ◌≡◌, refl, ℤ, pos, length, get_or}
use mathlib.Core.List.{List, [], ◌∷◌, ◌++◌, map, flat_map, append_assoc, append-nil, nil≢cons}
use Rattle.std.proofs.Common.{sym, ◌∙◌, ap, ap₂, arith, length-append, get_or-append-add}
use Rattle.std.proofs.Math.Path.{subst}
use Rattle.std.proofs.Math.ListN.{get_or-append}
use Rattle.std.proofs.Math.Decide.{dec_lt}
use Rattle.decimals.specs.Digits.{digits}
use Rattle.whole.specs.Vector.{Vector}
use Rattle.meaning.specs.Limits.{digit_limit}
use Rattle.meaning.specs.Scene.{Scene, uneven, over_size}
use Rattle.meaning.specs.Refusals.{given, refused, Check, Answers}
use Rattle.meaning.specs.List.{Pair, pairs}
use Rattle.meaning.specs.Text.{Entry, vertex, edge, triangle, seam, tab, line_feed, letter_of, numbers_of, numeral, further, line_of, Short, late, scene_with, entry_checks, EntryJudged, none, scene_lines, text_of, coordinates_in, ends_in, corners_in, seam_in, scene_from, Holds, SceneFault, SceneFaultyAt}
use Rattle.meaning.specs.Lines as Lines
use Rattle.meaning.specs.Lines.{after_all, unformed, misplaced}
use Rattle.meaning.specs.Report.{refused_line, pair_lines, total_line, ReportOf, too_long, faulty, no_room, judged, Reported}
use Rattle.theory.specs.Determinants.{Exchanged, front, behind}
use Rattle.theory.specs.Rearranged.{Rearranged, unmoved, moved, rearranged_back}
use Rattle.theory.specs.Rewritten.{Rewritten, rewritten_back}
use Rattle.text_laws.specs.Feed.{NoFeed, first_line, no_line}
use Rattle.text_line.specs.Rendered.{line_is, line_cancel, scene_bodies}
use Rattle.text_scene.specs.Accepted.{text_accepted}
use Rattle.demands.specs.StillAccepted.{every_rearranged, range_alike, known_in_whole, sewn_alike, repeated_alike}
use Rattle.demands.specs.AnyWriting.{rewritten_list, words_as_written}
use Rattle.demands.specs.Table.{at, neg}
use Rattle.demands.specs.Printed.{records, printed_report, printed_lines, printed_report_lem}

-- ---- what it is to differ only in that

-- two records of the same vertex or seam, or of the same edge or triangle with its ends or corners in any order
pub data SameRecord : Entry → Entry → Type 0 where
  same_vertex : (p q : Vector) → SameRecord (vertex p q) (vertex p q)
  any_ends : {a b c d : ℕ} → Rearranged (a ∷ b ∷ []) (c ∷ d ∷ []) → SameRecord (edge a b) (edge c d)
  any_corners : {a b c d e f : ℕ} → Rearranged (a ∷ b ∷ c ∷ []) (d ∷ e ∷ f ∷ []) → SameRecord (triangle a b c) (triangle d e f)
  same_seam : (i j : ℕ) → SameRecord (seam i j) (seam i j)

-- line by line the same bytes, or the lines of two such records; behind the last LF the same bytes
pub data DifferInOrder : List ℕ → List ℕ → Type 0 where
  rest : (l : List ℕ) → NoFeed l → DifferInOrder l l
  line : (l : List ℕ) → NoFeed l → {t t' : List ℕ} → DifferInOrder t t' → DifferInOrder (l ++ (line_feed ∷ t)) (l ++ (line_feed ∷ t'))
  entry : {r r' : Entry} → SameRecord r r' → {t t' : List ℕ} → DifferInOrder t t' → DifferInOrder (line_of r ++ t) (line_of r' ++ t')

pub same_back : {r r' : Entry} → SameRecord r r' → SameRecord r' r
same_back (same_vertex p q) = same_vertex p q
same_back (any_ends e) = any_ends (rearranged_back e)
same_back (any_corners e) = any_corners (rearranged_back e)
same_back (same_seam i j) = same_seam i j

pub differ_back : {t t' : List ℕ} → DifferInOrder t t' → DifferInOrder t' t
differ_back (rest l n) = rest l n
differ_back (line l n d) = line l n (differ_back d)
differ_back (entry s d) = entry (same_back s) (differ_back d)

-- ---- the scenes above, but for the order

-- the ends, two by two, and the corners, three by three
abbrev two : List ℕ → ℕ → List ℕ
two l j = get_or l (2 * j + 0) 0 ∷ get_or l (2 * j + 1) 0 ∷ []

abbrev three : List ℕ → ℕ → List ℕ
three l j = get_or l (3 * j + 0) 0 ∷ get_or l (3 * j + 1) 0 ∷ get_or l (3 * j + 2) 0 ∷ []

record Twos (k l : List ℕ) : Type 0 where
  long : length l ≡ length k
  each : (j : ℕ) → j < length k / 2 → Rearranged (two k j) (two l j)

record Threes (k l : List ℕ) : Type 0 where
  long : length l ≡ length k
  each : (j : ℕ) → j < length k / 3 → Rearranged (three k j) (three l j)

-- one behind the other
module _ (k l m n : List ℕ) where
  joint_long : length l ≡ length k → length n ≡ length m → length (l ++ n) ≡ length (k ++ m)
  joint_long p q = omega (arith, length-append l n, length-append k m)

  behind_at : (i j : ℕ) → j ≡ length k + i → get_or (k ++ m) j 0 ≡ get_or m i 0
  behind_at i j e = rw e (get_or-append-add k m i 0)

  other_behind_at : length l ≡ length k → (i j : ℕ) → j ≡ length k + i → get_or (l ++ n) j 0 ≡ get_or n i 0
  other_behind_at p i j e = let f : j ≡ length l + i = omega arith in rw f (get_or-append-add l n i 0)

  twos_joined : length k % 2 ≡ 0 → Twos k l → Twos m n → Twos (k ++ m) (l ++ n)
  twos_joined even p q = record { long = joint_long p.long q.long; each = λ j h. at j h (dec_lt j (length k / 2)) }
    where
      at : (j : ℕ) → j < length (k ++ m) / 2 → Dec (j < length k / 2) → Rearranged (two (k ++ m) j) (two (l ++ n) j)
      at j h (yes g) =
          rw (get_or-append k m 0 (2 * j + 0) (omega arith), get_or-append k m 0 (2 * j + 1) (omega arith), get_or-append l n 0 (2 * j + 0) (omega (arith, p.long)), get_or-append l n 0 (2 * j + 1) (omega (arith, p.long)))
          (p.each j g)
      at j h (no g) =
          let i = j - length k / 2 in
          rw (behind_at (2 * i + 0) (2 * j + 0) (omega arith), behind_at (2 * i + 1) (2 * j + 1) (omega arith), other_behind_at p.long (2 * i + 0) (2 * j + 0) (omega arith), other_behind_at p.long (2 * i + 1) (2 * j + 1) (omega arith))
          (q.each i (omega (arith, length-append k m)))

  threes_joined : length k % 3 ≡ 0 → Threes k l → Threes m n → Threes (k ++ m) (l ++ n)
  threes_joined even p q = record { long = joint_long p.long q.long; each = λ j h. at j h (dec_lt j (length k / 3)) }
    where
      at : (j : ℕ) → j < length (k ++ m) / 3 → Dec (j < length k / 3) → Rearranged (three (k ++ m) j) (three (l ++ n) j)
      at j h (yes g) =
          rw (get_or-append k m 0 (3 * j + 0) (omega arith), get_or-append k m 0 (3 * j + 1) (omega arith), get_or-append k m 0 (3 * j + 2) (omega arith), get_or-append l n 0 (3 * j + 0) (omega (arith, p.long)), get_or-append l n 0 (3 * j + 1) (omega (arith, p.long)), get_or-append l n 0 (3 * j + 2) (omega (arith, p.long)))
          (p.each j g)
      at j h (no g) =
          let i = j - length k / 3 in
          rw (behind_at (3 * i + 0) (3 * j + 0) (omega arith), behind_at (3 * i + 1) (3 * j + 1) (omega arith), behind_at (3 * i + 2) (3 * j + 2) (omega arith), other_behind_at p.long (3 * i + 0) (3 * j + 0) (omega arith), other_behind_at p.long (3 * i + 1) (3 * j + 1) (omega arith), other_behind_at p.long (3 * i + 2) (3 * j + 2) (omega arith))
          (q.each i (omega (arith, length-append k m)))

-- the numbers of such records are so
same_coordinates : {r r' : Entry} → SameRecord r r' → coordinates_in r' ≡ coordinates_in r
unfolding coordinates_in
same_coordinates (same_vertex p q) = refl
same_coordinates (any_ends e) = refl
same_coordinates (any_corners e) = refl
same_coordinates (same_seam i j) = refl

same_seam_lem : {r r' : Entry} → SameRecord r r' → seam_in r' ≡ seam_in r
unfolding seam_in
same_seam_lem (same_vertex p q) = refl
same_seam_lem (any_ends e) = refl
same_seam_lem (any_corners e) = refl
same_seam_lem (same_seam i j) = refl

no_twos : Twos [] []
no_twos = record { long = refl; each = λ j h. unmoved }

no_threes : Threes [] []
no_threes = record { long = refl; each = λ j h. unmoved }

same_ends : {r r' : Entry} → SameRecord r r' → Twos (ends_in r) (ends_in r')
unfolding ends_in
same_ends (same_vertex p q) = no_twos
same_ends (any_ends e) = record { long = refl; each = λ j h. let first : j ≡ 0 = omega arith in rw first e }
same_ends (any_corners e) = no_twos
same_ends (same_seam i j) = no_twos

same_corners : {r r' : Entry} → SameRecord r r' → Threes (corners_in r) (corners_in r')
unfolding corners_in
same_corners (same_vertex p q) = no_threes
same_corners (any_ends e) = no_threes
same_corners (any_corners e) = record { long = refl; each = λ j h. let first : j ≡ 0 = omega arith in rw first e }
same_corners (same_seam i j) = no_threes

-- how many numbers a record has of each kind: of each list none, or those of one more
record Evenly (r : Entry) : Type 0 where
  six : length (coordinates_in r) % 6 ≡ 0
  twos : length (ends_in r) % 2 ≡ 0
  threes : length (corners_in r) % 3 ≡ 0
  sewn : length (seam_in r) % 2 ≡ 0

evenly : (r : Entry) → Evenly r
unfolding coordinates_in ends_in corners_in seam_in
evenly (vertex p q) = record { six = refl; twos = refl; threes = refl; sewn = refl }
evenly (edge a b) = record { six = refl; twos = refl; threes = refl; sewn = refl }
evenly (triangle a b c) = record { six = refl; twos = refl; threes = refl; sewn = refl }
evenly (seam i j) = record { six = refl; twos = refl; threes = refl; sewn = refl }

-- two scenes that are the same but for the order, of whole vertices, edges, triangles and seams
record Reordered (s t : Scene) : Type 0 where
  rewritten : Rewritten s t
  six : length s.positions % 6 ≡ 0
  twos : length s.edges % 2 ≡ 0
  threes : length s.triangles % 3 ≡ 0
  sewn : length s.seams % 2 ≡ 0

reordered_whole : {s t : Scene} → Reordered s t → uneven s ≡ false
reordered_whole h = rw (h.six, h.twos, h.threes, h.sewn) refl

reordered_none : Reordered none none
reordered_none = record {
  rewritten = record { positions = refl; seams = refl; edges_long = refl; triangles_long = refl; edges = λ j h. unmoved; triangles = λ j h. unmoved };
  six = refl;
  twos = refl;
  threes = refl;
  sewn = refl;
}

-- one record more
reordered_with : {s t : Scene} {r r' : Entry} → Reordered s t → SameRecord r r' → Reordered (scene_with s r) (scene_with t r')
reordered_with {s} {t} {r} {r'} h e =
    let w = h.rewritten in
    let ends = twos_joined s.edges t.edges (ends_in r) (ends_in r') h.twos (record { long = w.edges_long; each = w.edges }) (same_ends e) in
    let corners = threes_joined s.triangles t.triangles (corners_in r) (corners_in r') h.threes (record { long = w.triangles_long; each = w.triangles }) (same_corners e) in
    record {
      rewritten = record {
        positions = ap₂ (λ (k l : List ℤ). k ++ l) w.positions (same_coordinates e);
        seams = ap₂ (λ (k l : List ℕ). k ++ l) w.seams (same_seam_lem e);
        edges_long = ends.long;
        triangles_long = corners.long;
        edges = ends.each;
        triangles = corners.each;
      };
      six = omega (arith, h.six, (evenly r).six, length-append s.positions (coordinates_in r));
      twos = omega (arith, h.twos, (evenly r).twos, length-append s.edges (ends_in r));
      threes = omega (arith, h.threes, (evenly r).threes, length-append s.triangles (corners_in r));
      sewn = omega (arith, h.sewn, (evenly r).sewn, length-append s.seams (seam_in r));
    }

-- ---- such records are at fault alike

same_late : {s t : Scene} {r r' : Entry} → Rewritten s t → SameRecord r r' → late s r ≡ late t r'
unfolding late
same_late w (same_vertex p q) = rw (w.edges_long, w.triangles_long, w.seams) refl
same_late w (any_ends r) = rw (w.triangles_long, w.seams) refl
same_late w (any_corners r) = rw w.seams refl
same_late w (same_seam i j) = refl

same_size : {s t : Scene} → Rewritten s t → over_size t ≡ over_size s
same_size w = rw (w.positions, w.edges_long, w.triangles_long, w.seams)

same_checks : {s t : Scene} {r r' : Entry} → Reordered s t → SameRecord r r' → entry_checks s r ≡ entry_checks t r'
same_checks {s} {t} {r} {r'} h e =
    let x = reordered_with h e in
    let w = x.rewritten in
    λ i.
    record { number = 10; holds = same_late h.rewritten e i; carries = 0 }
    ∷ record { number = 11; holds = sym (same_size w) i; carries = 0 }
    ∷ record { number = 2; holds = sym (range_alike w) i; carries = 0 }
    ∷ record { number = 3; holds = sym (known_in_whole w (reordered_whole x)) i; carries = 0 }
    ∷ record { number = 15; holds = sym (sewn_alike w) i; carries = 0 }
    ∷ record { number = 4; holds = sym (repeated_alike w) i; carries = 0 }
    ∷ []

same_short : {r r' : Entry} → SameRecord r r' → Short digit_limit (numbers_of r) → Short digit_limit (numbers_of r')
unfolding Short numbers_of
same_short (same_vertex p q) h = h
same_short (any_ends r) h = every_rearranged (λ (n : ℕ). length (digits n) ≤ digit_limit) r h
same_short (any_corners r) h = every_rearranged (λ (n : ℕ). length (digits n) ≤ digit_limit) r h
same_short (same_seam i j) h = h

-- ---- and so are the texts, line by line

-- records without fault, and what is left below them: E says what that is
record Goes (E : Scene → List ℕ → Type 0) (s : Scene) (text : List ℕ) (above : List Entry) : Type 0 where
  below : List ℕ
  sound : Lines.Sound scene_lines s above below
  lines : text ≡ text_of above ++ below
  ends : E (after_all scene_lines s above) below

unfoldable SameRecords : List Entry → List Entry → Type 0
SameRecords [] [] = Unit {0}
SameRecords [] (q ∷ qs) = ⊥
SameRecords (r ∷ rs) [] = ⊥
SameRecords (r ∷ rs) (q ∷ qs) = SameRecord r q × SameRecords rs qs

itself : (r : Entry) → SameRecord r r
itself (vertex p q) = same_vertex p q
itself (edge a b) = any_ends unmoved
itself (triangle a b c) = any_corners unmoved
itself (seam i j) = same_seam i j

record GoesAlike (E : Scene → List ℕ → Type 0) (s s' : Scene) (text : List ℕ) (above : List Entry) : Type 0 where
  other : List Entry
  alike : SameRecords above other
  scenes : Reordered (after_all scene_lines s above) (after_all scene_lines s' other)
  goes : Goes E s' text other

-- one record more in front
more : {E : Scene → List ℕ → Type 0} (s s' : Scene) {t : List ℕ} {r r' : Entry} {rs : List Entry} → SameRecord r r'
    → Short digit_limit (numbers_of r') → EntryJudged s' r' (given tt) → GoesAlike E (scene_with s r) (scene_with s' r') t rs
    → GoesAlike E s s' (line_of r' ++ t) (r ∷ rs)
unfolding SameRecords Lines.Sound after_all flat_map
more s s' {t} {r} {r'} {rs} e short good g = record {
  other = r' ∷ g.other;
  alike = (e, g.alike);
  scenes = g.scenes;
  goes = record {
    below = g.goes.below;
    sound = (short, good, g.goes.sound);
    lines = ap (λ (l : List ℕ). line_of r' ++ l) g.goes.lines ∙ sym (append_assoc (line_of r') (text_of g.other) g.goes.below);
    ends = g.goes.ends;
  };
}

-- the line as it is, where it is a record's
as_line : (l t : List ℕ) (r : Entry) → l ≡ scene_bodies.body r → l ++ (line_feed ∷ t) ≡ line_of r ++ t
as_line l t r e =
    ap (λ (k : List ℕ). k ++ (line_feed ∷ t)) e ∙ sym (append_assoc (scene_bodies.body r) (line_feed ∷ []) t)
    ∙ ap (λ (k : List ℕ). k ++ t) (sym (scene_bodies.ended r))

-- a record that is not at fault below the one scene is not below the other
still_good : {s s' : Scene} {r r' : Entry} → Reordered s s' → SameRecord r r' → EntryJudged s r (given tt) → EntryJudged s' r' (given tt)
still_good h e = subst (λ (ks : List Check). Answers ks (λ u. Unit {0}) (given tt)) (same_checks h e)

still_bad : (n : ℕ) {s s' : Scene} {r r' : Entry} → Reordered s s' → SameRecord r r' → EntryJudged s r (refused n 0) → EntryJudged s' r' (refused n 0)
still_bad n h e = subst (λ (ks : List Check). Answers {A = Unit {0}} ks (λ u. Unit {0}) (refused n 0)) (same_checks h e)

module _ (E : Scene → List ℕ → Type 0) (ends-alike : (s s' : Scene) (t t' : List ℕ) → Reordered s s' → DifferInOrder t t' → E s t → E s' t') where
  goes_alike : (s s' : Scene) → Reordered s s' → {t t' : List ℕ} (above : List Entry) → DifferInOrder t t' → Goes E s t above → GoesAlike E s s' t' above
  unfolding SameRecords Lines.Sound after_all flat_map
  goes_alike s s' h {t} {t'} [] d g = record {
    other = [];
    alike = tt;
    scenes = h;
    goes = record { below = t'; sound = tt; lines = refl; ends = ends-alike s s' t t' h d (subst (E s) (sym g.lines) g.ends) };
  }
  goes_alike s s' h (r ∷ rs) (rest l n) g = absurd (no_line scene_bodies l (text_of rs ++ g.below) r n (g.lines ∙ append_assoc (line_of r) (text_of rs) g.below))
  goes_alike s s' h (r ∷ rs) (line l n {t} {t'} d) g =
      let (is, left) = first_line scene_bodies {s = s} l t (text_of rs ++ g.below) r g.sound.0 n (g.lines ∙ append_assoc (line_of r) (text_of rs) g.below) in
      subst (λ (k : List ℕ). GoesAlike E s s' k (r ∷ rs)) (sym (as_line l t' r is))
      (more s s' (itself r) g.sound.0 (still_good h (itself r) g.sound.1)
      (goes_alike (scene_with s r) (scene_with s' r) (reordered_with h (itself r)) rs d (record { below = g.below; sound = g.sound.2; lines = left; ends = g.ends })))
  goes_alike s s' h (r ∷ rs) (entry {r = q} {r' = q'} e {t} {t'} d) g =
      let (is, left) = line_cancel q r t (text_of rs ++ g.below) (g.lines ∙ append_assoc (line_of r) (text_of rs) g.below) in
      let e' : SameRecord r q' = subst (λ (k : Entry). SameRecord k q') is e in
      more s s' e' (same_short e' g.sound.0) (still_good h e' g.sound.1)
      (goes_alike (scene_with s r) (scene_with s' q') (reordered_with h e') rs d (record { below = g.below; sound = g.sound.2; lines = left; ends = g.ends }))

-- at the end of the one the other ends too
end_alike : {t t' : List ℕ} → DifferInOrder t t' → t ≡ [] → t' ≡ []
end_alike (rest l n) e = e
end_alike (line l n {t} d) e = absurd (no_end l t e)
  where
    no_end : (l t : List ℕ) → l ++ (line_feed ∷ t) ≡ [] → ⊥
    no_end [] t e = nil≢cons (sym e)
    no_end (b ∷ l) t e = nil≢cons (sym e)
end_alike (entry {r} s {t} d) e = absurd (nil≢cons (sym e ∙ line_is r t))

-- a fault at the front of the one is the other's
fault_alike : {n : ℕ} {s s' : Scene} {t t' : List ℕ} → Reordered s s' → DifferInOrder t t' → SceneFault s t n → SceneFault s' t' n
fault_alike h (rest l n) (unformed e some never) = unformed e some never
fault_alike {n = m} h (rest l n) (misplaced r left short is j) = misplaced r left short is (still_bad m h (itself r) j)
fault_alike {s = s} h (line l n {t} {t'} d) (unformed e some never) =
    unformed e (λ z. some (end_alike (differ_back (line l n d)) z))
    (λ r left short is.
    let (same, w) = first_line scene_bodies {s = s} l t' left r short n is in
    never r t short (as_line l t r same))
fault_alike {n = m} {s = s} h (line l n {t} {t'} d) (misplaced r left short is j) =
    let (same, w) = first_line scene_bodies {s = s} l t left r short n is in
    misplaced r t' short (as_line l t' r same) (still_bad m h (itself r) j)
fault_alike h (entry {r} {r'} e {t} {t'} d) (unformed q some never) =
    unformed q (λ z. some (end_alike (differ_back (entry e d)) z))
    (λ q left short is.
    let (same, w) = line_cancel r' q t' left is in
    never r t (same_short (same_back e) (subst (λ (k : Entry). Short digit_limit (numbers_of k)) (sym same) short)) refl)
fault_alike {n = m} h (entry {r} {r'} e {t} {t'} d) (misplaced q left short is j) =
    let (same, w) = line_cancel r q t left is in
    let e' : SameRecord q r' = subst (λ (k : Entry). SameRecord k r') same e in
    misplaced r' t' (same_short e' short) refl (still_bad m h e' j)

-- ---- the same fault at the same line

same_long : (rs qs : List Entry) → SameRecords rs qs → length rs ≡ length qs
unfolding SameRecords
same_long [] [] s = refl
same_long [] (q ∷ qs) s = absurd s
same_long (r ∷ rs) [] s = absurd s
same_long (r ∷ rs) (q ∷ qs) s = ap suc (same_long rs qs s.1)

pub faulty_alike : {t t' : List ℕ} {n k : ℕ} → DifferInOrder t t' → SceneFaultyAt t n k → SceneFaultyAt t' n k
faulty_alike {t} {t'} {n} d f =
    let a = goes_alike (λ s b. SceneFault s b n) (λ s s' t t'. fault_alike) none none reordered_none f.above d (record { below = f.below; sound = f.sound; lines = f.lines; ends = f.fault }) in
    record {
      above = a.other;
      below = a.goes.below;
      sound = a.goes.sound;
      lines = a.goes.lines;
      place = f.place ∙ ap (λ (m : ℕ). m + 1) (same_long f.above a.other a.alike);
      fault = a.goes.ends;
    }

-- ---- the same scene, but for the order

-- a text that is a scene is so in any order, and the scenes are the same but for it
pub record HoldsAlike (t : List ℕ) (s : Scene) : Type 0 where
  pub scene : Scene
  pub holds : Holds t scene
  pub rewritten : Rewritten s scene

pub holds_alike : {t t' : List ℕ} {s : Scene} → DifferInOrder t t' → Holds t s → HoldsAlike t' s
holds_alike {t} {t'} {s} d h =
    let a = goes_alike (λ s b. b ≡ []) (λ s s' t t' r. end_alike) none none reordered_none h.entries d
    (record { below = []; sound = h.records.sound; lines = h.records.lines ∙ sym (append-nil (text_of h.entries)); ends = refl }) in
    record {
      scene = scene_from a.other;
      holds = record {
        entries = a.other;
        records = record {
          sound = subst (Lines.Sound scene_lines none a.other) a.goes.ends a.goes.sound;
          lines = a.goes.lines ∙ ap (λ (l : List ℕ). text_of a.other ++ l) a.goes.ends ∙ append-nil (text_of a.other);
        };
        scene = refl;
      };
      rewritten = subst (λ (u : Scene). Rewritten u (scene_from a.other)) (sym h.scene) a.scenes.rewritten;
    }

-- ---- the same length

-- how long numbers are, each with a tab in front
unfoldable row_length : List ℕ → ℕ
row_length [] = 0
row_length (n ∷ l) = suc (length (digits n)) + row_length l

row_long : (l : List ℕ) → length (further tab (map digits l)) ≡ row_length l
unfolding further row_length
row_long [] = refl
row_long (n ∷ l) = omega (arith, length-append (digits n) (further tab (map digits l)), row_long l)

row_alike : {k l : List ℕ} → Rearranged k l → row_length k ≡ row_length l
unfolding row_length
row_alike unmoved = refl
row_alike (moved e r) = exchanged e ∙ row_alike r
  where
    exchanged : {k l : List ℕ} → Exchanged k l → row_length k ≡ row_length l
    exchanged front = omega arith
    exchanged (behind {a = n} e) = ap (λ (m : ℕ). suc (length (digits n)) + m) (exchanged e)

-- a letter, numbers in any order, and LF
any_line : (letter : ℕ) {k l : List ℕ} → Rearranged k l
    → length ((letter ∷ further tab (map digits k)) ++ (line_feed ∷ [])) ≡ length ((letter ∷ further tab (map digits l)) ++ (line_feed ∷ []))
any_line letter {k} {l} r =
    omega
    (arith, length-append (further tab (map digits k)) (line_feed ∷ []), length-append (further tab (map digits l)) (line_feed ∷ []), row_long k, row_long l, row_alike r)

line_long : {r r' : Entry} → SameRecord r r' → length (line_of r) ≡ length (line_of r')
unfolding line_of numbers_of numeral letter_of
line_long (same_vertex p q) = refl
line_long (any_ends e) = any_line 101 e
line_long (any_corners e) = any_line 116 e
line_long (same_seam i j) = refl

pub differ_long : {t t' : List ℕ} → DifferInOrder t t' → length t ≡ length t'
differ_long (rest l n) = refl
differ_long (line l n {t} {t'} d) = omega (arith, length-append l (line_feed ∷ t), length-append l (line_feed ∷ t'), differ_long d)
differ_long (entry {r} {r'} s {t} {t'} d) = omega (arith, length-append (line_of r) t, length-append (line_of r') t', line_long s, differ_long d)

-- ---- the same report

pub report_alike : {t t' report : List ℕ} → DifferInOrder t t' → ReportOf t report → ReportOf t' report
report_alike d (too_long h) = too_long (omega (arith, differ_long d))
report_alike d (faulty n k h f) = faulty n k (omega (arith, differ_long d)) (faulty_alike d f)
report_alike {t} {t'} d (no_room s h a over) =
    let w = holds_alike d a in
    let same : pairs w.scene ≡ pairs s = rewritten_list w.rewritten in
    subst (λ (l : List Pair). ReportOf t' (refused_line 7 (length l))) same
    (no_room w.scene (omega (arith, differ_long d)) w.holds (rw same over))
report_alike {t} {t'} d (judged s ws h a few right) =
    let w = holds_alike d a in
    let same : pairs w.scene ≡ pairs s = rewritten_list w.rewritten in
    subst (λ (l : List Pair). ReportOf t' (pair_lines l ws ++ total_line ws)) same
    (judged w.scene ws (omega (arith, differ_long d)) w.holds (rw same few) (words_as_written (rewritten_back w.rewritten) (text_accepted w.holds) ws right))

-- and so the same in the buffer
pub reported_alike : {t t' : List ℕ} → DifferInOrder t t' → (o o' : List ℕ) (n : ℕ) → Reported t o o' n → Reported t' o o' n
reported_alike d o o' n p = record { report = p.report; right = report_alike d p.right; length_is = p.length_is; buffer = p.buffer }

-- ---- shown: the scene that document 01 prints, its ends and corners in another order

unfoldable pub other_records : List Entry
other_records =
    vertex (at (pos 0) (pos 0) (pos 0)) (at (pos 0) (pos 0) (pos 0)) ∷ vertex (at (pos 4) (pos 0) (pos 0)) (at (pos 4) (pos 0) (pos 0))
    ∷ vertex (at (pos 0) (pos 4) (pos 0)) (at (pos 0) (pos 4) (pos 0)) ∷ vertex (at (pos 1) (pos 1) (pos 1)) (at (pos 1) (pos 1) (neg 1))
    ∷ vertex (at (pos 1) (neg 1) (pos 1)) (at (pos 1) (neg 1) (neg 1)) ∷ edge 1 0 ∷ edge 4 3 ∷ triangle 2 0 1 ∷ []

other_order : DifferInOrder (text_of records) (text_of other_records)
unfolding records other_records flat_map NoFeed
other_order =
    entry (same_vertex _ _) (entry (same_vertex _ _) (entry (same_vertex _ _) (entry (same_vertex _ _) (entry (same_vertex _ _)
    (entry (any_ends (moved front unmoved)) (entry (any_ends (moved front unmoved)) (entry (any_corners (moved (behind front) (moved front unmoved))) (rest [] tt))))))))

pub printed_in_another_order : ReportOf (text_of other_records) printed_report
printed_in_another_order = report_alike other_order (subst (λ (t : List ℕ). ReportOf t printed_report) printed_lines printed_report_lem)
