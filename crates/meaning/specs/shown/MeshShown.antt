-- Meshes, shown: a listed pair that is far and one that is near, rows and entries, orders, sides that are edges, the pierced of a row, and answers
-- of the calls, each by computing.
use Rattle.std.specs.Prelude.{ℕ, zero, suc, ◌+◌, ◌*◌, ◌^◌, ◌<◌, true, false, List, [], ◌∷◌, ◌≡◌, refl, eqb, ℤ, pos, neg_ℤ, nat_abs, Err, Ok}
use Rattle.std.proofs.Common.{true≢false, sym, ap, arith}
use Rattle.sequences.specs.Range.{over}
use Rattle.sequences.specs.Gather.{gather}
use Rattle.meaning.specs.Scene.{Scene, scene_of, stood_for, some_below}
use Rattle.meaning.specs.Refusals.{Answers, shares, number_of, carrying, outcome_alone, outcome_of}
use Rattle.meaning.specs.Boxes.{meet_on, listed}
use Rattle.meaning.specs.List.{pair, leaves}
use Rattle.meaning.specs.Report.{is_one, how_many}
use Rattle.meaning.specs.SceneWords.{byte_of, AllSettled}
use Rattle.meaning.specs.Pieces.{moving_triangle, piece_of, piece_count}
use Rattle.meaning.specs.Equations.{in_first, in_second, agrees, expand, determinant, determinant_of}
use Rattle.meaning.specs.Verdicts.{PieceIs}
use Rattle.meaning.specs.Resting.{PieceSettled, PairSettled}
use Rattle.meaning.specs.Pierced.{PiercedIs}
use Rattle.meaning.specs.WholeContacts.{rows_left, rows_after, AllContacts}
use Rattle.meaning.specs.Mesh.{MeshChecked, MeshAccepted}
use Rattle.meaning.specs.Near.{where_at, first_span_at, second_span_at, far, near}
use Rattle.meaning.specs.MeshRows.{row_test, mesh_row, mesh_kind_part, mesh_number, no_order, Lent, RowsCounted, RowsListed, RowsSettled, RowsContacts, wants_word, kept, kept_told, RowsKept, ContactsKept}
use Rattle.meaning.specs.MeshEdges.{bare, EdgesAre, bare_side}
use Rattle.meaning.specs.PiercedRows.{Through, through_row, AllPierced, through_number, yes_of, PiercedListed}
use Rattle.meaning.specs.MeshNumbers.{wanted_by}
use Rattle.meaning.specs.shown.ContactsShown.{fall_from, point_touches}
use Rattle.meaning.specs.shown.PiercedShown.{pulled_out, pierced_at_start}
use Rattle.meaning.specs.declared.Frame.TheVariants.{Start, End}
use Rattle.meaning.specs.declared.Kind.TheVariants.{PointTriangle, EdgeEdge}
use Rattle.meaning.specs.declared.RowPairs.TheVariants.{Listed, Near}
use Rattle.meaning.specs.declared.Settled.{Settled}
use Rattle.meaning.specs.declared.Settled.TheVariants.{Hit, Miss, Touch, Apart}
use Rattle.meaning.specs.declared.Refusal.TheVariants.{NoRoom}

-- ---- far and near: the triangle of case 1 goes ten to the right, and a point goes along from one place to another

abbrev pub chased_from : ℤ → ℤ → Scene
chased_from x x' =
    scene_of
    (pos 0 ∷ pos 0 ∷ pos 0 ∷ pos 10 ∷ pos 0 ∷ pos 0 ∷ pos 4 ∷ pos 0 ∷ pos 0 ∷ pos 14 ∷ pos 0 ∷ pos 0 ∷ pos 0 ∷ pos 4 ∷ pos 0 ∷ pos 10 ∷ pos 4 ∷ pos 0
    ∷ x ∷ pos 1 ∷ pos 0 ∷ x' ∷ pos 1 ∷ pos 0 ∷ [])
    [] (0 ∷ 1 ∷ 2 ∷ []) []

-- behind it at both times, though the boxes of the whole way meet
abbrev pub chased : Scene
chased = chased_from (neg_ℤ (pos 1)) (pos 9)

pub chased_is_far : (listed chased PointTriangle 3 0 ≡ true) × (far chased PointTriangle 3 0 ≡ true)
unfolding where_at first_span_at second_span_at some_below stood_for shares meet_on
chased_is_far = (refl, refl)

-- behind it at the start and before it at the end, and one that touches it at the end: neither is far
pub passed_is_near : near (chased_from (neg_ℤ (pos 1)) (pos 15)) PointTriangle 3 0 ≡ true
unfolding where_at first_span_at second_span_at some_below stood_for shares meet_on
passed_is_near = refl

pub reached_is_near : near (chased_from (neg_ℤ (pos 1)) (pos 10)) PointTriangle 3 0 ≡ true
unfolding where_at first_span_at second_span_at some_below stood_for shares meet_on
reached_is_near = refl

-- ---- rows: vertex 3 has the fourth; a far pair is among all that are listed and not among the near ones

pub chased_rows : (mesh_row Listed chased 3 ≡ pair PointTriangle 3 0 ∷ []) × (mesh_row Near chased 3 ≡ [])
unfolding row_test gather over where_at first_span_at second_span_at some_below stood_for shares meet_on
chased_rows = (refl, refl)

pub point_number : mesh_number (pair PointTriangle 3 5) ≡ 3 * 2 ^ 32 + 5
unfolding mesh_number mesh_kind_part
point_number = refl

pub edge_number : mesh_number (pair EdgeEdge 3 5) ≡ 2 ^ 63 + 3 * 2 ^ 32 + 5
unfolding mesh_number mesh_kind_part
edge_number = refl

-- ---- orders: a list that is one; a number twice, a number too high, a list that is too short

pub is_order : no_order 3 (0 ∷ 2 ∷ 1 ∷ []) ≡ false
unfolding some_below
is_order = refl

pub is_none : (no_order 3 (0 ∷ 2 ∷ 2 ∷ []) ≡ true) × (no_order 3 (0 ∷ 3 ∷ 1 ∷ []) ≡ true) × (no_order 3 (0 ∷ 1 ∷ []) ≡ true)
unfolding some_below
is_none = (refl, refl, refl)

-- ---- answers: with so much scratch, and no order lent

abbrev pub plenty : Lent
plenty = record { edge_order = []; triangle_order = []; table = 4; places = 8; boxes = 1_000 }

pub mesh_is_sound : MeshChecked chased (Ok tt) × MeshAccepted chased 0 (Ok tt)
unfolding Answers outcome_alone some_below stood_for
mesh_is_sound = (tt, tt)

pub one_in_a_row : RowsCounted Listed chased plenty 3 4 (Ok 1)
    × RowsCounted Near chased plenty 3 4 (Ok 0)
unfolding Answers outcome_of row_test gather over where_at first_span_at second_span_at some_below stood_for shares meet_on
one_in_a_row = (refl, refl)

pub one_listed : RowsListed Listed chased plenty 3 4 (7 ∷ 7 ∷ []) (3 * 2 ^ 32 ∷ 7 ∷ []) (Ok 1)
unfolding Answers outcome_of leaves row_test gather over where_at first_span_at second_span_at some_below stood_for shares meet_on mesh_number mesh_kind_part
one_listed = record { answer = refl; list = refl }

pub one_without_room : RowsListed Listed chased plenty 3 4 [] [] (Err (carrying NoRoom 1))
unfolding Answers outcome_of leaves number_of row_test gather over where_at first_span_at second_span_at some_below stood_for shares meet_on mesh_number mesh_kind_part
one_without_room = record { answer = refl; list = refl }

-- ---- words asked for: hits and touches of four words, one of each

abbrev pub four_words : List Settled
four_words = Hit ∷ Miss ∷ Touch ∷ Apart ∷ []

pub kept_shown : kept {A = ℕ} (wanted_by (1 + 8)) four_words (10 ∷ 11 ∷ 12 ∷ 13 ∷ []) ≡ 10 ∷ 12 ∷ []
unfolding kept wants_word
kept_shown = refl

pub told_shown : kept_told (wanted_by (1 + 8)) four_words ≡ record { count = 2; listed = 4; hits = 1; misses = 1; touches = 1; aparts = 1 }
unfolding kept wants_word how_many is_one byte_of
told_shown = refl

-- ---- the word of the one pair of a row, a point that falls through a triangle, and the same where hits are kept

pub fall_hits : PairSettled (fall_from (pos 1)) PointTriangle 3 0 Hit
unfolding PairSettled PieceSettled PieceIs piece_of piece_count moving_triangle stood_for determinant_of determinant expand in_first in_second agrees
fall_hits = record { which = 1; there = omega arith; has = (λ e. true≢false (sym (ap (λ (z : ℤ). eqb (nat_abs z) 0) e)), point_touches) }

pub hit_settled : RowsSettled Near (fall_from (pos 1)) plenty 3 4 (7 ∷ []) (3 * 2 ^ 32 ∷ []) (7 ∷ 7 ∷ []) (0 ∷ 7 ∷ [])
    (Ok 1)
unfolding Answers outcome_of leaves AllSettled byte_of row_test gather over where_at first_span_at second_span_at some_below stood_for shares meet_on mesh_number mesh_kind_part
hit_settled = record { answer = refl; list = refl; words = Hit ∷ []; right = (fall_hits, tt); bytes = refl }

pub hit_kept : RowsKept Listed (wanted_by 1) (fall_from (pos 1)) plenty 3 4 (7 ∷ []) (3 * 2 ^ 32 ∷ []) (7 ∷ []) (0 ∷ [])
    (Ok (record { count = 1; listed = 1; hits = 1; misses = 0; touches = 0; aparts = 0 }))
unfolding Answers outcome_of leaves AllSettled kept wants_word how_many is_one byte_of row_test gather over where_at first_span_at second_span_at some_below stood_for shares meet_on mesh_number mesh_kind_part
hit_kept = record { words = Hit ∷ []; right = (fall_hits, tt); answer = refl; list = refl; bytes = refl }

-- row 0 is that of a corner, which shares it with the triangle: no pair, and no contact
pub none_met : RowsContacts Listed (fall_from (pos 1)) plenty 0 1 [] [] [] [] [] [] (Ok 0)
unfolding Answers outcome_of leaves rows_after rows_left AllContacts row_test gather over some_below stood_for shares
none_met = record { answer = refl; list = refl; contacts = []; right = tt; bytes = refl; rows = refl }

pub none_met_kept : ContactsKept Listed (wanted_by 1) (fall_from (pos 1)) plenty 0 1 [] [] [] [] [] []
    (Ok (record { count = 0; listed = 0; hits = 0; misses = 0; touches = 0; aparts = 0 }))
unfolding Answers outcome_of leaves rows_after rows_left AllSettled AllContacts kept how_many row_test gather over some_below stood_for shares
none_met_kept = record { words = []; right = tt; answer = refl; list = refl; bytes = refl; contacts = []; met = tt; rows = refl }

-- ---- edges: a triangle with its three sides, one of them written from its higher end

abbrev pub one_triangle : Scene
one_triangle = scene_of chased.positions (0 ∷ 1 ∷ 2 ∷ 1 ∷ 0 ∷ 2 ∷ []) (0 ∷ 1 ∷ 2 ∷ []) []

abbrev pub sides_of : List ℕ
sides_of = 0 ∷ 1 ∷ 2 ∷ []

-- side 1 has edge 1, and edge 2 was lent for it
pub side_bare : EdgesAre one_triangle (0 ∷ 2 ∷ 2 ∷ []) (0 ∷ 2 ∷ 1 ∷ []) (bare 1)
unfolding EdgesAre
side_bare = (omega arith, first, refl)
  where
    first : (k : ℕ) → k < 1 → bare_side one_triangle (0 ∷ 2 ∷ 2 ∷ []) k ≡ false
    first zero h = refl
    first (suc k) h = absurd (omega arith)

-- ---- pierced: of edge 0 the one triangle is asked at the start, and no triangle at the end, where the boxes are apart; none of edge 1, which ends on
-- a corner by a seam

abbrev pub asked : Through
asked = record { edge = 0; triangle = 0 }

pub asked_at_start : through_row Start (pulled_out []) 0 ≡ asked ∷ []
unfolding where_at gather over some_below stood_for shares meet_on
asked_at_start = refl

pub none_at_end : through_row End (pulled_out []) 0 ≡ []
unfolding where_at gather over some_below stood_for shares meet_on
none_at_end = refl

pub none_sewn : through_row Start (pulled_out (5 ∷ 2 ∷ [])) 1 ≡ []
unfolding where_at gather over some_below stood_for shares meet_on
none_sewn = refl

pub pierced_in_a_row : AllPierced Start (pulled_out []) (through_row Start (pulled_out []) 0) (true ∷ [])
unfolding where_at gather over some_below stood_for shares meet_on AllPierced PiercedIs
pierced_in_a_row = (pierced_at_start [], tt)

pub pierced_listed : PiercedListed Start (pulled_out []) plenty 0 1 (7 ∷ 7 ∷ []) (0 ∷ 7 ∷ []) (Ok 1)
unfolding Answers outcome_of leaves yes_of AllPierced PiercedIs where_at gather over some_below stood_for shares
pierced_listed = record { answers = true ∷ []; right = (pierced_at_start [], tt); answer = refl; list = refl }

pub through_number_lem : through_number (record { edge = 3; triangle = 5 }) ≡ 3 * 2 ^ 32 + 5
through_number_lem = refl
