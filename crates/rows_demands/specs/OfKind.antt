-- Rows of vertices look at no edge, and rows of edges at no triangle: whatever list is lent for the other kind, an empty one too, their pairs are the same, and
-- so are the words and the contacts. So whoever had a mesh accepted once may ask for the rows of a kind with the parts of that kind alone: each call then has
-- less to begin with, and its result is the one of the whole mesh.
use Rattle.std.specs.Prelude.{ℕ, ◌+◌, ◌-◌, ◌≤◌, ◌≡◌, refl}
use mathlib.Core.List.{List, [], ◌∷◌, Memᴰ}
use Rattle.std.proofs.Common.{sym, ap, ◌∙◌, subst, arith}
use Rattle.sequences.specs.Chosen.{chosen_members}
use Rattle.sequences.specs.Gather.{gather_same, gather_from}
use Rattle.meaning.specs.Limits.{contact_limit}
use Rattle.meaning.specs.Scene.{Scene, scene_of, vertex_count, edge_count, triangle_count, reaches_beyond}
use Rattle.meaning.specs.Pieces.{Piece, piece_of}
use Rattle.meaning.specs.Refusals.{shares}
use Rattle.meaning.specs.Boxes.{meet_on}
use Rattle.meaning.specs.Near.{where_at, first_span_at, second_span_at}
use Rattle.meaning.specs.Verdicts.{PieceIs, SomePiece}
use Rattle.meaning.specs.Resting.{PieceSettled, SomeSettled, PairSettled}
use Rattle.meaning.specs.Contacts.{TimeIs}
use Rattle.meaning.specs.List.{Pair, pair}
use Rattle.meaning.specs.SceneWords.{AllSettled}
use Rattle.meaning.specs.WholeContacts.{SharesAre, NotBefore, ContactNumbersAre, WholeContactIs, AllContacts}
use Rattle.meaning.specs.MeshRows.{row_test, vertex_row, edge_row, mesh_row, rows_in}
use Rattle.meaning.specs.declared.Kind.{Kind}
use Rattle.meaning.specs.declared.Kind.TheVariants.{PointTriangle, EdgeEdge}
use Rattle.meaning.specs.declared.RowPairs.{RowPairs}
use Rattle.meaning.specs.declared.RowPairs.TheVariants.{Listed, Near}
use Rattle.meaning.specs.declared.Settled.{Settled}
use Rattle.meaning.specs.declared.Settled.TheVariants.{Hit, Miss, Touch, Apart}
use Rattle.meaning.specs.declared.Verdict.{Verdict}
use Rattle.meaning.specs.declared.Verdict.TheVariants as Verdicts
use Rattle.meaning.specs.declared.WholeContact as WholeContacts
use Rattle.meaning.specs.declared.WholeContact.{WholeContact}
use Rattle.meaning.specs.declared.ContactNumbers.{ContactNumbers}
use Rattle.mesh_laws.specs.Rows.{vertex_row_lem, edge_row_lem}

-- the mesh with another list of edges, and with another list of triangles
abbrev pub with_edges : Scene → List ℕ → Scene
with_edges s e = scene_of s.positions e s.triangles s.seams

abbrev pub with_triangles : Scene → List ℕ → Scene
with_triangles s t = scene_of s.positions s.edges t s.seams

-- ---- the pairs of a row

vertex_rows : (w : RowPairs) (s : Scene) (e : List ℕ) (v : ℕ) → vertex_row w s v ≡ vertex_row w (with_edges s e) v
unfolding row_test shares meet_on first_span_at second_span_at where_at
vertex_rows Listed s e v = refl
vertex_rows Near s e v = refl

edge_rows : (w : RowPairs) (s : Scene) (t : List ℕ) (i : ℕ) → edge_row w s i ≡ edge_row w (with_triangles s t) i
unfolding row_test shares meet_on first_span_at second_span_at where_at
edge_rows Listed s t i = refl
edge_rows Near s t i = refl

-- ---- the word and the contact of a pair go by its pieces

pub record SamePieces (s s' : Scene) (kind : Kind) (i j : ℕ) : Type 0 where
  pub at : (k : ℕ) → piece_of s kind i j k ≡ piece_of s' kind i j k

pub turned : {s s' : Scene} {kind : Kind} {i j : ℕ} → SamePieces s s' kind i j → SamePieces s' s kind i j
turned same = record { at = λ k. sym (same.at k) }

module _ {s s' : Scene} {kind : Kind} {i j : ℕ} (same : SamePieces s s' kind i j) where
  some_settled : (v : Settled) → SomeSettled s kind i j v → SomeSettled s' kind i j v
  some_settled v x =
      record { which = x.which; there = x.there; has = subst (λ (p : Piece). PieceSettled p v) (same.at x.which) x.has }

  some_piece : (v : Verdict) → SomePiece s kind i j v → SomePiece s' kind i j v
  some_piece v x =
      record { which = x.which; there = x.there; has = subst (λ (p : Piece). PieceIs p v) (same.at x.which) x.has }

same_shares : {s s' : Scene} (kind : Kind) {i j : ℕ} → SamePieces s s' kind i j → (m : ContactNumbers) → SharesAre s kind i j m → SharesAre s' kind i j m
unfolding SharesAre
same_shares PointTriangle same m h = rw (same.at m.piece) at h
same_shares EdgeEdge same m h = rw (same.at m.piece) at h

module _ {s s' : Scene} {kind : Kind} {i j : ℕ} (same : SamePieces s s' kind i j) where
  pub same_word : (v : Settled) → PairSettled s kind i j v → PairSettled s' kind i j v
  unfolding PairSettled
  same_word Hit h = some_settled same Hit h
  same_word Touch h = (λ x. h.0 (some_settled (turned same) Hit x), some_settled same Touch h.1)
  same_word Apart h =
      (λ x. h.0 (some_settled (turned same) Hit x), λ x. h.1 (some_settled (turned same) Touch x), some_piece same Verdicts.Degenerate h.2)
  same_word Miss h = (λ x. h.0 (some_settled (turned same) Hit x), λ x. h.1 (some_piece (turned same) Verdicts.Degenerate x))

  same_numbers : (m : ContactNumbers) → ContactNumbersAre s kind i j m → ContactNumbersAre s' kind i j m
  same_numbers m h =
      record {
        there = h.there;
        hit = subst (λ (p : Piece). PieceIs p Verdicts.Hit) (same.at m.piece) h.hit;
        time = subst (λ (p : Piece). TimeIs p m.k) (same.at m.piece) h.time;
        shares = same_shares kind same m h.shares;
        smallest = λ q few hit.
            subst (λ (p : Piece). NotBefore p q m.piece m.k) (same.at q)
            (h.smallest q few (subst (λ (p : Piece). PieceIs p Verdicts.Hit) (sym (same.at q)) hit));
      }

  pub same_contact : (m : WholeContact) → WholeContactIs s kind i j m → WholeContactIs s' kind i j m
  unfolding WholeContactIs
  same_contact (WholeContacts.TheVariants.Hit m) h = same_numbers m h
  same_contact WholeContacts.TheVariants.Miss h = same_word Miss h
  same_contact WholeContacts.TheVariants.Touch h = same_word Touch h
  same_contact WholeContacts.TheVariants.Apart h = same_word Apart h

-- ---- and so do those of a list

abbrev pub AllSame : Scene → Scene → List Pair → Type 0
AllSame s s' ps = (p : Pair) → Memᴰ p ps → SamePieces s s' p.kind p.first p.second

module _ {s s' : Scene} where
  pub same_words : (ps : List Pair) (ws : List Settled) → AllSame s s' ps → AllSettled s ps ws → AllSettled s' ps ws
  unfolding AllSettled
  same_words [] [] same h = h
  same_words [] (w ∷ ws) same h = absurd h
  same_words (p ∷ ps) [] same h = absurd h
  same_words (p ∷ ps) (w ∷ ws) same h =
      (same_word (same p (Memᴰ.head refl)) w h.0, same_words ps ws (λ q m. same q (Memᴰ.tail m)) h.1)

  pub same_contacts : (ps : List Pair) (ms : List WholeContact) → AllSame s s' ps → AllContacts s ps ms → AllContacts s' ps ms
  unfolding AllContacts
  same_contacts [] [] same h = h
  same_contacts [] (m ∷ ms) same h = absurd h
  same_contacts (p ∷ ps) [] same h = absurd h
  same_contacts (p ∷ ps) (m ∷ ms) same h =
      (same_contact (same p (Memᴰ.head refl)) m h.0, same_contacts ps ms (λ q n. same q (Memᴰ.tail n)) h.1)

-- ---- a stretch of rows

vertex_pieces : (s : Scene) (e : List ℕ) (i j : ℕ) → SamePieces s (with_edges s e) PointTriangle i j
unfolding piece_of
vertex_pieces s e i j = record { at = λ k. refl }

edge_pieces : (s : Scene) (t : List ℕ) (i j : ℕ) → SamePieces s (with_triangles s t) EdgeEdge i j
unfolding piece_of
edge_pieces s t i j = record { at = λ k. refl }

-- two meshes have the same pairs in these rows, and these the same pieces; and both reach as far
pub record SameRows (w : RowPairs) (s s' : Scene) (first end : ℕ) : Type 0 where
  pub pairs : rows_in w s first end ≡ rows_in w s' first end
  pub pieces : AllSame s s' (rows_in w s first end)
  pub reach : reaches_beyond contact_limit s ≡ reaches_beyond contact_limit s'

module _ (w : RowPairs) (s : Scene) (first end : ℕ) where
  -- rows of vertices, with any edges
  pub rows_of_vertices : (e : List ℕ) → end ≤ vertex_count s → SameRows w s (with_edges s e) first end
  rows_of_vertices e few =
      record {
        pairs =
            gather_same (mesh_row w s) (mesh_row w (with_edges s e)) first end
            (λ row low high.
            vertex_row_lem w s row (omega arith)
            ∙ vertex_rows w s e row
            ∙ sym (vertex_row_lem w (with_edges s e) row (omega arith)));
        pieces = λ p m.
            let (row, _, high, n) = gather_from (mesh_row w s) end first m in
            let (j, _, _, _, is) =
            (chosen_members (row_test w s PointTriangle row) (pair PointTriangle row) 0 (triangle_count s) p).0
            (subst (λ (l : List Pair). Memᴰ p l) (vertex_row_lem w s row (omega arith)) n) in
            rw is (vertex_pieces s e row j);
        reach = refl;
      }

  -- rows of edges, with any triangles
  pub rows_of_edges : (t : List ℕ) → vertex_count s ≤ first → SameRows w s (with_triangles s t) first end
  rows_of_edges t past =
      record {
        pairs =
            gather_same (mesh_row w s) (mesh_row w (with_triangles s t)) first end
            (λ row low high.
            let i = row - vertex_count s in
            let place : row ≡ vertex_count s + i = omega arith in
            ap (mesh_row w s) place
            ∙ edge_row_lem w s i
            ∙ edge_rows w s t i
            ∙ sym (ap (mesh_row w (with_triangles s t)) place ∙ edge_row_lem w (with_triangles s t) i));
        pieces = λ p m.
            let (row, low, _, n) = gather_from (mesh_row w s) end first m in
            let i = row - vertex_count s in
            let place : row ≡ vertex_count s + i = omega arith in
            let (j, _, _, _, is) =
            (chosen_members (row_test w s EdgeEdge i) (pair EdgeEdge i) (i + 1) (edge_count s) p).0
            (subst (λ (l : List Pair). Memᴰ p l) (ap (mesh_row w s) place ∙ edge_row_lem w s i) n) in
            rw is (edge_pieces s t i j);
        reach = refl;
      }
