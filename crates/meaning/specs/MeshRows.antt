-- The list of a mesh of any size, row by row; an entry of 64 bits; and what the calls over a stretch of rows promise. What a caller lends as scratch
-- may hold anything afterwards: of it a promise speaks by its length alone.
use Rattle.std.specs.Prelude.{ℕ, ◌+◌, ◌-◌, ◌*◌, ◌/◌, ◌^◌, min, Bool, not, ◌||◌, ◌&&◌, List, [], ◌∷◌, ◌++◌, map, ◌≡◌, eqb, leb, ltb, length, get_or, Result}
use Rattle.sequences.specs.Gather.{gather}
use Rattle.sequences.specs.Chosen.{chosen}
use Rattle.sequences.specs.Pick.{pick}
use Rattle.meaning.specs.Scene.{Scene, vertex_count, edge_count, triangle_count, some_below}
use Rattle.meaning.specs.Boxes.{listed}
use Rattle.meaning.specs.Near.{near}
use Rattle.meaning.specs.Refusals.{Check, Answers, room_check, outcome_of}
use Rattle.meaning.specs.List.{Pair, pair, leaves}
use Rattle.meaning.specs.Report.{how_many}
use Rattle.meaning.specs.SceneWords.{byte_of, AllSettled}
use Rattle.meaning.specs.WholeContacts.{range_check, contact_room, rows_after, word_of, AllContacts}
use Rattle.meaning.specs.Mesh.{mesh_checks, table_room}
use Rattle.meaning.specs.declared.Kind.{Kind}
use Rattle.meaning.specs.declared.Kind.TheVariants.{PointTriangle, EdgeEdge}
use Rattle.meaning.specs.declared.RowPairs.{RowPairs}
use Rattle.meaning.specs.declared.RowPairs.TheVariants.{Listed, Near}
use Rattle.meaning.specs.declared.Settled.{Settled}
use Rattle.meaning.specs.declared.Settled.TheVariants.{Hit, Miss, Touch, Apart}
use Rattle.meaning.specs.declared.Wanted.{Wanted}
use Rattle.meaning.specs.declared.WholeContact.{WholeContact}
use Rattle.meaning.specs.declared.KeptRows.{KeptRows}
use Rattle.meaning.specs.declared.Refused.{Refused}

-- ---- rows

-- which pairs: all that are listed, or the near ones of these
unfoldable pub row_test : RowPairs → Scene → Kind → ℕ → ℕ → Bool
row_test Listed = listed
row_test Near = near

-- rows 0 .. V are the vertices', rows V .. V + E the edges'; in a row the order is the list's
abbrev pub row_count : Scene → ℕ
row_count s = vertex_count s + edge_count s

abbrev pub vertex_row : RowPairs → Scene → ℕ → List Pair
vertex_row w s v = chosen (row_test w s PointTriangle v) (pair PointTriangle v) 0 (triangle_count s)

abbrev pub edge_row : RowPairs → Scene → ℕ → List Pair
edge_row w s i = chosen (row_test w s EdgeEdge i) (pair EdgeEdge i) (i + 1) (edge_count s)

abbrev pub mesh_row : RowPairs → Scene → ℕ → List Pair
mesh_row w s i = pick (ltb i (vertex_count s)) (vertex_row w s i) (edge_row w s (i - vertex_count s))

-- the rows from a up to and without b
abbrev pub rows_in : RowPairs → Scene → ℕ → ℕ → List Pair
rows_in w s a b = gather (mesh_row w s) a b

-- an entry is one u64: 2^63 for ee or 0 for pt, plus 2^32 times the first place, plus the second
unfoldable pub mesh_kind_part : Kind → ℕ
mesh_kind_part PointTriangle = 0
mesh_kind_part EdgeEdge = 2 ^ 63

unfoldable pub mesh_number : Pair → ℕ
mesh_number p = mesh_kind_part p.kind + 2 ^ 32 * p.first + p.second

abbrev pub mesh_entries : List Pair → List ℕ
mesh_entries ps = map mesh_number ps

-- ---- orders and scratch

-- an order of n parts has each number below n once: here it has not
abbrev pub no_order : ℕ → List ℕ → Bool
no_order n l = not (eqb (length l) n) || some_below n (λ k. leb n (get_or l k 0) || twice k || missing k)
  where
    twice : ℕ → Bool
    twice k = some_below k (λ i. eqb (get_or l i 0) (get_or l k 0))

    missing : ℕ → Bool
    missing j = not (some_below (length l) (λ k. eqb (get_or l k 0) j))

-- an order of the edges and one of the triangles may be lent, an empty list for none; and three lists as scratch, of which the lengths count
pub record Lent : Type 0 where
  pub edge_order : List ℕ
  pub triangle_order : List ℕ
  pub table : ℕ
  pub places : ℕ
  pub boxes : ℕ

-- what a call was lent, as a promise names it
abbrev pub lent_of : (edge_order triangle_order : List ℕ) → (table places boxes : ℕ) → Lent
lent_of e t n p b = record { edge_order = e; triangle_order = t; table = n; places = p; boxes = b }

-- places for the parts, and twice as many again for each order that is lent
abbrev pub place_room : Scene → Lent → ℕ
place_room s l = edge_count s + triangle_count s + 2 * (length l.edge_order + length l.triangle_order)

-- six numbers for each part, and for each node of a tree over the edges and of one over the triangles, each node over 16 nodes or parts
abbrev pub tree_room : ℕ → ℕ
tree_room n = n / 15 + 16

abbrev pub box_room : Scene → ℕ
box_room s = 6 * (vertex_count s + edge_count s + triangle_count s + tree_room (edge_count s) + tree_room (triangle_count s))

-- ---- which calls are refused

-- 12: scratch that is too short
abbrev pub scratch_short : Scene → Lent → Bool
scratch_short s l = ltb l.table (table_room s) || ltb l.places (place_room s l) || ltb l.boxes (box_room s)

-- 18: an order was lent that is none
abbrev pub wrong_order : Scene → Lent → Bool
wrong_order s l = wrong (edge_count s) l.edge_order || wrong (triangle_count s) l.triangle_order
  where
    wrong : ℕ → List ℕ → Bool
    wrong n order = not (eqb (length order) 0) && no_order n order

-- 5: rows that are not there: the end before the first, or beyond the rows
abbrev pub rows_gone : ℕ → ℕ → ℕ → Bool
rows_gone rows first end = ltb end first || ltb rows end

-- 12, then 1, 2, 3, 15, 4, then 18, then 5, then what else a call asks
abbrev pub row_checks : Scene → Lent → (rows first end : ℕ) → List Check → List Check
row_checks s l rows first end more =
    record { number = 12; holds = scratch_short s l; carries = 0 }
    ∷ (mesh_checks s
    ++ (record { number = 18; holds = wrong_order s l; carries = 0 }
    ∷ record { number = 5; holds = rows_gone rows first end; carries = 0 }
    ∷ more))

-- ---- what is promised of a stretch of rows

module _ (w : RowPairs) (s : Scene) (l : Lent) (first end : ℕ) where
  abbrev pub stretch : List Pair
  stretch = rows_in w s first end

  -- its pairs are counted
  abbrev pub RowsCounted : Result ℕ Refused → Type 0
  RowsCounted r = Answers (row_checks s l (row_count s) first end []) (λ n. n ≡ length stretch) (outcome_of r)

  -- its entries are written in front of a list that held o and holds o'; 7 where there is not room for all of them
  pub record RowsListed (o o' : List ℕ) (r : Result ℕ Refused) : Type 0 where
    pub answer : Answers (row_checks s l (row_count s) first end (room_check (length o) (length stretch) ∷ [])) (λ n. n ≡ length stretch) (outcome_of r)
    pub list : o' ≡ leaves (outcome_of r) (mesh_entries stretch) o

  -- and their words, in a buffer that held b and holds b'. The room is the smaller of the two
  pub record RowsSettled (o o' b b' : List ℕ) (r : Result ℕ Refused) : Type 0 where
    pub answer : Answers (row_checks s l (row_count s) first end (room_check (min (length o) (length b)) (length stretch) ∷ []))
        (λ n. n ≡ length stretch)
        (outcome_of r)
    pub list : o' ≡ leaves (outcome_of r) (mesh_entries stretch) o
    pub words : List Settled
    pub right : AllSettled s stretch words
    pub bytes : b' ≡ leaves (outcome_of r) (map byte_of words) b

  -- and the contact of each hit in its row of a buffer that held c and holds c'; 16 stands before 7
  pub record RowsContacts (o o' b b' c c' : List ℕ) (r : Result ℕ Refused) : Type 0 where
    pub answer : Answers (row_checks s l (row_count s) first end (range_check s ∷ room_check (contact_room o b c) (length stretch) ∷ []))
        (λ n. n ≡ length stretch)
        (outcome_of r)
    pub list : o' ≡ leaves (outcome_of r) (mesh_entries stretch) o
    pub contacts : List WholeContact
    pub right : AllContacts s stretch contacts
    pub bytes : b' ≡ leaves (outcome_of r) (map (λ m. byte_of (word_of m)) contacts) b
    pub rows : c' ≡ rows_after (outcome_of r) contacts c

-- ---- of a stretch the pairs whose words are asked for

unfoldable pub wants_word : Wanted → Settled → Bool
wants_word m Hit = m.hit
wants_word m Miss = m.miss
wants_word m Touch = m.touch
wants_word m Apart = m.apart

-- of a list those whose word, which stands in the same place of another, is asked for
unfoldable pub kept : {A : Type 0} → Wanted → List Settled → List A → List A
kept m [] l = []
kept m (v ∷ vs) [] = []
kept m (v ∷ vs) (x ∷ l) = pick (wants_word m v) (x ∷ kept m vs l) (kept m vs l)

-- how many are kept, how many there are, and how many of these have each word
abbrev pub kept_told : Wanted → List Settled → KeptRows
kept_told m vs =
    record {
      count = length (kept m vs vs);
      listed = length vs;
      hits = how_many Hit vs;
      misses = how_many Miss vs;
      touches = how_many Touch vs;
      aparts = how_many Apart vs;
    }

module _ (w : RowPairs) (m : Wanted) (s : Scene) (l : Lent) (first end : ℕ) where
  -- their entries and words; 7 where there is not room for those that are kept
  pub record RowsKept (o o' b b' : List ℕ) (r : Result KeptRows Refused) : Type 0 where
    pub words : List Settled
    pub right : AllSettled s (rows_in w s first end) words
    pub answer : Answers
        (row_checks s l (row_count s) first end (room_check (min (length o) (length b)) (length (kept m words words)) ∷ []))
        (λ t. t ≡ kept_told m words)
        (outcome_of r)
    pub list : o' ≡ leaves (outcome_of r) (mesh_entries (kept m words (rows_in w s first end))) o
    pub bytes : b' ≡ leaves (outcome_of r) (map byte_of (kept m words words)) b

  -- and the contact of each hit that is kept; 16 stands before 7
  pub record ContactsKept (o o' b b' c c' : List ℕ) (r : Result KeptRows Refused) : Type 0 where
    pub words : List Settled
    pub right : AllSettled s (rows_in w s first end) words
    pub answer : Answers
        (row_checks s l (row_count s) first end (range_check s ∷ room_check (contact_room o b c) (length (kept m words words)) ∷ []))
        (λ t. t ≡ kept_told m words)
        (outcome_of r)
    pub list : o' ≡ leaves (outcome_of r) (mesh_entries (kept m words (rows_in w s first end))) o
    pub bytes : b' ≡ leaves (outcome_of r) (map byte_of (kept m words words)) b
    pub contacts : List WholeContact
    pub met : AllContacts s (kept m words (rows_in w s first end)) contacts
    pub rows : c' ≡ rows_after (outcome_of r) contacts c
