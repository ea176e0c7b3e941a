-- A stretch of rows judged from nothing on: the counts, and what is kept, in lists with room for all of it or not.
use Rattle.std.specs.Prelude.{ℕ, ◌≤◌, ◌<◌, min, List, [], map, ◌≡◌, refl, length, take}
use Rattle.std.proofs.Common.{sym, ap, ◌∙◌, subst, arith}
use Rattle.std.proofs.lemmas.List.{length-map}
use Rattle.sequences.specs.Wrote.{written}
use Rattle.meaning.specs.Scene.{Scene}
use Rattle.meaning.specs.List.{Pair}
use Rattle.meaning.specs.SceneWords.{byte_of}
use Rattle.meaning.specs.MeshRows.{row_count, rows_in, mesh_number, mesh_entries, kept, kept_told}
use Rattle.meaning.specs.declared.KeptRows.{KeptRows}
use Rattle.meaning.specs.declared.RowPairs.{RowPairs}
use Rattle.meaning.specs.declared.Settled.{Settled}
use Rattle.meaning.specs.declared.Wanted.{Wanted}
use Rattle.list_words.specs.Listed.{word_of_pair, words_of}
use Rattle.tally.specs.Counted.{TallyOf, tally_starts}
use Rattle.mesh_laws.specs.Entries.{MeshSized}
use Rattle.mesh_entries.specs.Entering.{Entered, entered_wrote}
use Rattle.mesh_kept.specs.Totals.{counts_all}
use Rattle.mesh_keep.specs.Keeping.{kept_pairs, kept_is, kept_words, KeptBy}
use Rattle.mesh_keep.specs.declared.Going.{Going}
use Rattle.mesh_wanted.specs.Stretch.{rows_few}

-- what was counted, as an answer tells it
abbrev pub told_of : Going → KeptRows
told_of g =
    record {
      count = g.count;
      listed = g.tally.listed;
      hits = g.tally.hits;
      misses = g.tally.misses;
      touches = g.tally.touches;
      aparts = g.tally.aparts;
    }

-- nothing is judged yet
abbrev pub none_yet : Going
none_yet = record { count = 0; tally = record { listed = 0; hits = 0; misses = 0; touches = 0; aparts = 0 } }

-- the words of the pairs of a stretch
abbrev pub row_words : RowPairs → Scene → ℕ → ℕ → List Settled
row_words w s a b = words_of s (rows_in w s a b)

module _ (w : RowPairs) (m : Wanted) (s : Scene) (a b : ℕ) where
  -- their entries and their bytes
  abbrev pub kept_entries : List ℕ
  kept_entries = mesh_entries (kept m (row_words w s a b) (rows_in w s a b))

  abbrev pub kept_bytes : List ℕ
  kept_bytes = map byte_of (kept m (row_words w s a b) (row_words w s a b))

  abbrev pub KeptTold : KeptRows → Type 0
  KeptTold t = t ≡ kept_told m (row_words w s a b)

  -- entered below a bound, in lists that held o and v and hold o' and v'
  pub record KeptInto (most : ℕ) (o v o' v' : List ℕ) (t : KeptRows) : Type 0 where
    pub counts : KeptTold t
    pub list : Entered most o 0 kept_entries o' t.count
    pub bytes : Entered most v 0 kept_bytes v' t.count

  -- written, in lists with so much room, where that many were judged into `most` places of one's own; else the lists stay as they are
  pub record KeptOwn (most room : ℕ) (o v o' v' : List ℕ) (t : KeptRows) : Type 0 where
    pub counts : KeptTold t
    pub whole : t.count ≤ min room most → (o' ≡ written kept_entries o) × (v' ≡ written kept_bytes v)
    pub unchanged : min room most < t.count → (o' ≡ o) × (v' ≡ v)

  -- ---- all were judged, from nothing on

  module _ {most : ℕ} {o v o' v' : List ℕ} {g : Going} (k : KeptBy s m most (rows_in w s a b) o v none_yet o' v' g) where
    tallies : length (rows_in w s a b) < 4611686018427387904 → TallyOf (row_words w s a b) g.tally
    tallies few =
        subst (TallyOf (row_words w s a b)) (sym k.tally)
        (counts_all [] (row_words w s a b) none_yet.tally (omega (arith, length-map (rows_in w s a b) (word_of_pair s), few)) tally_starts)

    kept_count : g.count ≡ length (kept m (row_words w s a b) (row_words w s a b))
    kept_count =
        omega (
          arith,
          k.list.counts,
          length-map (kept_pairs s m (rows_in w s a b)) mesh_number,
          length-map (kept_pairs s m (rows_in w s a b)) (word_of_pair s),
          ap length (kept_words s m (rows_in w s a b)),
        )

    into : MeshSized s → b ≤ row_count s → KeptInto most o v o' v' (told_of g)
    into few within =
        let t = tallies (rows_few w s few a b within) in
        record {
          counts = λ i. record {
            count = kept_count i;
            listed = t.listed i;
            hits = t.hits i;
            misses = t.misses i;
            touches = t.touches i;
            aparts = t.aparts i;
          };
          list = subst (λ (ps : List Pair). Entered most o 0 (mesh_entries ps) o' g.count) (kept_is s m (rows_in w s a b)) k.list;
          bytes = subst (λ (vs : List Settled). Entered most v 0 (map byte_of vs) v' g.count) (kept_words s m (rows_in w s a b)) k.bytes;
        }

  pub judged_into : {most : ℕ} {o v o' v' : List ℕ} {none g : Going} {t : KeptRows} → none ≡ none_yet
      → KeptBy s m most (rows_in w s a b) o v none o' v' g → t ≡ told_of g → MeshSized s → b ≤ row_count s → KeptInto most o v o' v' t
  judged_into {most} {o} {v} {o'} {v'} {none} {g} e k told few within =
      subst (KeptInto most o v o' v') (sym told)
      (into (subst (λ (h : Going). KeptBy s m most (rows_in w s a b) o v h o' v' g) e k) few within)

  -- ---- out of one's own

  module _ {most room fits : ℕ} {e f e' f' : List ℕ} {t : KeptRows} (k : KeptInto most e f e' f' t) (smaller : fits ≡ min room most)
      (o v : List ℕ) where
    pub own_copied : {o' v' : List ℕ} → most ≤ length e → most ≤ length f → t.count ≤ fits → o' ≡ written (take t.count e') o
        → v' ≡ written (take t.count f') v
        → KeptOwn most room o v o' v' t
    own_copied long wide h p q =
        record {
          counts = k.counts;
          whole = λ _. (
            p ∙ ap (λ (l : List ℕ). written l o) (entered_wrote (omega (arith, smaller)) long k.list).front,
            q ∙ ap (λ (l : List ℕ). written l v) (entered_wrote (omega (arith, smaller)) wide k.bytes).front,
          );
          unchanged = λ g. absurd (omega (arith, smaller));
        }

    pub own_left : fits < t.count → KeptOwn most room o v o v t
    own_left h = record { counts = k.counts; whole = λ g. absurd (omega (arith, smaller)); unchanged = λ _. (refl, refl) }
