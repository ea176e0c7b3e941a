-- The pairs of a stretch that were kept, with the contacts of the hits among them: what each way out of the call gives.
use Rattle.std.specs.Prelude.{ℕ, ◌≤◌, Bool, true, false, ◌≡◌, length, take, drop, Err, Ok, Result}
use mathlib.Core.List.Memᴰ
use mathlib.Core.List.{List, [], ◌∷◌, map, Memᴰ}
use Rattle.std.proofs.Common.{⊎_elim, sym, ◌∙◌, arith, take_at}
use Rattle.std.proofs.Math.Path.{refl, ap, subst}
use Rattle.std.proofs.lemmas.List.{length-map}
use borrow.Author.Tests.{ltb-false}
use Rattle.sequences.specs.Pick.{pick}
use Rattle.sequences.specs.Wrote.{written, written_length}
use Rattle.meaning.specs.Limits.{contact_limit}
use Rattle.meaning.specs.Scene.{Scene, reaches_beyond}
use Rattle.meaning.specs.Refusals.{number_of, room_check, Answers, carrying, outcome_of}
use Rattle.meaning.specs.List.{Pair, leaves}
use Rattle.meaning.specs.SceneWords.{byte_of}
use Rattle.meaning.specs.WholeContacts.{range_check, contact_room, rows_left, rows_after}
use Rattle.meaning.specs.MeshRows.{Lent, row_count, rows_in, mesh_number, wants_word, kept, ContactsKept}
use Rattle.meaning.specs.declared.KeptRows.{KeptRows}
use Rattle.meaning.specs.declared.Refusal.{Refusal}
use Rattle.meaning.specs.declared.Refusal.TheVariants.{BeyondOldRange}
use Rattle.meaning.specs.declared.RowPairs.{RowPairs}
use Rattle.meaning.specs.declared.Wanted.{Wanted}
use Rattle.answers.specs.Answering.{refuses, lets_pass, is_given}
use Rattle.list_words.specs.Listed.{word_of_pair, words_of, bytes_of, all_judged}
use Rattle.contact_entries.specs.Listed.{contacts_of, all_met}
use Rattle.mesh_laws.specs.Entries.{MeshSized}
use Rattle.mesh_asked.specs.Asking.{RowsAsked, refused_first, passed_first}
use Rattle.mesh_list.specs.Answering.{told_by, open_told}
use Rattle.mesh_words.specs.Asked.{mesh_pairs_in, MeshThere, Entered, entered_pairs, entered_there}
use Rattle.mesh_words.specs.OfRows.{rows_of_list, listed_entered}
use Rattle.mesh_keep.specs.Keeping.{kept_pairs, kept_is, kept_words}
use Rattle.mesh_judged.specs.Judged.{row_words, kept_entries, kept_bytes, KeptTold}
use Rattle.mesh_keeping.specs.Kept.{StretchKept}
use Rattle.meaning.specs.declared.Refused.{Refused}

-- what is kept was there
module _ (s : Scene) (m : Wanted) where
  picked : {p q : Pair} (t : Bool) (ks ps : List Pair) → (Memᴰ p ks → Memᴰ p ps) → Memᴰ p (pick t (q ∷ ks) ks) → Memᴰ p (q ∷ ps)
  picked true ks ps more h = ⊎_elim (λ e. Memᴰ.head e) (λ n. Memᴰ.tail (more n)) (Memᴰ.cases_cons h)
  picked false ks ps more h = Memᴰ.tail (more h)

  kept_from : {p : Pair} (ps : List Pair) → Memᴰ p (kept_pairs s m ps) → Memᴰ p ps
  unfolding kept_pairs
  kept_from [] h = h
  kept_from (q ∷ ps) h = picked (wants_word m (word_of_pair s q)) (kept_pairs s m ps) ps (kept_from ps) h

module _ (w : RowPairs) (m : Wanted) (s : Scene) (a b : ℕ) where
  abbrev rows : List Pair
  rows = rows_in w s a b

  abbrev pub kept_rows : List Pair
  kept_rows = kept m (row_words w s a b) rows

  -- ---- a stretch of which pairs were kept

  pub record KeptMade (room : ℕ) (o o' v v' : List ℕ) (n : ℕ) : Type 0 where
    pub counts : n ≡ length (kept m (row_words w s a b) (row_words w s a b))
    pub fits : n ≤ room
    pub list : o' ≡ written (kept_entries w m s a b) o
    pub bytes : v' ≡ written (kept_bytes w m s a b) v

  module _ {room : ℕ} {o o' v v' : List ℕ} {r : Result KeptRows Refused} (l : StretchKept w m s a b room o o' v v' r) {t : KeptRows} (e : r ≡ Ok t) where
    pub kept_made : KeptMade room o o' v v' t.count
    unfolding outcome_of leaves Answers
    kept_made =
        let k : StretchKept w m s a b room o o' v v' (Ok t) = subst (StretchKept w m s a b room o o' v v') e l in
        let (h, rest) = is_given (KeptTold w m s a b) (room_check room (length (kept m (row_words w s a b) (row_words w s a b)))) [] t k.answer in
        let same = ap (λ (u : KeptRows). u.count) rest in
        record {
          counts = same;
          fits = omega (arith, same, ltb-false room (length (kept m (row_words w s a b) (row_words w s a b))) h);
          list = k.list;
          bytes = k.bytes;
        }

  -- the words of those that are kept
  words_kept : words_of s kept_rows ≡ kept m (row_words w s a b) (row_words w s a b)
  words_kept = ap (words_of s) (sym (kept_is s m rows)) ∙ kept_words s m rows

  module _ {room n : ℕ} {o o' v v' : List ℕ} (few : MeshSized s) (within : b ≤ row_count s) (high : room ≤ length o) (wide : room ≤ length v) (made : KeptMade room o o' v v' n) where
    long : length (kept_entries w m s a b) ≡ n
    long =
        omega (arith, length-map kept_rows mesh_number, length-map kept_rows (word_of_pair s), ap length words_kept, made.counts)

    bytes_long : length (kept_bytes w m s a b) ≡ n
    bytes_long = omega (arith, length-map (kept m (row_words w s a b) (row_words w s a b)) byte_of, made.counts)

    pub made_room : n ≤ length o'
    made_room =
        omega (arith, ap length made.list, written_length (kept_entries w m s a b) o (omega (arith, long, made.fits, high)), made.fits, high)

    pub bytes_room : n ≤ length v'
    bytes_room =
        omega (arith, ap length made.bytes, written_length (kept_bytes w m s a b) v (omega (arith, bytes_long, made.fits, wide)), made.fits, wide)

    made_entered : Entered s n o' kept_rows
    made_entered =
        listed_entered s few n o' kept_rows
        (λ p h. rows_of_list s w a b within p (kept_from s m rows (subst (Memᴰ p) (sym (kept_is s m rows)) h)))
        made_room
        (ap (take n) made.list ∙ take_at (kept_entries w m s a b) (drop (length (kept_entries w m s a b)) o) n long)

    pub made_there : MeshThere s n o'
    made_there = entered_there made_entered

    pub made_pairs : mesh_pairs_in n o' ≡ kept_rows
    made_pairs = entered_pairs made_entered

    pub made_words : take n v' ≡ bytes_of s (mesh_pairs_in n o')
    made_words =
        ap (take n) made.bytes
        ∙ take_at (kept_bytes w m s a b) (drop (length (kept_bytes w m s a b)) v) n bytes_long
        ∙ ap (map byte_of) (sym words_kept)
        ∙ ap (bytes_of s) (sym made_pairs)

  -- ---- within the old range

  pub record KeptNear (room : ℕ) (o o' v v' c c' : List ℕ) (r : Result KeptRows Refused) : Type 0 where
    pub stays : StretchKept w m s a b room o o' v v' r
    pub rows : c' ≡ rows_after (outcome_of r) (contacts_of s kept_rows) c

  module _ {room : ℕ} {o o' v v' : List ℕ} {r : Result KeptRows Refused} (l : StretchKept w m s a b room o o' v v' r) where
    pub near_made : {t : KeptRows} {c c' : List ℕ} → MeshSized s → b ≤ row_count s → room ≤ length o → room ≤ length v
        → r ≡ Ok t
        → c' ≡ rows_left (contacts_of s (mesh_pairs_in t.count o')) c
        → KeptNear room o o' v v' c c' (Ok t)
    unfolding outcome_of rows_after
    near_made {c = c} few within high wide e k =
        record {
          stays = subst (StretchKept w m s a b room o o' v v') e l;
          rows = k ∙ ap (λ (ps : List Pair). rows_left (contacts_of s ps) c) (made_pairs few within high wide (kept_made l e));
        }

    pub near_without : {x : Refused} {c : List ℕ} → r ≡ Err x → KeptNear room o o' v v' c c (Err x)
    unfolding outcome_of rows_after
    near_without e = record { stays = subst (StretchKept w m s a b room o o' v v') e l; rows = refl }

  -- ---- 16, then 7

  pub record KeptThere (o o' v v' c c' : List ℕ) (r : Result KeptRows Refused) : Type 0 where
    pub answer : Answers
        (range_check s ∷ room_check (contact_room o v c) (length (kept m (row_words w s a b) (row_words w s a b))) ∷ [])
        (KeptTold w m s a b)
        (outcome_of r)
    pub list : o' ≡ leaves (outcome_of r) (kept_entries w m s a b) o
    pub bytes : v' ≡ leaves (outcome_of r) (kept_bytes w m s a b) v
    pub rows : c' ≡ rows_after (outcome_of r) (contacts_of s kept_rows) c

  pub kept_beyond : (o v c : List ℕ) → reaches_beyond contact_limit s ≡ true → KeptThere o o v v c c (Err (carrying BeyondOldRange 0))
  unfolding outcome_of leaves rows_after number_of
  kept_beyond o v c h = record { answer = refuses _ _ _ _ h refl; list = refl; bytes = refl; rows = refl }

  pub kept_near : (o v c : List ℕ) {o' v' c' : List ℕ} {r : Result KeptRows Refused} → reaches_beyond contact_limit s ≡ false
      → KeptNear (contact_room o v c) o o' v v' c c' r
      → KeptThere o o' v v' c c' r
  kept_near o v c h k =
      record { answer = lets_pass _ _ _ _ h k.stays.answer; list = k.stays.list; bytes = k.stays.bytes; rows = k.rows }

-- ---- the answer of the whole call

module _ (w : RowPairs) (m : Wanted) (s : Scene) (l : Lent) (first end : ℕ) {t' : List ℕ} {asked : Result (Unit {0}) Refusal} (p : RowsAsked s l (row_count s) first end t' asked) where
  pub not_met : (o v c : List ℕ) (x : Refusal) → asked ≡ Err x
      → ContactsKept w m s l first end o o v v c c (Err (carrying x 0))
  unfolding outcome_of leaves rows_after
  not_met o v c x e =
      record {
        words = row_words w s first end;
        right = all_judged s (rows_in w s first end);
        answer = refused_first p (KeptTold w m s first end) _ x e;
        list = refl;
        bytes = refl;
        contacts = contacts_of s (kept_rows w m s first end);
        met = all_met s (kept_rows w m s first end);
        rows = refl;
      }

  pub met : {o o' v v' c c' : List ℕ} {r : Result KeptRows Refused} → asked ≡ Ok tt
      → KeptThere w m (told_by s t') first end o o' v v' c c' r
      → ContactsKept w m s l first end o o' v v' c c' r
  met {o} {o'} {v} {v'} {c} {c'} {r} passed h =
      let k = subst (λ (n : Scene). KeptThere w m n first end o o' v v' c c' r) (open_told p passed) h in
      record {
        words = row_words w s first end;
        right = all_judged s (rows_in w s first end);
        answer = passed_first p (KeptTold w m s first end) _ (outcome_of r) passed k.answer;
        list = k.list;
        bytes = k.bytes;
        contacts = contacts_of s (kept_rows w m s first end);
        met = all_met s (kept_rows w m s first end);
        rows = k.rows;
      }
