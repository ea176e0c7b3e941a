-- Each promise determines the number and every lent buffer, refused calls too; and what a caller hears in the number is right.
use Rattle.std.specs.Prelude.{ℕ, ◌<◌, min, List, [], ◌∷◌, map, ◌≡◌, refl, length, get_or, Err, Ok, Result}
use Rattle.std.proofs.Common.{sym, ap, ◌∙◌, arith}
use Rattle.meaning.specs.Scene.{Scene}
use Rattle.meaning.specs.Pieces.{piece_of}
use Rattle.meaning.specs.Verdicts.{PieceIs, PairIs}
use Rattle.meaning.specs.Refusals.{given, refused, Answers, scene_checks, pair_checks, piece_checks, SceneChecked, PairJudged, PieceJudged, outcome_alone, outcome_of}
use Rattle.meaning.specs.Resting.{PieceSettled, PairSettled, PairDecided, PieceDecided}
use Rattle.meaning.specs.Backwards.{turned_left, Turning}
use Rattle.sequences.specs.Wrote.{written}
use Rattle.meaning.specs.List.{pairs, entries, room_of, list_checks, leaves, Counted, Listing}
use Rattle.meaning.specs.Runs.{tests_left, Tested}
use Rattle.meaning.specs.SceneWords.{byte_of, SettledScene}
use Rattle.meaning.specs.declared.Kind.{Kind}
use Rattle.meaning.specs.declared.SceneCounts.{SceneCounts}
use Rattle.list_words.specs.Listed.{word_of_byte}
use Rattle.answers.specs.Speaking.{one_scene_answer, one_alone}
use Rattle.turning.specs.OneTurning.{one_turning}
use Rattle.three_words.specs.OneResult.{one_pair, one_piece}
use Rattle.four_words.specs.OneResult.{one_settled_pair, one_settled_piece}
use Rattle.list_pairs.specs.OneResult.{one_tested_count, one_tested_listing}
use Rattle.list_words.specs.OneResult.{one_judging}
use Rattle.text_scene.specs.OneReading.{one_reading}
use Rattle.demands.specs.TextTable.{TextRows, demand1_text}
use Rattle.demands.specs.Unchanged.{reading_unchanged, SceneInFront, reading_holds}
use Rattle.meaning.specs.WholeContacts.{WholeContactIs, contact_checks, contact_list_checks, contact_room, rows_left, rows_after, ContactsListed}
use Rattle.meaning.specs.declared.WholeContact.TheVariants.{Miss}
use Rattle.contact_scene.specs.OneResult.{one_whole_contact_answer, one_met_scene}
use Rattle.meaning.specs.Numbers.{word_number, contact_number, row_after, ContactInto}
use Rattle.meaning.specs.Numbers.{scene_number, pair_number, settled_number, list_number, text_number, counts_left, ReadInto, Numbered}
use Rattle.c_numbers.specs.Small.{counted_small, listing_small, judging_small, met_small, line_small}
use Rattle.c_numbers.specs.Back.{heard, no_more, count, counts_in, verdict_numbered, whole_contact_in, scene_heard, pair_heard, settled_heard, list_heard, text_heard, contact_heard}
use Rattle.c_numbers.specs.RowsBack.{whole_contact_at, rows_heard, contacts_many, rows_fit}
use Rattle.meaning.specs.Saved.{saved_text, saved_checks, save_checks, Measured, Saved}
use Rattle.meaning.specs.Numbers.{saved_number}
use Rattle.c_numbers.specs.Saved.{saved_heard, measured_small, saved_small, one_measured_told, one_saved_told}
use Rattle.meaning.specs.declared.WholeContact.{WholeContact}
use Rattle.meaning.specs.declared.Refusal.{Refusal}
use Rattle.meaning.specs.declared.Refused.{Refused}

-- one right answer, one number
one_number : {A : Type 0} {number : A → ℕ} {R S : A → Type 0} {r r' : ℕ} (p : Numbered number R r) (q : Numbered number S r') → p.answer ≡ q.answer → r ≡ r'
one_number {A} {number} p q e = p.is ∙ ap number e ∙ sym q.is

pub one_check_lem : (s : Scene) (r r' : ℕ) → Numbered scene_number (SceneChecked s) r → Numbered scene_number (SceneChecked s) r' → r ≡ r'
one_check_lem s r r' p q = one_number p q (one_scene_answer s p.answer q.answer p.right q.right)

pub one_turning_told : (s t t' : Scene) (r r' : ℕ) → Numbered scene_number (Turning s t) r → Numbered scene_number (Turning s t') r' → (r ≡ r') × (t ≡ t')
one_turning_told s t t' r r' p q =
    let (same, scene) = one_turning s t t' p.answer q.answer p.right q.right in
    (one_number p q same, scene)

pub one_pair_told : (s : Scene) (kind : Kind) (i j r r' : ℕ) → Numbered pair_number (PairJudged s kind i j) r → Numbered pair_number (PairJudged s kind i j) r' → r ≡ r'
one_pair_told s kind i j r r' p q = one_number p q (one_pair s kind i j p.answer q.answer p.right q.right)

pub one_piece_told : (s : Scene) (kind : Kind) (i j k r r' : ℕ) → Numbered pair_number (PieceJudged s kind i j k) r → Numbered pair_number (PieceJudged s kind i j k) r' → r ≡ r'
one_piece_told s kind i j k r r' p q = one_number p q (one_piece s kind i j k p.answer q.answer p.right q.right)

pub one_settled_pair_told : (s : Scene) (kind : Kind) (i j r r' : ℕ) → Numbered settled_number (PairDecided s kind i j) r → Numbered settled_number (PairDecided s kind i j) r' → r ≡ r'
one_settled_pair_told s kind i j r r' p q = one_number p q (one_settled_pair s kind i j p.answer q.answer p.right q.right)

pub one_settled_piece_told : (s : Scene) (kind : Kind) (i j k r r' : ℕ) → Numbered settled_number (PieceDecided s kind i j k) r → Numbered settled_number (PieceDecided s kind i j k) r' → r ≡ r'
one_settled_piece_told s kind i j k r r' p q = one_number p q (one_settled_piece s kind i j k p.answer q.answer p.right q.right)

pub one_count_told : (s : Scene) (t t' t'' : List ℕ) (r r' : ℕ) → Numbered list_number (Tested s (Counted s) t t') r
    → Numbered list_number (Tested s (Counted s) t t'') r' → (r ≡ r') × (t' ≡ t'')
one_count_told s t t' t'' r r' p q =
    let (same, tests) = one_tested_count s t t' t'' p.answer q.answer p.right q.right in
    (one_number p q same, tests)

pub one_list_told : (s : Scene) (o o' o'' t t' t'' : List ℕ) (r r' : ℕ) → Numbered list_number (Tested s (Listing s o o') t t') r
    → Numbered list_number (Tested s (Listing s o o'') t t'') r' → (r ≡ r') × (o' ≡ o'') × (t' ≡ t'')
one_list_told s o o' o'' t t' t'' r r' p q =
    let (same, list, tests) = one_tested_listing s o o' o'' t t' t'' p.answer q.answer p.right q.right in
    (one_number p q same, list, tests)

pub one_judging_told : (s : Scene) (o o' o'' b b' b'' : List ℕ) (r r' : ℕ) → Numbered list_number (SettledScene s o o' b b') r
    → Numbered list_number (SettledScene s o o'' b b'') r' → (r ≡ r') × (o' ≡ o'') × (b' ≡ b'')
one_judging_told s o o' o'' b b' b'' r r' p q =
    let (same, list, bytes) = one_judging s o o' o'' b b' b'' p.answer q.answer p.right q.right in
    (one_number p q same, list, bytes)

pub one_contact_told : (s : Scene) (kind : Kind) (i j : ℕ) (o o' o'' : List ℕ) (r r' : ℕ) → Numbered contact_number (ContactInto s kind i j o o') r
    → Numbered contact_number (ContactInto s kind i j o o'') r' → (r ≡ r') × (o' ≡ o'')
one_contact_told s kind i j o o' o'' r r' p q =
    let same = one_whole_contact_answer s kind i j p.answer q.answer p.right.found q.right.found in
    (one_number p q same, p.right.row ∙ ap (λ (a : Result WholeContact Refusal). row_after (outcome_alone a) o) same ∙ sym q.right.row)

pub one_met_told : (s : Scene) (o o' o'' b b' b'' c c' c'' : List ℕ) (r r' : ℕ) → Numbered list_number (ContactsListed s o o' b b' c c') r
    → Numbered list_number (ContactsListed s o o'' b b'' c c'') r' → (r ≡ r') × (o' ≡ o'') × (b' ≡ b'') × (c' ≡ c'')
one_met_told s o o' o'' b b' b'' c c' c'' r r' p q =
    let (same, list, bytes, rows) = one_met_scene s o o' o'' b b' b'' c c' c'' p.answer q.answer p.right q.right in
    (one_number p q same, list, bytes, rows)

pub one_reading_told : (text : List ℕ) (lent left left' : Scene) (l l' l'' : List ℕ) (r r' : ℕ) → Numbered text_number (ReadInto text lent left l l') r
    → Numbered text_number (ReadInto text lent left' l l'') r' → (r ≡ r') × (left ≡ left') × (l' ≡ l'')
one_reading_told text lent left left' l l' l'' r r' p q =
    let (same, scene) = one_reading text lent left left' p.answer q.answer p.right.scene q.right.scene in
    (one_number p q same, scene, p.right.counts ∙ ap (λ (a : Result SceneCounts Refused). counts_left a l) same ∙ sym q.right.counts)

-- ---- what is heard in the number is right

pub check_heard : (s : Scene) (r : ℕ) → Numbered scene_number (SceneChecked s) r → Answers (scene_checks s) (λ t. Unit {0}) (heard no_more r)
check_heard s r p = rw (p.is, scene_heard p.answer) p.right

pub turning_heard : (s t : Scene) (r : ℕ) → Numbered scene_number (Turning s t) r
    → Answers (scene_checks s) (λ t. Unit {0}) (heard no_more r) × (t ≡ turned_left (heard no_more r) s)
turning_heard s t r p = rw (p.is, scene_heard p.answer) (p.right.answer, p.right.scene)

pub pair_told_heard : (s : Scene) (kind : Kind) (i j r : ℕ) → Numbered pair_number (PairJudged s kind i j) r
    → Answers (pair_checks s kind i j) (PairIs s kind i j) (heard verdict_numbered r)
pair_told_heard s kind i j r p = rw (p.is, pair_heard p.answer) p.right

pub piece_told_heard : (s : Scene) (kind : Kind) (i j k r : ℕ) → Numbered pair_number (PieceJudged s kind i j k) r
    → Answers (piece_checks s kind i j k) (PieceIs (piece_of s kind i j k)) (heard verdict_numbered r)
piece_told_heard s kind i j k r p = rw (p.is, pair_heard p.answer) p.right

pub settled_pair_heard : (s : Scene) (kind : Kind) (i j r : ℕ) → Numbered settled_number (PairDecided s kind i j) r
    → Answers (pair_checks s kind i j) (PairSettled s kind i j) (heard word_of_byte r)
settled_pair_heard s kind i j r p = rw (p.is, settled_heard p.answer) p.right

pub settled_piece_heard : (s : Scene) (kind : Kind) (i j k r : ℕ) → Numbered settled_number (PieceDecided s kind i j k) r
    → Answers (piece_checks s kind i j k) (PieceSettled (piece_of s kind i j k)) (heard word_of_byte r)
settled_piece_heard s kind i j k r p = rw (p.is, settled_heard p.answer) p.right

pub count_heard : (s : Scene) (t t' : List ℕ) (r : ℕ) → Numbered list_number (Tested s (Counted s) t t') r
    → Answers (scene_checks s) (λ n. n ≡ length (pairs s)) (heard count r) × (t' ≡ tests_left s (heard count r) t)
count_heard s t t' r p =
    rw (p.is, list_heard p.answer (counted_small s p.answer p.right.list)) (p.right.list, p.right.tests)

pub list_told_heard : (s : Scene) (o o' t t' : List ℕ) (r : ℕ) → Numbered list_number (Tested s (Listing s o o') t t') r
    → Answers (list_checks s (room_of o)) (λ n. n ≡ length (pairs s)) (heard count r)
    × (o' ≡ leaves (heard count r) (entries (pairs s)) o)
    × (t' ≡ tests_left s (heard count r) t)
list_told_heard s o o' t t' r p =
    rw (p.is, list_heard p.answer (listing_small p.right.list)) (p.right.list.answer, p.right.list.buffer, p.right.tests)

pub judging_told_heard : (s : Scene) (o o' b b' : List ℕ) (r : ℕ) → (p : Numbered list_number (SettledScene s o o' b b') r)
    → Answers (list_checks s (min (room_of o) (length b))) (λ n. n ≡ length (pairs s)) (heard count r)
    × (o' ≡ leaves (heard count r) (entries (pairs s)) o)
    × (b' ≡ leaves (heard count r) (map byte_of p.right.words) b)
judging_told_heard s o o' b b' r p =
    rw (p.is, list_heard p.answer (judging_small p.right)) (p.right.answer, p.right.list, p.right.bytes)

-- of a contact the number and the lent array together: the word, and a hit's numbers
pub contact_told_heard : (s : Scene) (kind : Kind) (i j : ℕ) (o o' : List ℕ) (r : ℕ) → Numbered contact_number (ContactInto s kind i j o o') r
    → Answers (contact_checks s kind i j) (WholeContactIs s kind i j) (heard (whole_contact_in o') r)
    × (o' ≡ row_after (heard (whole_contact_in o') r) o)
contact_told_heard s kind i j o o' r p =
    let says : heard (whole_contact_in o') r ≡ outcome_alone p.answer = rw (p.is, p.right.row) (contact_heard p.answer o) in
    (rw says p.right.found, rw says p.right.row)

-- so they determine the answer
pub one_contact_number : (a b : Result WholeContact Refusal) (o : List ℕ) → contact_number a ≡ contact_number b → row_after (outcome_alone a) o ≡ row_after (outcome_alone b) o → a ≡ b
one_contact_number a b o e f =
    one_alone a b (sym (contact_heard a o) ∙ (λ i. heard (whole_contact_in (f i)) (e i)) ∙ contact_heard b o)

-- of a whole scene the number, and the three lent buffers
pub met_told_heard : (s : Scene) (o o' b b' c c' : List ℕ) (r : ℕ) → (p : Numbered list_number (ContactsListed s o o' b b' c c') r)
    → Answers (contact_list_checks s (contact_room o b c)) (λ n. n ≡ length (pairs s)) (heard count r)
    × (o' ≡ leaves (heard count r) (entries (pairs s)) o)
    × (b' ≡ leaves (heard count r) (map word_number p.right.contacts) b)
    × (c' ≡ rows_after (heard count r) p.right.contacts c)
met_told_heard s o o' b b' c c' r p =
    rw (p.is, list_heard p.answer (met_small p.right)) (p.right.answer, p.right.list, p.right.bytes, p.right.rows)

-- after success the byte and the row of each listed pair tell what it met
pub met_rows_heard : (s : Scene) (o o' b b' c c' : List ℕ) (r n : ℕ) → (p : Numbered list_number (ContactsListed s o o' b b' c c') r) → heard count r ≡ given n
    → (k : ℕ) → k < length (pairs s) → whole_contact_at b' c' k ≡ get_or p.right.contacts k Miss
unfolding leaves rows_after
met_rows_heard s o o' b b' c c' r n p e k below =
    let ms = p.right.contacts in
    let says : outcome_of p.answer ≡ given n = sym (list_heard p.answer (met_small p.right)) ∙ ap (heard count) (sym p.is) ∙ e in
    let bytes : b' ≡ written (map word_number ms) b = rw says at p.right.bytes in
    let rows : c' ≡ rows_left ms c = rw says at p.right.rows in
    (λ t. whole_contact_at (bytes t) (rows t) k) ∙ rows_heard ms b c (rows_fit p.right says) k (rw (contacts_many p.right) below)

-- ---- and of a text too what the lent buffers then hold

-- a refusal leaves the array of counts
pub counts_refused : (a : Result SceneCounts Refused) (l : List ℕ) (n line : ℕ) → outcome_of a ≡ refused n line → counts_left a l ≡ l
unfolding outcome_of counts_left
counts_refused (Ok c) l n line e = let z : ◌≡◌ {A = ℕ} 0 1 = cc in absurd (omega arith)
counts_refused (Err x) l n line e = refl

-- after success it holds them
pub counts_given : (a : Result SceneCounts Refused) (l : List ℕ) (c : SceneCounts) → outcome_of a ≡ given c → counts_left a l ≡ c.vertices ∷ c.edges ∷ c.triangles ∷ c.seams ∷ []
unfolding outcome_of counts_left
counts_given (Ok d) l c e = let same : d ≡ c = cc in ap (λ (k : SceneCounts). k.vertices ∷ k.edges ∷ k.triangles ∷ k.seams ∷ []) same
counts_given (Err x) l c e = let z : ◌≡◌ {A = ℕ} 0 1 = cc in absurd (omega arith)

-- a refusal leaves all five buffers as they were; after success the scene stands in front in four of them, the counts in the fifth
pub reading_told_heard : (text : List ℕ) (lent left : Scene) (l l' : List ℕ) (r : ℕ) → Numbered text_number (ReadInto text lent left l l') r
    → TextRows text lent (heard (counts_in l') r)
    × ((n line : ℕ) → heard (counts_in l') r ≡ refused n line → (left ≡ lent) × (l' ≡ l))
    × ((c : SceneCounts) → heard (counts_in l') r ≡ given c → SceneInFront text lent left c × (l' ≡ c.vertices ∷ c.edges ∷ c.triangles ∷ c.seams ∷ []))
reading_told_heard text lent left l l' r p =
    let says : heard (counts_in l') r ≡ outcome_of p.answer = rw (p.is, p.right.counts) (text_heard p.answer l (line_small p.right.scene)) in (
      rw says (demand1_text text lent left p.answer p.right.scene),
      λ n line e. (
        reading_unchanged text lent left p.answer p.right.scene n line (sym says ∙ e),
        p.right.counts ∙ counts_refused p.answer l n line (sym says ∙ e),
      ),
      λ c e. (
        reading_holds text lent left p.answer p.right.scene c (sym says ∙ e),
        p.right.counts ∙ counts_given p.answer l c (sym says ∙ e),
      ),
    )

-- ---- saving

pub one_length_told : (s : Scene) (r r' : ℕ) → Numbered saved_number (Measured s) r → Numbered saved_number (Measured s) r' → r ≡ r'
one_length_told s r r' p q = one_measured_told s r r' p q

pub one_saving_told : (s : Scene) (o o' o'' : List ℕ) (r r' : ℕ) → Numbered saved_number (Saved s o o') r → Numbered saved_number (Saved s o o'') r'
    → (r ≡ r') × (o' ≡ o'')
one_saving_told s o o' o'' r r' p q = one_saved_told p q

pub length_told_heard : (s : Scene) (r : ℕ) → Numbered saved_number (Measured s) r → Answers (saved_checks s) (λ n. n ≡ length (saved_text s)) (heard count r)
length_told_heard s r p = rw (p.is, saved_heard p.answer (measured_small s p.answer p.right)) p.right

pub saving_told_heard : (s : Scene) (o o' : List ℕ) (r : ℕ) → Numbered saved_number (Saved s o o') r
    → Answers (save_checks s (length o)) (λ n. n ≡ length (saved_text s)) (heard count r) × (o' ≡ leaves (heard count r) (saved_text s) o)
saving_told_heard s o o' r p =
    rw (p.is, saved_heard p.answer (saved_small p.right)) (p.right.answer, p.right.buffer)
