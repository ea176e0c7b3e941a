-- From the lent buffers of a whole scene back to its contacts: the byte of a pair and its row of five numbers are what it met.
use Rattle.std.specs.Prelude.{ℕ, zero, suc, ◌+◌, ◌*◌, ◌≤◌, ◌<◌, List, [], ◌∷◌, ◌++◌, map, ◌≡◌, refl, length, get_or, take, drop, Result}
use Rattle.std.proofs.Common.{arith, not-suc-le-zero, le_of_suc-le-suc, sym, ap, ◌∙◌, subst, ltb-false, length-drop, drop-drop, length-take-le}
use Rattle.std.proofs.lemmas.List.{length-map}
use Rattle.std.proofs.Math.Seq.{take-append_seam, drop-append_seam}
use Rattle.sequences.specs.Wrote.{written, written_in_front}
use Rattle.meaning.specs.Scene.{Scene}
use Rattle.meaning.specs.Refusals.{given, Check, Answers, scene_checks, room_check, outcome_of}
use Rattle.meaning.specs.List.{pairs}
use Rattle.meaning.specs.WholeContacts.{row_left, rows_left, range_check, contact_room, contact_list_checks, ContactsListed}
use Rattle.meaning.specs.declared.WholeContact.{WholeContact}
use Rattle.meaning.specs.declared.WholeContact.TheVariants.{Hit, Miss, Touch, Apart}
use Rattle.answers.specs.Answering.{is_given}
use Rattle.contact_entries.specs.Listed.{all_met_one, contacts_length}
use Rattle.meaning.specs.Numbers.{word_number}
use Rattle.c_numbers.specs.Back.{whole_contact_in, whole_contact_back}
use Rattle.meaning.specs.declared.Refused.{Refused}

-- the k-th row of a buffer
abbrev pub row_at : List ℕ → ℕ → List ℕ
row_at c k = take 5 (drop (5 * k) c)

-- what the k-th byte and the k-th row tell
abbrev pub whole_contact_at : List ℕ → List ℕ → ℕ → WholeContact
whole_contact_at b c k = whole_contact_in (row_at c k) (get_or b k 0)

row_long : (m : WholeContact) (o : List ℕ) → length o ≡ 5 → length (row_left m o) ≡ 5
unfolding row_left
row_long (Hit m) o h = refl
row_long Miss o h = h
row_long Touch o h = h
row_long Apart o h = h

-- behind a row of five the next row is the first of the rest
row_behind : (r o : List ℕ) (k : ℕ) → length r ≡ 5 → row_at (r ++ o) (suc k) ≡ row_at o k
row_behind r o k h =
    let five : 5 * suc k ≡ length r + 5 * k = omega arith in
    ap (λ (n : ℕ). take 5 (drop n (r ++ o))) five
    ∙ ap (take 5) (sym (drop-drop (5 * k) (length r) (r ++ o)) ∙ ap (drop (5 * k)) (drop-append_seam r o))

row_first : (r o : List ℕ) → length r ≡ 5 → row_at (r ++ o) 0 ≡ r
row_first r o h = ap (λ (n : ℕ). take n (r ++ o)) (sym h) ∙ take-append_seam r o

row_next : (o : List ℕ) (k : ℕ) → row_at (drop 5 o) k ≡ row_at o (suc k)
row_next o k =
    let five : 5 * suc k ≡ 5 + 5 * k = omega arith in
    ap (take 5) (drop-drop (5 * k) 5 o ∙ ap (λ (n : ℕ). drop n o) (sym five))

-- each row is left as its pair leaves it
rows_left_lem : (ms : List WholeContact) (o : List ℕ) → 5 * length ms ≤ length o → (k : ℕ) → k < length ms
    → row_at (rows_left ms o) k ≡ row_left (get_or ms k Miss) (row_at o k)
unfolding rows_left
rows_left_lem [] o room k below = absurd (not-suc-le-zero below)
rows_left_lem (m ∷ ms) o room zero below = row_first (row_left m (take 5 o)) _ (row_long m (take 5 o) (length-take-le 5 o (omega arith)))
rows_left_lem (m ∷ ms) o room (suc k) below =
    row_behind (row_left m (take 5 o)) (rows_left ms (drop 5 o)) k (row_long m (take 5 o) (length-take-le 5 o (omega arith)))
    ∙ rows_left_lem ms (drop 5 o) (omega (arith, length-drop 5 o)) k (le_of_suc-le-suc below)
    ∙ ap (row_left (get_or ms k Miss)) (row_next o k)

bytes_at : (ms : List WholeContact) (k : ℕ) → k < length ms → get_or (map word_number ms) k 0 ≡ word_number (get_or ms k Miss)
bytes_at [] k below = absurd (not-suc-le-zero below)
bytes_at (m ∷ ms) zero below = refl
bytes_at (m ∷ ms) (suc k) below = bytes_at ms k (le_of_suc-le-suc below)

-- so the buffers determine what each listed pair met
pub rows_heard : (ms : List WholeContact) (b c : List ℕ) → 5 * length ms ≤ length c → (k : ℕ) → k < length ms
    → whole_contact_at (written (map word_number ms) b) (rows_left ms c) k ≡ get_or ms k Miss
rows_heard ms b c room k below =
    let byte : get_or (written (map word_number ms) b) k 0 ≡ word_number (get_or ms k Miss) =
    written_in_front (map word_number ms) b k 0 (omega (arith, length-map ms word_number)) ∙ bytes_at ms k below in
    (λ t. whole_contact_in (rows_left_lem ms c room k below t) (byte t)) ∙ whole_contact_back (get_or ms k Miss) (row_at c k)

-- ---- after success there is a row for each listed pair

passes : {A : Type 0} (R : A → Type 0) (ks more : List Check) (a : A) → Answers (ks ++ more) R (given a) → Answers more R (given a)
unfolding Answers
passes R [] more a p = p
passes R (k ∷ ks) more a p = passes R ks more a (is_given R k (ks ++ more) a p).1

module _ {s : Scene} {o o' b b' c c' : List ℕ} {r : Result ℕ Refused} (p : ContactsListed s o o' b b' c c' r) where
  pub contacts_many : length p.contacts ≡ length (pairs s)
  contacts_many = ap length (all_met_one s (pairs s) p.contacts p.right) ∙ contacts_length s (pairs s)

  pub rows_fit : {n : ℕ} → outcome_of r ≡ given n → 5 * length p.contacts ≤ length c
  rows_fit {n} e =
      let R : ℕ → Type 0 = λ m. m ≡ length (pairs s) in
      let a : Answers (contact_list_checks s (contact_room o b c)) R (given n) = subst (Answers (contact_list_checks s (contact_room o b c)) R) e p.answer in
      let later : Answers (range_check s ∷ room_check (contact_room o b c) (length (pairs s)) ∷ []) R (given n) = passes R (scene_checks s) _ n a in
      let room = (is_given R (room_check (contact_room o b c) (length (pairs s))) [] n (is_given R (range_check s) _ n later).1).0 in
      let fits : length (pairs s) ≤ contact_room o b c = ltb-false (contact_room o b c) (length (pairs s)) room in
      omega (arith, fits, contacts_many)
