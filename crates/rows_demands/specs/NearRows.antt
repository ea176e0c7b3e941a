-- Whoever asks for hits and touches alone hears of near rows what is heard of all rows: the same entries and words and contacts are written, the same refusal
-- is given, and as many are kept, are hits and are touches.
use Rattle.std.specs.Prelude.{ℕ, min, false, List, [], ◌∷◌, map, ◌≡◌, refl, length, Result}
use Rattle.std.proofs.Common.{sym, ap, ◌∙◌, subst}
use Rattle.meaning.specs.Scene.{Scene}
use Rattle.meaning.specs.Refusals.{Outcome, given, refused, Check, Answers, room_check, outcome_of}
use Rattle.meaning.specs.List.{Pair, leaves}
use Rattle.meaning.specs.SceneWords.{byte_of}
use Rattle.meaning.specs.WholeContacts.{range_check, contact_room, rows_after}
use Rattle.meaning.specs.MeshRows.{Lent, row_count, row_checks, rows_in, mesh_entries, kept, kept_told, RowsKept, ContactsKept}
use Rattle.meaning.specs.declared.KeptRows.{KeptRows}
use Rattle.meaning.specs.declared.RowPairs.TheVariants.{Listed, Near}
use Rattle.meaning.specs.declared.Settled.{Settled}
use Rattle.meaning.specs.declared.Wanted.{Wanted}
use Rattle.meaning.specs.declared.WholeContact.{WholeContact}
use Rattle.answers.specs.Answering.{holds_or_not, is_refused, is_past}
use Rattle.contact_entries.specs.Listed.{contacts_of, all_met_one}
use Rattle.near_laws.specs.Rows.{SaysTheSame, near_says_the_same}
use Rattle.meaning.specs.declared.Refused.{Refused}

-- ---- two calls with the same checks are refused alike, or both give what is right

pub data Alike {A : Type 0} (R S : A → Type 0) (x y : Outcome A) : Type 0 where
  refused_alike : (n c : ℕ) → x ≡ refused n c → y ≡ refused n c → Alike R S x y
  both_given : (a b : A) → x ≡ given a → y ≡ given b → R a → S b → Alike R S x y

answers_alike : {A : Type 0} (R S : A → Type 0) (ks : List Check) (x y : Outcome A) → Answers ks R x → Answers ks S y → Alike R S x y
unfolding Answers
answers_alike R S [] (given a) (given b) p q = both_given a b refl refl p q
answers_alike R S [] (given a) (refused n c) p q = absurd q
answers_alike R S [] (refused n c) y p q = absurd p
answers_alike R S (k ∷ ks) x y p q =
    holds_or_not k.holds
    (λ h. refused_alike k.number k.carries (is_refused R k ks x h p) (is_refused S k ks y h q))
    (λ h. answers_alike R S ks x y (is_past R k ks x h p) (is_past S k ks y h q))

-- what is left in a lent list is then the same
left_alike : {A : Type 0} {R S : A → Type 0} {x y : Outcome A} → Alike R S x y → (l o : List ℕ) → leaves x l o ≡ leaves y l o
unfolding leaves
left_alike (refused_alike n c e f) l o = rw (e, f)
left_alike (both_given a b e f r s) l o = rw (e, f)

rows_alike : {A : Type 0} {R S : A → Type 0} {x y : Outcome A} → Alike R S x y → (ms : List WholeContact) (c : List ℕ) → rows_after x ms c ≡ rows_after y ms c
unfolding rows_after
rows_alike (refused_alike n d e f) ms c = rw (e, f)
rows_alike (both_given a b e f r s) ms c = rw (e, f)

-- ---- of the totals those that near rows have

pub record SameTold (t u : KeptRows) : Type 0 where
  pub counts : t.count ≡ u.count
  pub hits : t.hits ≡ u.hits
  pub touches : t.touches ≡ u.touches

pub data HeardTheSame (x y : Outcome KeptRows) : Type 0 where
  refused_too : (n c : ℕ) → x ≡ refused n c → y ≡ refused n c → HeardTheSame x y
  given_too : (t u : KeptRows) → x ≡ given t → y ≡ given u → SameTold t u → HeardTheSame x y

module _ (m : Wanted) (no_miss : m.miss ≡ false) (no_apart : m.apart ≡ false) (s : Scene) (l : Lent) (first end : ℕ) where
  told : {ws vs : List Settled} → SaysTheSame s m first end ws vs → SameTold (kept_told m ws) (kept_told m vs)
  told e = record { counts = ap length e.words; hits = e.hits; touches = e.touches }

  heard : {ws vs : List Settled} {x y : Outcome KeptRows} → SaysTheSame s m first end ws vs
      → Alike (λ t. t ≡ kept_told m ws) (λ t. t ≡ kept_told m vs) x y → HeardTheSame x y
  heard e (refused_alike n c p q) = refused_too n c p q
  heard {ws} {vs} e (both_given t u p q h k) = given_too t u p q (rw (h, k) (told e))

  -- the checks are the same, for as many are kept
  kept_alike : (checks : ℕ → List Check) {ws vs : List Settled} {x y : Outcome KeptRows} → SaysTheSame s m first end ws vs
      → Answers (checks (length (kept m ws ws))) (λ t. t ≡ kept_told m ws) x → Answers (checks (length (kept m vs vs))) (λ t. t ≡ kept_told m vs) y
      → Alike (λ t. t ≡ kept_told m ws) (λ t. t ≡ kept_told m vs) x y
  kept_alike checks {ws} {vs} {x} {y} e p q =
      answers_alike (λ t. t ≡ kept_told m ws) (λ t. t ≡ kept_told m vs) (checks (length (kept m vs vs))) x y
      (subst (λ (n : ℕ). Answers (checks n) (λ t. t ≡ kept_told m ws) x) (ap length e.words) p)
      q

  pub near_keeps_the_same : (o o' o'' b b' b'' : List ℕ) (r r' : Result KeptRows Refused) → RowsKept Listed m s l first end o o' b b' r
      → RowsKept Near m s l first end o o'' b b'' r' → HeardTheSame (outcome_of r) (outcome_of r') × (o' ≡ o'') × (b' ≡ b'')
  near_keeps_the_same o o' o'' b b' b'' r r' p q =
      let e = near_says_the_same s m first end no_miss no_apart p.right q.right in
      let alike =
      kept_alike (λ n. row_checks s l (row_count s) first end (room_check (min (length o) (length b)) n ∷ [])) e p.answer q.answer in (
        heard e alike,
        p.list
            ∙ left_alike alike (mesh_entries (kept m p.words (rows_in Listed s first end))) o
            ∙ ap (λ (ps : List Pair). leaves (outcome_of r') (mesh_entries ps) o) e.pairs
            ∙ sym q.list,
        p.bytes
            ∙ left_alike alike (map byte_of (kept m p.words p.words)) b
            ∙ ap (λ (ws : List Settled). leaves (outcome_of r') (map byte_of ws) b) e.words
            ∙ sym q.bytes,
      )

  pub near_meets_the_same : (o o' o'' b b' b'' c c' c'' : List ℕ) (r r' : Result KeptRows Refused) → ContactsKept Listed m s l first end o o' b b' c c' r
      → ContactsKept Near m s l first end o o'' b b'' c c'' r' → HeardTheSame (outcome_of r) (outcome_of r') × (o' ≡ o'') × (b' ≡ b'') × (c' ≡ c'')
  near_meets_the_same o o' o'' b b' b'' c c' c'' r r' p q =
      let e = near_says_the_same s m first end no_miss no_apart p.right q.right in
      let alike =
      kept_alike (λ n. row_checks s l (row_count s) first end (range_check s ∷ room_check (contact_room o b c) n ∷ [])) e p.answer q.answer in
      let met : p.contacts ≡ q.contacts =
      all_met_one s (kept m p.words (rows_in Listed s first end)) p.contacts p.met
      ∙ ap (contacts_of s) e.pairs
      ∙ sym (all_met_one s (kept m q.words (rows_in Near s first end)) q.contacts q.met) in (
        heard e alike,
        p.list
            ∙ left_alike alike (mesh_entries (kept m p.words (rows_in Listed s first end))) o
            ∙ ap (λ (ps : List Pair). leaves (outcome_of r') (mesh_entries ps) o) e.pairs
            ∙ sym q.list,
        p.bytes
            ∙ left_alike alike (map byte_of (kept m p.words p.words)) b
            ∙ ap (λ (ws : List Settled). leaves (outcome_of r') (map byte_of ws) b) e.words
            ∙ sym q.bytes,
        p.rows ∙ rows_alike alike p.contacts c ∙ ap (λ (ms : List WholeContact). rows_after (outcome_of r') ms c) met ∙ sym q.rows,
      )
