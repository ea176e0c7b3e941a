-- The lines of a list and of what its pairs met, one pair at a time; no line is long, so any lines fit.
use Rattle.std.specs.Prelude.{ℕ, zero, suc, ◌+◌, ◌*◌, ◌≤◌, ◌<◌, ◌≡◌, length, get_or, drop}
use mathlib.Core.List.{List, [], ◌∷◌, ◌++◌, map}
use Rattle.std.proofs.Math.Path.{refl, ap}
use Rattle.std.proofs.Common.{sym, ◌∙◌, length-append, drop_of_length-le}
use native.Mathlib.Omega.{arith}
use Rattle.decimals.specs.Digits.{digits}
use Rattle.decimals.specs.Value.{digits_length}
use Rattle.cutting.specs.Cut.{unit}
use Rattle.sequences.specs.Parts.{drop_next}
use Rattle.sequences.specs.Wrote.{Wrote, wrote_then}
use Rattle.sequences.specs.Writing.{Writing, writing_as, writing_ends}
use Rattle.meaning.specs.Scene.{Scene}
use Rattle.meaning.specs.List.{Pair, place_step, pairs}
use Rattle.meaning.specs.Text.{further}
use Rattle.meaning.specs.SceneWords.{byte_of}
use Rattle.meaning.specs.Report.{total_word, report_line, is_one, how_many}
use Rattle.meaning.specs.WholeContacts.{WholeContactIs, word_of}
use Rattle.meaning.specs.ContactLines.{share_fields, contact_line, contact_lines, contact_total}
use Rattle.meaning.specs.declared.Kind.{Kind}
use Rattle.meaning.specs.declared.Kind.TheVariants.{PointTriangle, EdgeEdge}
use Rattle.meaning.specs.declared.Settled as Settleds
use Rattle.meaning.specs.declared.ContactNumbers.{ContactNumbers}
use Rattle.meaning.specs.declared.WholeContact.{WholeContact}
use Rattle.meaning.specs.declared.WholeContact.TheVariants.{Hit, Miss, Touch, Apart}
use Rattle.list_entries.specs.Entries.{pair_at, places_small}
use Rattle.list_words.specs.Listed.{no_pair, ListStands}
use Rattle.contact_entries.specs.Computed.{SmallNumbers, contact_small, met_pair}
use Rattle.contact_entries.specs.Rows.{whole_contact_small, small_hit}
use Rattle.contact_entries.specs.Listed.{contacts_of, contacts_length, contacts_at}
use Rattle.report_words.specs.Lines.{wrote_as, kind_short}

abbrev pub hit : Settleds.Settled
hit = Settleds.TheVariants.Hit

-- how many of the contacts are hits
abbrev pub hits_of : List WholeContact → ℕ
hits_of ms = how_many hit (map word_of ms)

-- ---- a line is at most 47 bytes: two letters, two places, the piece, k and three shares, and the LF

number_short : (n : ℕ) → n ≤ unit → length (digits n) ≤ 7
number_short n h = digits_length 7 n (omega arith) (omega arith)

shares_short : (kind : Kind) (m : ContactNumbers) → SmallNumbers m → length (further 9 (share_fields kind m)) ≤ 24
unfolding further share_fields
shares_short PointTriangle m h =
    simp length-append (omega (arith, number_short m.first h.first_small, number_short m.second h.second_small, number_short m.third h.third_small))
shares_short EdgeEdge m h =
    simp length-append (omega (arith, number_short m.first h.first_small, number_short m.second h.second_small))

hit_short : (p : Pair) (m : ContactNumbers) → p.first < place_step → p.second < place_step → m.piece < 4 → SmallNumbers m → length (contact_line p (Hit m)) ≤ 47
unfolding contact_line further
hit_short p m f s piece h =
    simp length-append
    (omega (
      arith,
      kind_short p.kind,
      digits_length 4 p.first (omega arith) (omega arith),
      digits_length 4 p.second (omega arith) (omega arith),
      digits_length 1 m.piece (omega arith) (omega arith),
      number_short m.k h.k_small,
      shares_short p.kind m h,
    ))

module _ (s : Scene) (kind : Kind) (i j : ℕ) where
  pub line_short : (p : Pair) (m : WholeContact) → p.first < place_step → p.second < place_step → WholeContactIs s kind i j m → length (contact_line p m) ≤ 47
  unfolding contact_line WholeContactIs
  line_short p (Hit m) f g h = hit_short p m f g (small_hit (Hit m) [] 0 refl (whole_contact_small s kind i j (Hit m) h)) (contact_small s kind i j m h)
  line_short p Miss f g h = omega arith
  line_short p Touch f g h = omega arith
  line_short p Apart f g h = omega arith

-- ---- one pair more

-- a hit is one hit
abbrev pub one_hit : WholeContact → ℕ
one_hit m = is_one hit (word_of m)

-- and it has its line
pub hit_told : {m : WholeContact} {h : ContactNumbers} {p q : Pair} → m ≡ Hit h → p ≡ q → contact_line p (Hit h) ≡ contact_line q m
hit_told {m} {h} {p} {q} e same = λ t. contact_line (same t) (sym e t)

pub hit_counts : {m : WholeContact} {h : ContactNumbers} → m ≡ Hit h → one_hit m ≡ 1
unfolding is_one word_of byte_of
hit_counts e = rw e refl

-- another word has no line, and is none
pub record NotHit (m : WholeContact) : Type 0 where
  pub no_line : (p : Pair) → contact_line p m ≡ []
  pub none : one_hit m ≡ 0

pub miss_told : NotHit Miss
unfolding contact_line is_one word_of byte_of
miss_told = record { no_line = λ p. refl; none = refl }

pub touch_told : NotHit Touch
unfolding contact_line is_one word_of byte_of
touch_told = record { no_line = λ p. refl; none = refl }

pub apart_told : NotHit Apart
unfolding contact_line is_one word_of byte_of
apart_told = record { no_line = λ p. refl; none = refl }

-- one pair is at most one hit
pub one_hit_lem : (m : WholeContact) → one_hit m ≤ 1
one_hit_lem (Hit h) = omega (arith, hit_counts {h = h} refl)
one_hit_lem Miss = omega (arith, miss_told.none)
one_hit_lem Touch = omega (arith, touch_told.none)
one_hit_lem Apart = omega (arith, apart_told.none)

-- ---- a list of pairs from a place on

module _ (s : Scene) where
  abbrev pub met : List WholeContact
  met = contacts_of s (pairs s)

  -- the lines of the pairs from place k on
  abbrev pub lines_from : ℕ → List ℕ
  lines_from k = contact_lines (drop k (pairs s)) (drop k met)

  pub lines_next : (k : ℕ) → k < length (pairs s) → lines_from k ≡ contact_line (get_or (pairs s) k no_pair) (get_or met k Miss) ++ lines_from (k + 1)
  unfolding contact_lines
  lines_next k h =
      let ps = drop_next (pairs s) k no_pair h in
      let ms = drop_next met k Miss (rw (contacts_length s (pairs s)) h) in
      λ t. contact_lines (ps t) (ms t)

  pub lines_end : (k : ℕ) → length (pairs s) ≤ k → lines_from k ≡ []
  unfolding contact_lines
  lines_end k h = ap (λ (l : List Pair). contact_lines l (drop k met)) (drop_of_length-le (pairs s) h)

  -- the hits from place k on
  abbrev pub hits_from : ℕ → ℕ
  hits_from k = hits_of (drop k met)

  pub hits_next : (k : ℕ) → k < length (pairs s) → hits_from k ≡ one_hit (get_or met k Miss) + hits_from (k + 1)
  unfolding how_many
  hits_next k h = ap hits_of (drop_next met k Miss (rw (contacts_length s (pairs s)) h))

  pub hits_end : (k : ℕ) → length (pairs s) ≤ k → hits_from k ≡ 0
  unfolding how_many
  hits_end k h = ap hits_of (drop_of_length-le met {i = k} (rw (contacts_length s (pairs s)) h))

  -- the k-th line is short
  pub listed_line_short : (l : List ℕ) → ListStands s l → (k : ℕ) → k < length (pairs s) → length (contact_line (pair_at l k) (get_or met k Miss)) ≤ 47
  listed_line_short l stands k h =
      let (first, second) = places_small (get_or l k 0) in
      let p : Pair = get_or (pairs s) k no_pair in
      let right : WholeContactIs s p.kind p.first p.second (get_or met k Miss) = rw (contacts_at s (pairs s) k h) (met_pair s p.kind p.first p.second) in
      line_short s p.kind p.first p.second (pair_at l k) (get_or met k Miss) first second right

  -- so all lines fit
  from_place : (l : List ℕ) → ListStands s l → (n k : ℕ) → k + n ≡ length (pairs s) → length (lines_from k) ≤ n * 47
  from_place l stands zero k e = omega (arith, ap length (lines_end k (omega arith)))
  from_place l stands (suc n) k e =
      let below : k < length (pairs s) = omega arith in
      let short : length (contact_line (get_or (pairs s) k no_pair) (get_or met k Miss)) ≤ 47 = rw (stands.at k below) at (listed_line_short l stands k below) in
      omega (
        arith,
        ap length (lines_next k below),
        length-append (contact_line (get_or (pairs s) k no_pair) (get_or met k Miss)) (lines_from (k + 1)),
        short,
        from_place l stands n (k + 1) (omega arith),
      )

  pub lines_fit : (l : List ℕ) → ListStands s l → length (lines_from 0) ≤ length (pairs s) * 47
  lines_fit l stands = from_place l stands (length (pairs s)) 0 (omega arith)

  -- the line of the k-th entry, then those of the others
  pub entry_next : (l : List ℕ) → ListStands s l → (k : ℕ) → k < length (pairs s) → (m : WholeContact) → m ≡ get_or met k Miss
      → lines_from k ≡ contact_line (pair_at l k) m ++ lines_from (k + 1)
  entry_next l stands k h m e = lines_next k h ∙ (λ t. contact_line (sym (stands.at k h) t) (sym e t) ++ lines_from (k + 1))

  -- nothing is left: the lines stand in front
  pub lines_told : {o o' : List ℕ} {n : ℕ} (k : ℕ) → length (pairs s) ≤ k → Writing o (lines_from 0) o' n (lines_from k) → Wrote o 0 (contact_lines (pairs s) met) o' n
  lines_told {o} k past w = writing_ends (omega arith) (writing_as (lines_end k past) w)

  -- and the totals behind them
  pub whole_told : {o o' o'' : List ℕ} {n r count hits : ℕ} → count ≡ length (pairs s) → hits ≡ hits_of met → Wrote o 0 (contact_lines (pairs s) met) o' n
      → Wrote o' n (report_line total_word (digits count ∷ digits hits ∷ [])) o'' r
      → Wrote o 0 (contact_lines (pairs s) met ++ contact_total met) o'' r
  whole_told many some lines total =
      let listed = many ∙ sym (contacts_length s (pairs s)) in
      wrote_as (λ t. contact_lines (pairs s) met ++ report_line total_word (digits (listed t) ∷ digits (some t) ∷ [])) (wrote_then lines total)
