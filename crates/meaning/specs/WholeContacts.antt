-- The contact of a pair, as document 02 says it: of the hitting pieces the one with the smallest k, its time and its shares; the answer that
-- carries them; and the contacts of a whole scene.
use Rattle.std.specs.Prelude.{ℕ, ◌/◌, ◌%◌, ◌≤◌, ◌<◌, min, List, [], ◌∷◌, ◌++◌, map, ◌≡◌, length, take, drop, Result}
use Rattle.cutting.specs.Floats.{handed_out}
use Rattle.meaning.specs.Limits.{contact_limit}
use Rattle.meaning.specs.Scene.{Scene, reaches_beyond}
use Rattle.meaning.specs.Pieces.{Piece, piece_of, piece_count}
use Rattle.meaning.specs.Verdicts.{PieceIs}
use Rattle.meaning.specs.Resting.{PairSettled}
use Rattle.meaning.specs.Contacts.{TimeIs, FirstShareIs, SecondShareIs, at_corner, at_higher_end}
use Rattle.meaning.specs.Refusals.{Outcome, given, refused, Check, Answers, scene_checks, pair_checks, room_check, outcome_alone, outcome_of}
use Rattle.meaning.specs.List.{Pair, pairs, entries, room_of, leaves}
use Rattle.meaning.specs.SceneWords.{byte_of}
use Rattle.meaning.specs.declared.Kind.{Kind}
use Rattle.meaning.specs.declared.Kind.TheVariants.{PointTriangle, EdgeEdge}
use Rattle.meaning.specs.declared.Verdict.{Verdict}
use Rattle.meaning.specs.declared.Settled.{Settled}
use Rattle.meaning.specs.declared.ContactNumbers.{ContactNumbers}
use Rattle.meaning.specs.declared.WholeContact.{WholeContact}
use Rattle.meaning.specs.declared.WholeContact.TheVariants.{Hit, Miss, Touch, Apart}
use Rattle.meaning.specs.declared.Contact as Contacts
use Rattle.meaning.specs.declared.Contact.{Contact}
use Rattle.meaning.specs.declared.Refusal.{Refusal}
use Rattle.meaning.specs.declared.Refused.{Refused}

-- ---- the numbers of a hit

-- a pt contact has the three corner shares, an ee contact each edge's share at its higher-numbered end, the lower place first
unfoldable pub SharesAre : Scene → Kind → ℕ → ℕ → ContactNumbers → Type 0
SharesAre s PointTriangle i j m =
    SecondShareIs (piece_of s PointTriangle i j m.piece) (at_corner m.piece 0) m.first
    × SecondShareIs (piece_of s PointTriangle i j m.piece) (at_corner m.piece 1) m.second
    × SecondShareIs (piece_of s PointTriangle i j m.piece) (at_corner m.piece 2) m.third
SharesAre s EdgeEdge i j m =
    FirstShareIs (piece_of s EdgeEdge i j m.piece) (at_higher_end (m.piece / 2)) m.first
    × SecondShareIs (piece_of s EdgeEdge i j m.piece) (at_higher_end (m.piece % 2)) m.second
    × (m.third ≡ 0)

-- piece q, which is hit, has a time, and it is not before k of piece number `piece`: not smaller, and of a lower piece larger
pub record NotBefore (p : Piece) (q piece k : ℕ) : Type 0 where
  pub number : ℕ
  pub time : TimeIs p number
  pub not_smaller : k ≤ number
  pub lowest : q < piece → k < number

-- the hitting piece with the smallest k, on a tie the lowest piece number; its k, and its shares
pub record ContactNumbersAre (s : Scene) (kind : Kind) (i j : ℕ) (m : ContactNumbers) : Type 0 where
  pub there : m.piece < piece_count kind
  pub hit : PieceIs (piece_of s kind i j m.piece) Verdict.Hit
  pub time : TimeIs (piece_of s kind i j m.piece) m.k
  pub shares : SharesAre s kind i j m
  pub smallest : (q : ℕ) → q < piece_count kind → PieceIs (piece_of s kind i j q) Verdict.Hit → NotBefore (piece_of s kind i j q) q m.piece m.k

-- a hit carries them, the other words nothing
unfoldable pub WholeContactIs : Scene → Kind → ℕ → ℕ → WholeContact → Type 0
WholeContactIs s kind i j (Hit m) = ContactNumbersAre s kind i j m
WholeContactIs s kind i j Miss = PairSettled s kind i j Settled.Miss
WholeContactIs s kind i j Touch = PairSettled s kind i j Settled.Touch
WholeContactIs s kind i j Apart = PairSettled s kind i j Settled.Apart

-- ---- as it is handed out: k itself, and beside it the time and the shares as f64s

unfoldable pub contact_of : Kind → WholeContact → Contact
contact_of PointTriangle (Hit m) =
    Contacts.TheVariants.PointHit m.piece m.k
    (record { time = handed_out m.k; low = handed_out m.first; middle = handed_out m.second; high = handed_out m.third })
contact_of EdgeEdge (Hit m) =
    Contacts.TheVariants.EdgeHit m.piece m.k
    (record { time = handed_out m.k; first = handed_out m.first; second = handed_out m.second })
contact_of kind Miss = Contacts.TheVariants.Miss
contact_of kind Touch = Contacts.TheVariants.Touch
contact_of kind Apart = Contacts.TheVariants.Apart

pub record ContactIs (s : Scene) (kind : Kind) (i j : ℕ) (c : Contact) : Type 0 where
  pub contact : WholeContact
  pub right : WholeContactIs s kind i j contact
  pub is : c ≡ contact_of kind contact

-- ---- what is promised of a pair asked for: the refusals of a verdict, then 16, a scene beyond the old range

abbrev pub range_check : Scene → Check
range_check s = record { number = 16; holds = reaches_beyond contact_limit s; carries = 0 }

abbrev pub contact_checks : Scene → Kind → ℕ → ℕ → List Check
contact_checks s kind i j = pair_checks s kind i j ++ (range_check s ∷ [])

abbrev pub WholeContactFound : Scene → Kind → ℕ → ℕ → Result WholeContact Refusal → Type 0
WholeContactFound s kind i j r = Answers (contact_checks s kind i j) (WholeContactIs s kind i j) (outcome_alone r)

abbrev pub ContactGiven : Scene → Kind → ℕ → ℕ → Result Contact Refusal → Type 0
ContactGiven s kind i j r = Answers (contact_checks s kind i j) (ContactIs s kind i j) (outcome_alone r)

-- ---- in lent buffers

unfoldable pub word_of : WholeContact → Settled
word_of (Hit m) = Settled.Hit
word_of Miss = Settled.Miss
word_of Touch = Settled.Touch
word_of Apart = Settled.Apart

-- five numbers a contact
abbrev pub row_length : ℕ
row_length = 5

abbrev pub row_of : ContactNumbers → List ℕ
row_of m = m.piece ∷ m.k ∷ m.first ∷ m.second ∷ m.third ∷ []

-- nothing but a hit changes what stood there
unfoldable pub row_left : WholeContact → List ℕ → List ℕ
row_left (Hit m) o = row_of m
row_left Miss o = o
row_left Touch o = o
row_left Apart o = o

-- a row for each pair, one behind the other; what lies behind the last is unchanged
unfoldable pub rows_left : List WholeContact → List ℕ → List ℕ
rows_left [] o = o
rows_left (m ∷ ms) o = row_left m (take row_length o) ++ rows_left ms (drop row_length o)

-- ---- the contacts of all hits of a scene, beside its list and its words

-- each pair of a list has what stands in its place
unfoldable pub AllContacts : Scene → List Pair → List WholeContact → Type 0
AllContacts s [] [] = Unit {0}
AllContacts s [] (m ∷ ms) = ⊥
AllContacts s (p ∷ ps) [] = ⊥
AllContacts s (p ∷ ps) (m ∷ ms) = WholeContactIs s p.kind p.first p.second m × AllContacts s ps ms

-- 1 to 4, 16, then 7: the room is the smallest of the three buffers'
abbrev pub contact_list_checks : Scene → ℕ → List Check
contact_list_checks s room = scene_checks s ++ (range_check s ∷ room_check room (length (pairs s)) ∷ [])

abbrev pub contact_room : List ℕ → List ℕ → List ℕ → ℕ
contact_room o b c = min (min (room_of o) (length b)) (length c / row_length)

unfoldable pub rows_after : {A : Type 0} → Outcome A → List WholeContact → List ℕ → List ℕ
rows_after (given n) ms c = rows_left ms c
rows_after (refused n d) ms c = c

-- the buffers held o, b and c, and hold o', b' and c'
pub record ContactsListed (s : Scene) (o o' b b' c c' : List ℕ) (r : Result ℕ Refused) : Type 0 where
  pub answer : Answers (contact_list_checks s (contact_room o b c)) (λ n. n ≡ length (pairs s)) (outcome_of r)
  pub list : o' ≡ leaves (outcome_of r) (entries (pairs s)) o
  pub contacts : List WholeContact
  pub right : AllContacts s (pairs s) contacts
  pub bytes : b' ≡ leaves (outcome_of r) (map (λ m. byte_of (word_of m)) contacts) b
  pub rows : c' ≡ rows_after (outcome_of r) contacts c
