-- What the program of contacts prints for a text: a line for each listed pair that is hit, in order, last the totals; or one refusal.
use Rattle.std.specs.Prelude.{ℕ, ◌≤◌, ◌<◌, true, false, List, [], ◌∷◌, ◌++◌, map, ◌≡◌, length}
use Rattle.decimals.specs.Digits.{digits}
use Rattle.meaning.specs.Limits.{contact_limit, text_limit, report_room}
use Rattle.meaning.specs.Scene.{Scene, reaches_beyond}
use Rattle.meaning.specs.List.{Pair, pairs}
use Rattle.meaning.specs.Text.{Holds, SceneFaultyAt}
use Rattle.meaning.specs.Report.{kind_word, total_word, report_line, refused_line, how_many, OfAllRead, InFront}
use Rattle.meaning.specs.WholeContacts.{word_of, AllContacts}
use Rattle.meaning.specs.declared.Kind.{Kind}
use Rattle.meaning.specs.declared.Kind.TheVariants.{PointTriangle, EdgeEdge}
use Rattle.meaning.specs.declared.Settled.{Settled}
use Rattle.meaning.specs.declared.ContactNumbers.{ContactNumbers}
use Rattle.meaning.specs.declared.WholeContact.{WholeContact}
use Rattle.meaning.specs.declared.WholeContact.TheVariants.{Hit, Miss, Touch, Apart}

-- three shares of a point and a triangle, two of two edges
unfoldable pub share_fields : Kind → ContactNumbers → List (List ℕ)
share_fields PointTriangle m = digits m.first ∷ digits m.second ∷ digits m.third ∷ []
share_fields EdgeEdge m = digits m.first ∷ digits m.second ∷ []

-- `pt` or `ee`, the two places, the piece, k, the shares; a pair that is not hit has no line
unfoldable pub contact_line : Pair → WholeContact → List ℕ
contact_line p (Hit m) =
    report_line (kind_word p.kind)
    (digits p.first ∷ digits p.second ∷ digits m.piece ∷ digits m.k ∷ share_fields p.kind m)
contact_line p Miss = []
contact_line p Touch = []
contact_line p Apart = []

unfoldable pub contact_lines : List Pair → List WholeContact → List ℕ
contact_lines [] ms = []
contact_lines (p ∷ ps) [] = []
contact_lines (p ∷ ps) (m ∷ ms) = contact_line p m ++ contact_lines ps ms

-- listed, hits
abbrev pub contact_total : List WholeContact → List ℕ
contact_total ms = report_line total_word (digits (length ms) ∷ digits (how_many Settled.Hit (map word_of ms)) ∷ [])

-- what is printed for a text: 8, or its first faulty line, or 16, or 7 with the count needed, or the contacts and the totals
pub data ContactsOf (text : List ℕ) : List ℕ → Type 0 where
  too_long : text_limit < length text → ContactsOf text (refused_line 8 0)
  faulty : (n line : ℕ) → length text ≤ text_limit → SceneFaultyAt text n line → ContactsOf text (refused_line n line)
  beyond_old_range : (s : Scene) → length text ≤ text_limit → Holds text s → reaches_beyond contact_limit s ≡ true
      → ContactsOf text (refused_line 16 0)
  no_room : (s : Scene) → length text ≤ text_limit → Holds text s → reaches_beyond contact_limit s ≡ false
      → report_room < length (pairs s)
      → ContactsOf text (refused_line 7 (length (pairs s)))
  told : (s : Scene) (ms : List WholeContact) → length text ≤ text_limit → Holds text s → reaches_beyond contact_limit s ≡ false
      → length (pairs s) ≤ report_room
      → AllContacts s (pairs s) ms
      → ContactsOf text (contact_lines (pairs s) ms ++ contact_total ms)

abbrev pub ContactsReported : List ℕ → List ℕ → List ℕ → ℕ → Type 0
ContactsReported text = InFront (ContactsOf text)

-- of every text of which that was read
abbrev pub ContactsRead : List ℕ → ℕ → List ℕ → List ℕ → ℕ → Type 0
ContactsRead buffer count o o' n = OfAllRead (λ text. ContactsReported text o o' n) buffer count
