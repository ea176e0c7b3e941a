-- The scene in front of a draft goes into lent buffers.
use Rattle.std.specs.Prelude.{ℕ, ◌*◌, ◌≤◌, List, [], ◌≡◌, ltb, ℤ, length, take, Err, Ok, Result}
use Rattle.std.proofs.Common.{sym, ap, subst, arith, le-ltb}
use Rattle.sequences.specs.Wrote.{written}
use Rattle.meaning.specs.Scene.{Scene, scene_of, Accepted}
use Rattle.meaning.specs.Refusals.{refused, number_of, Answers, outcome_of}
use Rattle.meaning.specs.List.{pairs, entries, room_of, leaves}
use Rattle.meaning.specs.Runs.{Tested}
use Rattle.meaning.specs.StoredBoxes.{Filled, box_numbers}
use Rattle.meaning.specs.declared.SceneCounts.{SceneCounts}
use Rattle.scene_seams.specs.Alone.{tabled}
use Rattle.scene_seams.specs.Table.{seams_of}
use Rattle.answers.specs.Answering.{is_past, is_given}
use Rattle.list_boxes.specs.Parts.{Drawn, accepted_drawn}
use Rattle.list_pairs.specs.Answering.{room_checks, IsCount, ListedIn}
use Rattle.text_line.specs.Above.{Bounded}
use Rattle.text_record.specs.Putting.{Roomy}
use Rattle.text_scene.specs.Answering.{Copied}
use Rattle.meaning.specs.declared.Refused.{Refused}

-- so many numbers of each list
abbrev pub front_of : SceneCounts → Scene → Scene
front_of c b = scene_of (take (6 * c.vertices) b.positions) (take (2 * c.edges) b.edges) (take (3 * c.triangles) b.triangles) (take (2 * c.seams) b.seams)

pub record LeaveReady (c : SceneCounts) (own : Scene) (table : List ℕ) (lent : Scene) (b : List ℤ) (l : List ℕ) : Type 0 where
  pub bounded : Bounded c
  pub accepted : Accepted (front_of c own)
  pub sewn : seams_of table ≡ (front_of c own).seams
  pub own_room : Roomy own
  pub lent_room : Roomy lent
  pub boxes : box_numbers ≤ length b
  pub fits : length (pairs (front_of c own)) ≤ room_of l

unfoldable pub count_of : Result ℕ Refused → ℕ
count_of (Ok n) = n
count_of (Err x) = x.carries

-- n pairs are listed
pub record LastLeft (c : SceneCounts) (own lent left : Scene) (b b' : List ℤ) (l l' : List ℕ) (n : ℕ) : Type 0 where
  pub scene : Copied c own lent left
  pub filled : Filled (front_of c own) b b'
  pub listed : l' ≡ written (entries (pairs (front_of c own))) l
  pub counts : n ≡ length (pairs (front_of c own))

-- where there is room, the list is made
made_where_room : {s : Scene} {room : ℕ} {o o' : List ℕ} {r : Result ℕ Refused} → length (pairs s) ≤ room → ListedIn s room o o' r
    → (o' ≡ written (entries (pairs s)) o) × (count_of r ≡ length (pairs s))
unfolding count_of outcome_of leaves Answers
made_where_room {s} {room} {o} {o'} {r} h p = by_answer r p.answer p.buffer
  where
    by_answer : (r : Result ℕ Refused) → Answers (room_checks s room) (IsCount s) (outcome_of r) → o' ≡ leaves (outcome_of r) (entries (pairs s)) o
        → (o' ≡ written (entries (pairs s)) o) × (count_of r ≡ length (pairs s))
    by_answer (Ok m) a e = (e, (is_given (IsCount s) (record { number = 7; holds = ltb room (length (pairs s)); carries = length (pairs s) }) [] m a).1)
    by_answer (Err x) a e =
        absurd (is_past (IsCount s) (record { number = 7; holds = ltb room (length (pairs s)); carries = length (pairs s) }) [] (refused (number_of x.why) x.carries) (le-ltb room (length (pairs s)) h) a)

module _ {c : SceneCounts} {own lent : Scene} {table : List ℕ} {b : List ℤ} {l : List ℕ} (d : LeaveReady c own table lent b l) where
  table_front : tabled (front_of c own).positions (front_of c own).edges (front_of c own).triangles table ≡ front_of c own
  table_front = ap (scene_of (front_of c own).positions (front_of c own).edges (front_of c own).triangles) d.sewn

  pub front_drawn : Drawn (front_of c own)
  front_drawn = accepted_drawn d.accepted

  pub front_accepted : Accepted (tabled (front_of c own).positions (front_of c own).edges (front_of c own).triangles table)
  front_accepted = subst Accepted (sym table_front) d.accepted

  pub front_listed : {l' t t' : List ℕ} {r : Result ℕ Refused} {room : ℕ} → room ≡ room_of l
      → Tested (tabled (front_of c own).positions (front_of c own).edges (front_of c own).triangles table) (ListedIn (tabled (front_of c own).positions (front_of c own).edges (front_of c own).triangles table) room l l') t t' r
      → (l' ≡ written (entries (pairs (front_of c own))) l) × (count_of r ≡ length (pairs (front_of c own)))
  front_listed {l'} {t} {t'} {r} {room} e p =
      made_where_room (omega (arith, d.fits))
      (subst (λ (s : Scene). ListedIn s room l l' r) table_front p.list)
