-- A whole scene met in one call, its ends and corners in another order: the same answer, and the same in all three lent buffers.
use Rattle.std.specs.Prelude.{ℕ, false, List, [], map, ◌≡◌, refl, ltb, length, Result}
use Rattle.std.proofs.Math.Path.{sym}
use Rattle.std.proofs.Common.{◌∙◌, ap}
use Rattle.meaning.specs.Limits.{contact_limit}
use Rattle.meaning.specs.Scene.{Scene, reaches_beyond, Accepted}
use Rattle.meaning.specs.Refusals.{Outcome, given, refused, Answers, outcome_of}
use Rattle.meaning.specs.List.{Pair, pairs, entries, leaves}
use Rattle.meaning.specs.WholeContacts.{contact_room, contact_list_checks, rows_after, ContactsListed}
use Rattle.theory.specs.Rewritten.{Rewritten}
use Rattle.answers.specs.Answering.{is_past, is_given}
use Rattle.contact_entries.specs.Listed.{contact_byte, all_met_one}
use Rattle.answers.specs.Deciding.{holds_or_not}
use Rattle.demands.specs.Demand1.{SceneRows}
use Rattle.demands.specs.StillAccepted.{rewritten_accepted, refused_alike}
use Rattle.demands.specs.AnyWriting.{rewritten_list}
use Rattle.contact_demands.specs.Demand1.{SceneContactTable, demand1_met_scene}
use Rattle.contact_demands.specs.OnePrinted.{contacts_as_written, range_alike}
use Rattle.meaning.specs.declared.Refused.{Refused}
use Rattle.answers.specs.Speaking.{one_carrying}

abbrev Counts : Scene → ℕ → Type 0
Counts s n = n ≡ length (pairs s)

-- none of the checks holds: the count is given
last_given : (s : Scene) (o : Outcome ℕ) → Answers [] (Counts s) o → o ≡ given (length (pairs s))
unfolding Answers
last_given s (given n) p = ap given p
last_given s (refused n c) p = absurd p

met_given : (s : Scene) (room : ℕ) (o : Outcome ℕ) → Accepted s → reaches_beyond contact_limit s ≡ false → ltb room (length (pairs s)) ≡ false
    → Answers (contact_list_checks s room) (Counts s) o → o ≡ given (length (pairs s))
met_given s room o a near fits p =
    let p1 = is_past (Counts s) _ _ o a.shapely p in
    let p2 = is_past (Counts s) _ _ o a.in_range p1 in
    let p3 = is_past (Counts s) _ _ o a.known p2 in
    let p4 = is_past (Counts s) _ _ o a.sewn_well p3 in
    let p5 = is_past (Counts s) _ _ o a.distinct p4 in
    let p6 = is_past (Counts s) _ _ o near p5 in
    last_given s o (is_past (Counts s) _ [] o fits p6)

-- and where it is given, the scene was accepted
given_accepted : (s : Scene) (room n : ℕ) → Answers (contact_list_checks s room) (Counts s) (given n) → Accepted s
given_accepted s room n p =
    let (h1, p1) = is_given (Counts s) _ _ n p in
    let (h2, p2) = is_given (Counts s) _ _ n p1 in
    let (h3, p3) = is_given (Counts s) _ _ n p2 in
    let (h4, p4) = is_given (Counts s) _ _ n p3 in
    let (h5, p5) = is_given (Counts s) _ _ n p4 in
    record { shapely = h1; in_range = h2; known = h3; sewn_well = h4; distinct = h5 }

rows : {s : Scene} {room : ℕ} {o : Outcome ℕ} → SceneContactTable s room o → SceneRows s o
rows t = record { no1 = t.no1; no2 = t.no2; no3 = t.no3; no15 = t.no15; no4 = t.no4 }

module _ {s t : Scene} (h : Rewritten s t) (o o' o'' b b' b'' c c' c'' : List ℕ) (r r' : Result ℕ Refused) (p : ContactsListed s o o' b b' c c' r) (q : ContactsListed t o o'' b b'' c c'' r') where
  count : length (pairs t) ≡ length (pairs s)
  count = ap (length {A = Pair}) (rewritten_list h)

  one : SceneContactTable s (contact_room o b c) (outcome_of r)
  one = demand1_met_scene s o o' b b' c c' r p

  other : SceneContactTable t (contact_room o b c) (outcome_of r')
  other = demand1_met_scene t o o'' b b'' c c'' r' q

  decided : Accepted s → outcome_of r ≡ outcome_of r'
  decided a =
      let d = rewritten_accepted h a in
      holds_or_not (reaches_beyond contact_limit s)
      (λ far.
      one.no16.1 (a.shapely, (a.in_range, (a.known, (a.sewn_well, (a.distinct, far)))))
      ∙ sym (other.no16.1 (d.shapely, (d.in_range, (d.known, (d.sewn_well, (d.distinct, range_alike h ∙ far)))))))
      (λ near.
      holds_or_not (ltb (contact_room o b c) (length (pairs s)))
      (λ e.
      one.no7.1 (a.shapely, (a.in_range, (a.known, (a.sewn_well, (a.distinct, (near, e))))))
      ∙ ap (refused 7) (sym count)
      ∙ sym (other.no7.1 (d.shapely, (d.in_range, (d.known, (d.sewn_well, (d.distinct, (range_alike h ∙ near, rw count e))))))))
      (λ e.
      met_given s (contact_room o b c) (outcome_of r) a near e p.answer
      ∙ ap given (sym count)
      ∙ sym (met_given t (contact_room o b c) (outcome_of r') d (range_alike h ∙ near) (rw count e) q.answer)))

  same : r ≡ r'
  same = one_carrying r r' (refused_alike h (rows one) (rows other) decided)

  met_alike : (n : ℕ) → outcome_of r ≡ given n → p.contacts ≡ q.contacts
  met_alike n e =
      let a : Accepted s = given_accepted s (contact_room o b c) n (rw e at p.answer) in
      all_met_one s (pairs s) p.contacts p.right ∙ sym (all_met_one s (pairs s) q.contacts (contacts_as_written h a q.contacts q.right))

  words : (x : Outcome ℕ) → outcome_of r ≡ x → b' ≡ b''
  unfolding leaves
  words (given n) e =
      let ms = met_alike n e in
      p.bytes ∙ (λ i. leaves (outcome_of (same i)) (map contact_byte (ms i)) b) ∙ sym q.bytes
  words (refused n d) e =
      let kept : b' ≡ b = rw e at p.bytes in
      let kept'' : b'' ≡ b = rw (ap outcome_of (sym same) ∙ e) at q.bytes in
      kept ∙ sym kept''

  contacts : (x : Outcome ℕ) → outcome_of r ≡ x → c' ≡ c''
  unfolding rows_after
  contacts (given n) e =
      let ms = met_alike n e in
      p.rows ∙ (λ i. rows_after (outcome_of (same i)) (ms i) c) ∙ sym q.rows
  contacts (refused n d) e =
      let kept : c' ≡ c = rw e at p.rows in
      let kept'' : c'' ≡ c = rw (ap outcome_of (sym same) ∙ e) at q.rows in
      kept ∙ sym kept''

  pub met_as_written : (r ≡ r') × (o' ≡ o'') × (b' ≡ b'') × (c' ≡ c'')
  met_as_written =
      let list : pairs s ≡ pairs t = sym (rewritten_list h) in
      (same, p.list ∙ (λ i. leaves (outcome_of (same i)) (entries (list i)) o) ∙ sym q.list, words (outcome_of r) refl, contacts (outcome_of r) refl)
