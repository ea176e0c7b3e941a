-- Of a text the contacts that are printed are one: two results that meet the promise are equal, lent buffers too, also of what was read of a text.
-- A text that differs in the order of ends and corners has the same.
use Rattle.std.specs.Prelude.{ℕ, Bool, true, false, ◌≡◌, refl, length, take}
use Rattle.std.proofs.Common.{true≢false, sym, ◌∙◌, ap, subst, arith}
use mathlib.Core.List.{List, [], ◌∷◌, ◌++◌, Memᴰ}
use Rattle.meaning.specs.Limits.{contact_limit}
use Rattle.meaning.specs.Scene.{Scene, reaches_beyond, Accepted}
use Rattle.meaning.specs.Refusals.{not_there}
use Rattle.meaning.specs.List.{Pair, pairs}
use Rattle.meaning.specs.Report.{refused_line}
use Rattle.meaning.specs.shown.ReadShown.{front_read}
use Rattle.meaning.specs.WholeContacts.{AllContacts}
use Rattle.meaning.specs.ContactLines.{contact_lines, contact_total, ContactsOf, too_long, faulty, beyond_old_range, no_room, told, ContactsReported, ContactsRead}
use Rattle.meaning.specs.declared.WholeContact.{WholeContact}
use Rattle.theory.specs.Rewritten.{Rewritten, rewritten_back}
use Rattle.list_pairs.specs.InOrder.{list_is}
use Rattle.text_scene.specs.Accepted.{text_accepted}
use Rattle.contact_entries.specs.Listed.{all_met_one}
use Rattle.text_scene.specs.OneReading.{same_scene, held_or_faulty, faulty_one}
use Rattle.list_pairs.specs.OneRoom.{many_or_few}
use Rattle.demands.specs.AnyWriting.{rewritten_list}
use Rattle.demands.specs.AnyText.{DifferInOrder, differ_long, faulty_alike, holds_alike}
use Rattle.contact_demands.specs.Demand3.{contact_as_written}
use Rattle.answers.specs.Printed.{one_in_front}

-- ---- of one text

met_one : {s t : Scene} (ms ns : List WholeContact) → s ≡ t → AllContacts s (pairs s) ms → AllContacts t (pairs t) ns
    → contact_lines (pairs s) ms ++ contact_total ms ≡ contact_lines (pairs t) ns ++ contact_total ns
met_one {s} {t} ms ns e h k =
    let h' : AllContacts t (pairs t) ms = rw e at h in
    let f : ms ≡ ns = all_met_one t (pairs t) ms h' ∙ sym (all_met_one t (pairs t) ns k) in
    λ i. contact_lines (pairs (e i)) (f i) ++ contact_total (f i)

far_or_near : {s t : Scene} → s ≡ t → reaches_beyond contact_limit s ≡ true → reaches_beyond contact_limit t ≡ false → ⊥
far_or_near e far near =
    let z : ◌≡◌ {A = Bool} true false = sym far ∙ ap (reaches_beyond contact_limit) e ∙ near in
    absurd (true≢false z)

pub one_contacts : {text r r' : List ℕ} → ContactsOf text r → ContactsOf text r' → r ≡ r'
one_contacts (too_long h) (too_long k) = refl
one_contacts (too_long h) (faulty m place k g) = absurd (omega arith)
one_contacts (too_long h) (beyond_old_range t k b far) = absurd (omega arith)
one_contacts (too_long h) (no_room t k b near m) = absurd (omega arith)
one_contacts (too_long h) (told t ns k b near m w) = absurd (omega arith)
one_contacts (faulty n line h f) (too_long k) = absurd (omega arith)
one_contacts (faulty n line h f) (faulty m place k g) = faulty_one f g
one_contacts (faulty n line h f) (beyond_old_range t k b far) = absurd (held_or_faulty b f)
one_contacts (faulty n line h f) (no_room t k b near m) = absurd (held_or_faulty b f)
one_contacts (faulty n line h f) (told t ns k b near m w) = absurd (held_or_faulty b f)
one_contacts (beyond_old_range s h a far) (too_long k) = absurd (omega arith)
one_contacts (beyond_old_range s h a far) (faulty m place k g) = absurd (held_or_faulty a g)
one_contacts (beyond_old_range s h a far) (beyond_old_range t k b too) = refl
one_contacts (beyond_old_range s h a far) (no_room t k b near m) = absurd (far_or_near (same_scene a b) far near)
one_contacts (beyond_old_range s h a far) (told t ns k b near m w) = absurd (far_or_near (same_scene a b) far near)
one_contacts (no_room s h a near n) (too_long k) = absurd (omega arith)
one_contacts (no_room s h a near n) (faulty m place k g) = absurd (held_or_faulty a g)
one_contacts (no_room s h a near n) (beyond_old_range t k b far) = absurd (far_or_near (same_scene b a) far near)
one_contacts (no_room s h a near n) (no_room t k b also m) = ap (λ (u : Scene). refused_line 7 (length (pairs u))) (same_scene a b)
one_contacts (no_room s h a near n) (told t ns k b also m w) = absurd (many_or_few (same_scene a b) n m)
one_contacts (told s ms h a near n v) (too_long k) = absurd (omega arith)
one_contacts (told s ms h a near n v) (faulty m place k g) = absurd (held_or_faulty a g)
one_contacts (told s ms h a near n v) (beyond_old_range t k b far) = absurd (far_or_near (same_scene b a) far near)
one_contacts (told s ms h a near n v) (no_room t k b also m) = absurd (many_or_few (same_scene b a) m n)
one_contacts (told s ms h a near n v) (told t ns k b also m w) = met_one ms ns (same_scene a b) v w

pub one_contacts_reported : (text o o' o'' : List ℕ) (n n' : ℕ) → ContactsReported text o o' n → ContactsReported text o o'' n' → (n ≡ n') × (o' ≡ o'')
one_contacts_reported text o o' o'' n n' p q =
    one_in_front (ContactsOf text) (λ l k h j. one_contacts h j) p q

-- of what was read: there is always a text of which that was read
pub one_contacts_read : (buffer o o' o'' : List ℕ) (count n n' : ℕ) → ContactsRead buffer count o o' n → ContactsRead buffer count o o'' n' → (n ≡ n') × (o' ≡ o'')
one_contacts_read buffer o o' o'' count n n' p q =
    one_contacts_reported (take count buffer) o o' o'' n n' (p (take count buffer) (front_read buffer count)) (q (take count buffer) (front_read buffer count))

-- ---- in any order of writing

module _ {s t : Scene} (h : Rewritten s t) (a : Accepted s) where
  met_alike : (ps : List Pair) → ((p : Pair) → Memᴰ p ps → not_there s p.kind p.first p.second ≡ false) → (ms : List WholeContact)
      → AllContacts t ps ms → AllContacts s ps ms
  unfolding AllContacts
  met_alike [] there [] m = tt
  met_alike [] there (x ∷ ms) m = absurd m
  met_alike (p ∷ ps) there [] m = absurd m
  met_alike (p ∷ ps) there (x ∷ ms) m = (
    (contact_as_written h a p.kind p.first p.second (there p (Memᴰ.head refl)) x).1 m.0,
    met_alike ps (λ q k. there q (Memᴰ.tail k)) ms m.1,
  )

  -- the contacts of the one list are those of the other
  pub contacts_as_written : (ms : List WholeContact) → AllContacts t (pairs t) ms → AllContacts s (pairs s) ms
  contacts_as_written ms k =
      met_alike (pairs s) (λ p m. (((list_is s).stands p).0 m).there) ms (subst (λ (ps : List Pair). AllContacts t ps ms) (rewritten_list h) k)

pub range_alike : {s t : Scene} → Rewritten s t → reaches_beyond contact_limit t ≡ reaches_beyond contact_limit s
range_alike h = rw h.positions refl

pub contacts_alike : {t t' report : List ℕ} → DifferInOrder t t' → ContactsOf t report → ContactsOf t' report
contacts_alike d (too_long h) = too_long (omega (arith, differ_long d))
contacts_alike d (faulty n k h f) = faulty n k (omega (arith, differ_long d)) (faulty_alike d f)
contacts_alike d (beyond_old_range s h a far) =
    let w = holds_alike d a in
    beyond_old_range w.scene (omega (arith, differ_long d)) w.holds (range_alike w.rewritten ∙ far)
contacts_alike {t} {t'} d (no_room s h a near over) =
    let w = holds_alike d a in
    let same : pairs w.scene ≡ pairs s = rewritten_list w.rewritten in
    subst (λ (l : List Pair). ContactsOf t' (refused_line 7 (length l))) same
    (no_room w.scene (omega (arith, differ_long d)) w.holds (range_alike w.rewritten ∙ near) (rw same over))
contacts_alike {t} {t'} d (told s ms h a near few right) =
    let w = holds_alike d a in
    let same : pairs w.scene ≡ pairs s = rewritten_list w.rewritten in
    subst (λ (l : List Pair). ContactsOf t' (contact_lines l ms ++ contact_total ms)) same
    (told w.scene ms (omega (arith, differ_long d)) w.holds (range_alike w.rewritten ∙ near) (rw same few)
    (contacts_as_written (rewritten_back w.rewritten) (text_accepted w.holds) ms right))

-- and so the same in the buffer
pub contacts_reported_alike : {t t' : List ℕ} → DifferInOrder t t' → (o o' : List ℕ) (n : ℕ) → ContactsReported t o o' n → ContactsReported t' o o' n
contacts_reported_alike d o o' n p = record { report = p.report; right = contacts_alike d p.right; length_is = p.length_is; buffer = p.buffer }
