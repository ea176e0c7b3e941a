-- Demand 3 for contacts as an integrator meets it, in answers: of two scenes within the old range, one sent through a matrix and two shifts,
-- whatever meets the promises answers alike, in whole numbers and with f64s.
use Rattle.std.specs.Prelude.{ℕ, Bool, false, ◌≡◌, refl, Result}
use Rattle.std.proofs.Common.{sym, ◌∙◌, subst, lit≤}
use Rattle.whole.specs.Vector.{Vector}
use Rattle.whole.specs.VectorLaws.{Matrix}
use Rattle.meaning.specs.Limits.{contact_limit}
use Rattle.meaning.specs.Scene.{Scene, Accepted, AcceptedWithin}
use Rattle.meaning.specs.Refusals.{Outcome, Answers, not_there, shares, outcome_alone}
use Rattle.meaning.specs.WholeContacts.{WholeContactIs, contact_of, ContactIs, contact_checks, WholeContactFound, ContactGiven}
use Rattle.meaning.specs.declared.Kind.{Kind}
use Rattle.meaning.specs.declared.WholeContact.{WholeContact}
use Rattle.theory.specs.Moved.{Moves}
use Rattle.answers.specs.Deciding.{holds_or_not}
use Rattle.scene_checks.specs.Facts.{accepted_wider}
use Rattle.contact_entries.specs.Computed.{whole_contact_of, met_pair}
use Rattle.contact_scene.specs.OneResult.{one_whole_contact_answer, one_contact_answer}
use Rattle.demands.specs.SameAnswer.{there_alike, shares_alike}
use Rattle.contact_demands.specs.Demand1.{ThenIs, ContactTable, demand1_contact, demand1_contact_in_f64}
use Rattle.contact_demands.specs.Demand3.{demand3_contacts}
use Rattle.meaning.specs.declared.Refusal.{Refusal}
use Rattle.meaning.specs.declared.Contact.{Contact}

then_old : (s : Scene) {R : Type 0} → AcceptedWithin contact_limit s → R → ThenIs s R
then_old s a r =
    let d : Accepted s = accepted_wider (lit≤ tt) a in
    (d.shapely, (d.in_range, (d.known, (d.sewn_well, (d.distinct, r)))))

-- where one contact is right in both scenes
module _ {W : Type 0} {s t : Scene} {missing shared other : Bool} {Is Be : W → Type 0} {o o' : Outcome W}
    (a : AcceptedWithin contact_limit s) (b : AcceptedWithin contact_limit t)
    (p : ContactTable s missing shared Is o) (q : ContactTable t missing other Be o') where
  found_alike : other ≡ shared → (w : W) → Is w → (missing ≡ false → shared ≡ false → Be w) → o ≡ o'
  found_alike e w is be =
      holds_or_not missing
      (λ m. p.no5.1 (then_old s a m) ∙ sym (q.no5.1 (then_old t b m)))
      (λ m.
      holds_or_not shared
      (λ h. p.no6.1 (then_old s a (m, h)) ∙ sym (q.no6.1 (then_old t b (m, e ∙ h))))
      (λ h.
      (p.found w).1 (then_old s a (m, (h, a.in_range)), is)
      ∙ sym ((q.found w).1 (then_old t b (m, (e ∙ h, b.in_range)), be m h))))

module _ {m : Matrix} {d e : Vector} {s t : Scene} (h : Moves m d e s t) (a : AcceptedWithin contact_limit s) (b : AcceptedWithin contact_limit t)
    (kind : Kind) (i j : ℕ) where
  abbrev contact : WholeContact
  contact = whole_contact_of s kind i j

  -- the contact of the one scene is right in the other
  kept : not_there s kind i j ≡ false → shares s kind i j ≡ false → WholeContactIs t kind i j contact
  kept n f = (demand3_contacts h a b kind i j n f contact).0 (met_pair s kind i j)

  pub contact_kept : (r r' : Result WholeContact Refusal) → WholeContactFound s kind i j r → WholeContactFound t kind i j r' → r ≡ r'
  contact_kept r r' p q =
      let same : outcome_alone r ≡ outcome_alone r' =
      found_alike a b (demand1_contact s kind i j r p) (rw (there_alike h kind i j) at (demand1_contact t kind i j r' q))
      (shares_alike h kind i j) contact (met_pair s kind i j) kept in
      one_whole_contact_answer t kind i j r r' (subst (Answers (contact_checks t kind i j) (WholeContactIs t kind i j)) (sym same) q) q

  pub contact_in_f64_kept : (r r' : Result Contact Refusal) → ContactGiven s kind i j r → ContactGiven t kind i j r' → r ≡ r'
  contact_in_f64_kept r r' p q =
      let handed = contact_of kind contact in
      let is : ContactIs s kind i j handed = record { contact = contact; right = met_pair s kind i j; is = refl } in
      let same : outcome_alone r ≡ outcome_alone r' =
      found_alike a b (demand1_contact_in_f64 s kind i j r p) (rw (there_alike h kind i j) at (demand1_contact_in_f64 t kind i j r' q))
      (shares_alike h kind i j) handed is (λ n f. record { contact = contact; right = kept n f; is = refl }) in
      one_contact_answer t kind i j r r' (subst (Answers (contact_checks t kind i j) (ContactIs t kind i j)) (sym same) q) q
