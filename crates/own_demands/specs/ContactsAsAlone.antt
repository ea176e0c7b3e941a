-- Contacts asked for in a list are those asked for alone: each entry's pair, asked for by itself, is given the contact that stands in the entry's row.
use Rattle.std.specs.Prelude.{ℕ, ◌/◌, ◌<◌, min, false, List, [], ◌∷◌, ◌++◌, map, ◌≡◌, refl, length, get_or, Result}
use Rattle.std.proofs.Common.{sym, ap, ◌∙◌}
use Rattle.std.proofs.lemmas.List.{length-map}
use Rattle.sequences.specs.Mapped.{map_at}
use Rattle.meaning.specs.Limits.{contact_limit}
use Rattle.meaning.specs.Scene.{Scene, Accepted, reaches_beyond}
use Rattle.meaning.specs.Refusals.{Outcome, given, refused, Check, Answers, scene_checks, outcome_alone, outcome_of}
use Rattle.meaning.specs.List.{Pair}
use Rattle.meaning.specs.WholeContacts.{WholeContactIs, range_check, row_length, WholeContactFound}
use Rattle.meaning.specs.OwnList.{asked_for, entry_faults, word_room, size_check, OwnContacts}
use Rattle.meaning.specs.declared.WholeContact.{WholeContact}
use Rattle.meaning.specs.declared.WholeContact.TheVariants.{Miss}
use Rattle.answers.specs.Answering.{is_given, is_past}
use Rattle.scene_checks.specs.Accepting.{past_accepted}
use Rattle.list_words.specs.Listed.{no_pair}
use Rattle.own_words.specs.Faults.{Sound, entry_is_there, each_passed}
use Rattle.contact_entries.specs.Computed.{whole_contact_of, whole_contact_is}
use Rattle.contact_entries.specs.Listed.{whole_contact_of_pair, contacts_of, all_met_one, contacts_at}
use Rattle.own_demands.specs.AsAlone.{scene_given, front_given}
use Rattle.meaning.specs.declared.Refusal.{Refusal}
use Rattle.meaning.specs.declared.Refused.{Refused}

-- what comes behind some checks gives what all of them give
back_given : (R : ℕ → Type 0) (ks more : List Check) (n : ℕ) → Answers (ks ++ more) R (given n) → Answers more R (given n)
back_given R [] more n p = p
back_given R (k ∷ ks) more n p = back_given R ks more n (is_given R k (ks ++ more) n p).1

contact_given : (s : Scene) (x : Pair) (o : Outcome WholeContact) → Answers [] (WholeContactIs s x.kind x.first x.second) o
    → o ≡ given (whole_contact_of_pair s x)
unfolding Answers
contact_given s x (given w) t = ap given ((whole_contact_is s x.kind x.first x.second w).0 t)
contact_given s x (refused m c) t = absurd t

module _ {s : Scene} {es b b' c c' : List ℕ} {r : Result ℕ Refused} (p : OwnContacts s es b b' c c' r) {n : ℕ} (e : outcome_of r ≡ given n) where
  abbrev Many : ℕ → Type 0
  Many m = m ≡ length es

  abbrev last : List Check
  last = range_check s ∷ word_room es (min (length b) (length c / row_length)) ∷ []

  scene_past : Accepted s × Answers (entry_faults s es ++ last) Many (given n)
  scene_past = scene_given Many s (entry_faults s es ++ last) n (is_given Many (size_check es) _ n (rw e at p.answer)).1

  pub own_met_accepted : Accepted s
  own_met_accepted = scene_past.0

  -- each entry is there, and its pair shares no vertex
  pub own_met_sound : (k : ℕ) → k < length es → Sound s (get_or es k 0)
  own_met_sound = (each_passed Many s 1 es (length es) (front_given Many Many (entry_faults s es) last n (length es) refl scene_past.1)).1

  pub own_met_near : reaches_beyond contact_limit s ≡ false
  own_met_near = (is_given Many (range_check s) _ n (back_given Many (entry_faults s es) last n scene_past.1)).0

  -- its row is filled from the contact of its pair
  pub own_contact : (k : ℕ) → k < length es → get_or p.contacts k Miss ≡ whole_contact_of_pair s (asked_for (get_or es k 0))
  own_contact k h =
      let long : length (map asked_for es) ≡ length es = length-map es asked_for in
      ap (λ (l : List WholeContact). get_or l k Miss) (all_met_one s (map asked_for es) p.contacts p.right)
      ∙ contacts_at s (map asked_for es) k (rw long h)
      ∙ ap (whole_contact_of_pair s) (map_at asked_for es k 0 no_pair h)

  pub contact_as_alone : (k : ℕ) → k < length es → (a : Result WholeContact Refusal)
      → WholeContactFound s (asked_for (get_or es k 0)).kind (asked_for (get_or es k 0)).first (asked_for (get_or es k 0)).second a
      → outcome_alone a ≡ given (get_or p.contacts k Miss)
  contact_as_alone k h a q =
      let x : Pair = asked_for (get_or es k 0) in
      let sound = own_met_sound k h in
      contact_given s x (outcome_alone a)
      (is_past _ _ _ _ own_met_near
      (is_past _ _ _ _ sound.1 (is_past _ _ _ _ (entry_is_there s (get_or es k 0) sound.0) (past_accepted s _ _ (outcome_alone a) own_met_accepted q))))
      ∙ ap given (sym (own_contact k h))
