-- The answer of the call, from the answer in four words: a refusal stays, then 16, then the contact.
use Rattle.std.specs.Prelude.{ℕ, true, false, ◌≡◌, refl, Err, Ok, Result}
use mathlib.Core.List.{List, [], ◌∷◌}
use Rattle.std.proofs.Math.Path.{subst}
use Rattle.meaning.specs.Limits.{contact_limit}
use Rattle.meaning.specs.Scene.{Scene, reaches_beyond, AcceptedWithin}
use Rattle.meaning.specs.Refusals.{Check, given, refused, number_of, not_there, Answers, pair_checks, outcome_alone}
use Rattle.meaning.specs.Resting.{PairSettled, PairDecided}
use Rattle.meaning.specs.WholeContacts.{WholeContactIs, ContactIs, contact_of, range_check, contact_checks, WholeContactFound, ContactGiven}
use Rattle.meaning.specs.declared.Kind.{Kind}
use Rattle.meaning.specs.declared.Refusal.{Refusal}
use Rattle.meaning.specs.declared.Refusal.TheVariants.{BeyondOldRange}
use Rattle.meaning.specs.declared.Settled.{Settled}
use Rattle.meaning.specs.declared.WholeContact.{WholeContact}
use Rattle.meaning.specs.declared.Contact.{Contact}
use Rattle.answers.specs.Answering.{refuses, lets_pass, gives, is_given, refused_before, given_before}
use Rattle.contact_pair.specs.Ready.{within_old}

module _ (s : Scene) (kind : Kind) (i j : ℕ) (r : Result Settled Refusal) (said : PairDecided s kind i j r) where
  decided : {w : Settled} → r ≡ Ok w → Answers (pair_checks s kind i j) (PairSettled s kind i j) (given w)
  unfolding outcome_alone
  decided e = subst (PairDecided s kind i j) e said

  right : (w : Settled) → Answers [] (PairSettled s kind i j) (given w) → PairSettled s kind i j w
  unfolding Answers
  right w a = a

  pub decided_there : {w : Settled} → r ≡ Ok w → reaches_beyond contact_limit s ≡ false
      → AcceptedWithin contact_limit s × (not_there s kind i j ≡ false) × PairSettled s kind i j w
  decided_there {w} e near =
      let R = PairSettled s kind i j in
      let (h1, a1) = is_given R _ _ w (decided e) in
      let (h2, a2) = is_given R _ _ w a1 in
      let (h3, a3) = is_given R _ _ w a2 in
      let (h4, a4) = is_given R _ _ w a3 in
      let (h5, a5) = is_given R _ _ w a4 in
      let (h6, a6) = is_given R _ _ w a5 in
      let (h7, a7) = is_given R _ _ w a6 in
      (within_old (record { shapely = h1; in_range = h2; known = h3; sewn_well = h4; distinct = h5 }) near, h6, right w a7)

  pub whole_contact_refused : {x : Refusal} → r ≡ Err x → WholeContactFound s kind i j (Err x)
  unfolding outcome_alone
  whole_contact_refused {x} e =
      refused_before (PairSettled s kind i j) (WholeContactIs s kind i j) (pair_checks s kind i j) (range_check s ∷ []) (number_of x) 0
      (subst (PairDecided s kind i j) e said)

  pub whole_contact_beyond : {w : Settled} → r ≡ Ok w → reaches_beyond contact_limit s ≡ true → WholeContactFound s kind i j (Err BeyondOldRange)
  unfolding outcome_alone number_of
  whole_contact_beyond {w} e far =
      given_before (PairSettled s kind i j) (WholeContactIs s kind i j) (pair_checks s kind i j) (range_check s ∷ []) w (refused (range_check s).number 0) (decided e)
      (refuses (WholeContactIs s kind i j) (range_check s) [] (refused (range_check s).number 0) far refl)

  pub whole_contact_found : {w : Settled} → r ≡ Ok w → reaches_beyond contact_limit s ≡ false → (m : WholeContact) → WholeContactIs s kind i j m
      → WholeContactFound s kind i j (Ok m)
  unfolding outcome_alone
  whole_contact_found {w} e near m is =
      given_before (PairSettled s kind i j) (WholeContactIs s kind i j) (pair_checks s kind i j) (range_check s ∷ []) w (given m) (decided e)
      (lets_pass (WholeContactIs s kind i j) (range_check s) [] (given m) near (gives (WholeContactIs s kind i j) m is))

-- with the numbers as they are handed out
module _ (s : Scene) (kind : Kind) (i j : ℕ) (r : Result WholeContact Refusal) (said : WholeContactFound s kind i j r) where
  found : {m : WholeContact} → r ≡ Ok m → Answers (contact_checks s kind i j) (WholeContactIs s kind i j) (given m)
  unfolding outcome_alone
  found e = subst (WholeContactFound s kind i j) e said

  right_in : (ks : List Check) (m : WholeContact) → Answers ks (WholeContactIs s kind i j) (given m) → WholeContactIs s kind i j m
  unfolding Answers
  right_in [] m a = a
  right_in (k ∷ ks) m a = right_in ks m (is_given (WholeContactIs s kind i j) k ks m a).1

  pub contact_refused : {x : Refusal} → r ≡ Err x → ContactGiven s kind i j (Err x)
  unfolding outcome_alone
  contact_refused {x} e =
      refused_before (WholeContactIs s kind i j) (ContactIs s kind i j) (contact_checks s kind i j) [] (number_of x) 0
      (subst (WholeContactFound s kind i j) e said)

  pub contact_given : {m : WholeContact} → r ≡ Ok m → (c : Contact) → c ≡ contact_of kind m → ContactGiven s kind i j (Ok c)
  unfolding outcome_alone
  contact_given {m} e c is =
      given_before (WholeContactIs s kind i j) (ContactIs s kind i j) (contact_checks s kind i j) [] m (given c) (found e)
      (gives (ContactIs s kind i j) c (record { contact = m; right = right_in (contact_checks s kind i j) m (found e); is = is }))
