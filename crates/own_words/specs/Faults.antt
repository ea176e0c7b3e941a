-- The faults of a list of one's own, entry by entry: what was looked at is not at fault, and what is left decides.
use Rattle.std.specs.Prelude.{ℕ, zero, suc, ◌+◌, ◌≤◌, ◌<◌, Bool, true, false, ◌||◌, List, [], ◌∷◌, ◌≡◌, refl, leb, get_or, drop, Err, Ok, Result}
use Rattle.std.proofs.Common.{sym, ap, ◌∙◌, subst, not-suc-le-zero, le_of_suc-le-suc, eq-or-lt_of_le, arith, drop_of_length-le}
use Rattle.std.proofs.Math.Logic.{⊎_elim}
use Rattle.std.proofs.Math.ListN.{length}
use Rattle.sequences.specs.Parts.{drop_next}
use Rattle.meaning.specs.Scene.{Scene}
use Rattle.meaning.specs.Refusals.{Outcome, given, Answers, number_of, not_there, shares, carrying, outcome_of}
use Rattle.meaning.specs.List.{Pair, no_number}
use Rattle.meaning.specs.declared.Refusal.TheVariants.{NotThere, SharedVertex}
use Rattle.answers.specs.Answering.{refuses, lets_pass, gives, is_given}
use Rattle.answers.specs.Below.{or_rest}
use Rattle.list_entries.specs.Entries.{kind_of, first_of, second_of}
use Rattle.list_words.specs.Listed.{AllThere, entry_there}
use Rattle.meaning.specs.OwnList.{entry_missing, entry_shared, missing_check, shared_check, faulty_from, entry_faults}
use Rattle.meaning.specs.declared.Refused.{Refused}

-- ---- one entry

pub entry_is_there : (s : Scene) (e : ℕ) → entry_missing s e ≡ false → not_there s (kind_of e) (first_of e) (second_of e) ≡ false
entry_is_there s e h = or_rest (leb no_number e) (not_there s (kind_of e) (first_of e) (second_of e)) h

-- a pair that was read from an entry
module _ (s : Scene) (e : ℕ) (p : Pair) (kind : p.kind ≡ kind_of e) (first : p.first ≡ first_of e) (second : p.second ≡ second_of e) where
  pub missing_is : (b : Bool) → b ≡ not_there s p.kind p.first p.second → leb no_number e || b ≡ entry_missing s e
  missing_is b h = ap (λ (c : Bool). leb no_number e || c) (h ∙ (λ t. not_there s (kind t) (first t) (second t)))

  pub shared_is : (b : Bool) → b ≡ shares s p.kind p.first p.second → b ≡ entry_shared s e
  shared_is b h = h ∙ (λ t. shares s (kind t) (first t) (second t))

  pub read_there : entry_missing s e ≡ false → not_there s p.kind p.first p.second ≡ false
  read_there h = entry_there s e p kind first second (entry_is_there s e h)

-- ---- a list

-- what was found of the entries: none is at fault, and they are so many, or the first that is
pub record FaultFound (s : Scene) (es : List ℕ) (r : Result ℕ Refused) : Type 0 where
  pub says : Answers (entry_faults s es) (λ n. n ≡ length es) (outcome_of r)

-- none of the first k is at fault: those behind decide
pub record SoundUpTo (s : Scene) (es : List ℕ) (k : ℕ) : Type 0 where
  pub decides : (o : Outcome ℕ) → Answers (faulty_from s (k + 1) (drop k es)) (λ n. n ≡ length es) o
      → Answers (entry_faults s es) (λ n. n ≡ length es) o
  pub there : AllThere s k es

pub sound_start : (s : Scene) (es : List ℕ) → SoundUpTo s es 0
sound_start s es = record { decides = λ o a. a; there = λ k h. absurd (not-suc-le-zero h) }

module _ {s : Scene} {es : List ℕ} {k : ℕ} (h : k < length es) (sound : SoundUpTo s es k) where
  -- the checks that are left begin with those of the entry
  by_entry : (o : Outcome ℕ) → Answers (faulty_from s (k + 1) (get_or es k 0 ∷ drop (k + 1) es)) (λ n. n ≡ length es) o
      → Answers (entry_faults s es) (λ n. n ≡ length es) o
  by_entry o a =
      sound.decides o
      (subst (λ (l : List ℕ). Answers (faulty_from s (k + 1) l) (λ n. n ≡ length es) o) (sym (drop_next es k 0 h)) a)

  pub missing_found : entry_missing s (get_or es k 0) ≡ true → FaultFound s es (Err (carrying NotThere (k + 1)))
  unfolding outcome_of number_of faulty_from
  missing_found m = record { says = by_entry _ (refuses _ _ _ _ m refl) }

  pub shared_found : entry_missing s (get_or es k 0) ≡ false → entry_shared s (get_or es k 0) ≡ true
      → FaultFound s es (Err (carrying SharedVertex (k + 1)))
  unfolding outcome_of number_of faulty_from
  shared_found m p = record { says = by_entry _ (lets_pass _ _ _ _ m (refuses _ _ _ _ p refl)) }

  pub sound_more : entry_missing s (get_or es k 0) ≡ false → entry_shared s (get_or es k 0) ≡ false → SoundUpTo s es (k + 1)
  unfolding faulty_from
  sound_more m p = record {
    decides = λ o a. by_entry o (lets_pass _ _ _ _ m (lets_pass _ _ _ _ p a));
    there = λ i b.
        ⊎_elim
        (λ (e : i ≡ k). rw e (entry_is_there s (get_or es k 0) m))
        (λ (l : i < k). sound.there i l)
        (eq-or-lt_of_le (omega arith));
  }

pub none_found : {s : Scene} {es : List ℕ} {k : ℕ} → length es ≤ k → SoundUpTo s es k
    → FaultFound s es (Ok (length es))
unfolding outcome_of faulty_from
none_found {s} {es} {k} h sound = record {
  says =
      sound.decides _
      (subst (λ (l : List ℕ). Answers (faulty_from s (k + 1) l) (λ n. n ≡ length es) (given (length es))) (sym (drop_of_length-le es {i = k} h)) (gives _ _ refl));
}

-- where none is at fault, each is there, and they are so many
at_each : (P : ℕ → Type 0) (e : ℕ) (es : List ℕ) → P e → ((k : ℕ) → k < length es → P (get_or es k 0)) → (k : ℕ) → k < suc (length es) → P (get_or (e ∷ es) k 0)
at_each P e es h f zero b = h
at_each P e es h f (suc k) b = f k (le_of_suc-le-suc b)

-- an entry that is not at fault
abbrev pub Sound : Scene → ℕ → Type 0
Sound s e = (entry_missing s e ≡ false) × (entry_shared s e ≡ false)

pub each_passed : (R : ℕ → Type 0) (s : Scene) (n : ℕ) (es : List ℕ) (a : ℕ) → Answers (faulty_from s n es) R (given a)
    → R a × ((k : ℕ) → k < length es → Sound s (get_or es k 0))
unfolding Answers faulty_from
each_passed R s n [] a p = (p, λ k h. absurd (not-suc-le-zero h))
each_passed R s n (e ∷ es) a p =
    let (missing, rest) = is_given R (missing_check s n e) (shared_check s n e ∷ faulty_from s (n + 1) es) a p in
    let (shared, more) = is_given R (shared_check s n e) (faulty_from s (n + 1) es) a rest in
    let (right, all) = each_passed R s (n + 1) es a more in
    (right, at_each (Sound s) e es (missing, shared) all)

module _ {s : Scene} {es : List ℕ} {r : Result ℕ Refused} {m : ℕ} (f : FaultFound s es r) (e : r ≡ Ok m) where
  passed : (m ≡ length es) × ((k : ℕ) → k < length es → Sound s (get_or es k 0))
  unfolding outcome_of
  passed = each_passed (λ n. n ≡ length es) s 1 es m (subst (FaultFound s es) e f).says

  pub so_many : m ≡ length es
  so_many = passed.0

  pub all_there : AllThere s m es
  all_there k h = entry_is_there s (get_or es k 0) (passed.1 k (rw so_many at h)).0
