-- The steps from an answer to its number and to what a lent array holds, as code takes them.
use Rattle.std.specs.Prelude.{ℕ, ◌+◌, ◌*◌, ◌≤◌, List, [], ◌∷◌, ◌≡◌, refl, length, set, Bool, Err, Ok, Result}
use Rattle.std.proofs.Common.{arith, length-set, ne_eqb}
use Rattle.sequences.specs.Wrote.{written, wrote_one, wrote_two, wrote_three, wrote_then, wrote_front}
use Rattle.meaning.specs.Refusals.{number_of, outcome_alone, outcome_of}
use Rattle.meaning.specs.MeshEdges.{edges_say}
use Rattle.meaning.specs.Claims.{answer_byte}
use Rattle.meaning.specs.Numbers.{upper, number_for}
use Rattle.meaning.specs.MeshNumbers.{refusal_of, needed_left, count_left, kept_left, edges_left}
use Rattle.meaning.specs.declared.Refusal.{Refusal}
use Rattle.meaning.specs.declared.KeptRows.{KeptRows}
use Rattle.meaning.specs.declared.EdgesFound as Findings
use Rattle.meaning.specs.declared.Refused.{Refused}
use Rattle.meaning.specs.declared.EdgesFound.{EdgesFound}

-- ---- stores side by side

pub one_written : (o : List ℕ) (a : ℕ) → 1 ≤ length o → set o 0 a ≡ written (a ∷ []) o
one_written o a h = wrote_front (wrote_one o 0 a (omega arith))

pub two_written : (o : List ℕ) (a b : ℕ) → 2 ≤ length o → set (set o 0 a) 1 b ≡ written (a ∷ b ∷ []) o
two_written o a b h = wrote_front (wrote_two o 0 a b (omega arith))

pub six_written : (o : List ℕ) (a b c d e f : ℕ) → 6 ≤ length o
    → set (set (set (set (set (set o 0 a) 1 b) 2 c) 3 d) 4 e) 5 f ≡ written (a ∷ b ∷ c ∷ d ∷ e ∷ f ∷ []) o
six_written o a b c d e f h =
    wrote_front
    (wrote_then (wrote_three o 0 a b c (omega arith))
    (wrote_three (set (set (set o 0 a) 1 b) 2 c) 3 d e f (simp length-set (omega arith))))

-- ---- a refusal: 7 leaves the count needed, any other what stood there

pub seven_left : (o : List ℕ) (c : ℕ) {r n : ℕ} → 1 ≤ length o → r ≡ n → r ≡ 7 → set o 0 c ≡ needed_left n c o
seven_left o c h e s = rw (← e, s) (one_written o c h)

pub other_left : (o : List ℕ) (c : ℕ) {r n : ℕ} → r ≡ n → (r ≡ 7 → ⊥) → o ≡ needed_left n c o
other_left o c {r} e s = rw (← e, ne_eqb r 7 s) refl

-- ---- each answer

pub scene_accepted : {a : Result (Unit {0}) Refusal} → a ≡ Ok tt → 0 ≡ refusal_of (outcome_alone a)
unfolding outcome_alone refusal_of
scene_accepted e = rw e refl

pub scene_refused : {a : Result (Unit {0}) Refusal} {x : Refusal} {r : ℕ} → a ≡ Err x → r ≡ number_of x
    → r ≡ refusal_of (outcome_alone a)
unfolding outcome_alone refusal_of
scene_refused e h = rw e h

pub count_made : (o : List ℕ) {a : Result ℕ Refused} {m : ℕ} {o' : List ℕ} → a ≡ Ok m → o' ≡ written (m ∷ []) o
    → (0 ≡ refusal_of (outcome_of a)) × (o' ≡ count_left (outcome_of a) o)
unfolding outcome_of refusal_of count_left
count_made o e h = rw e (refl, h)

pub count_refused : (o : List ℕ) {a : Result ℕ Refused} {x : Refused} {r : ℕ} {o' : List ℕ} → a ≡ Err x
    → r ≡ number_of x.why
    → o' ≡ needed_left (number_of x.why) x.carries o
    → (r ≡ refusal_of (outcome_of a)) × (o' ≡ count_left (outcome_of a) o)
unfolding outcome_of refusal_of count_left
count_refused o e h l = rw e (h, l)

pub kept_made : (o : List ℕ) {a : Result KeptRows Refused} {t : KeptRows} {o' : List ℕ} → a ≡ Ok t
    → o' ≡ written (t.count ∷ t.listed ∷ t.hits ∷ t.misses ∷ t.touches ∷ t.aparts ∷ []) o
    → (0 ≡ refusal_of (outcome_of a)) × (o' ≡ kept_left (outcome_of a) o)
unfolding outcome_of refusal_of kept_left
kept_made o e h = rw e (refl, h)

pub kept_refused : (o : List ℕ) {a : Result KeptRows Refused} {x : Refused} {r : ℕ} {o' : List ℕ} → a ≡ Err x
    → r ≡ number_of x.why
    → o' ≡ needed_left (number_of x.why) x.carries o
    → (r ≡ refusal_of (outcome_of a)) × (o' ≡ kept_left (outcome_of a) o)
unfolding outcome_of refusal_of kept_left
kept_refused o e h l = rw e (h, l)

pub edges_whole : (o : List ℕ) {a : Result EdgesFound Refusal} {o' : List ℕ} → a ≡ Ok Findings.TheVariants.Whole → o' ≡ written (0 ∷ 0 ∷ []) o
    → (0 ≡ refusal_of (edges_say a)) × (o' ≡ edges_left (edges_say a) o)
unfolding edges_say refusal_of edges_left
edges_whole o e h = rw e (refl, h)

pub edges_bare : (o : List ℕ) {a : Result EdgesFound Refusal} {k : ℕ} {o' : List ℕ} → a ≡ Ok (Findings.TheVariants.Bare k) → o' ≡ written (1 ∷ k ∷ []) o
    → (0 ≡ refusal_of (edges_say a)) × (o' ≡ edges_left (edges_say a) o)
unfolding edges_say refusal_of edges_left
edges_bare o e h = rw e (refl, h)

pub edges_twice : (o : List ℕ) {a : Result EdgesFound Refusal} {k : ℕ} {o' : List ℕ} → a ≡ Ok (Findings.TheVariants.Twice k) → o' ≡ written (2 ∷ k ∷ []) o
    → (0 ≡ refusal_of (edges_say a)) × (o' ≡ edges_left (edges_say a) o)
unfolding edges_say refusal_of edges_left
edges_twice o e h = rw e (refl, h)

pub edges_refused : (o : List ℕ) {a : Result EdgesFound Refusal} {x : Refusal} {r : ℕ} → a ≡ Err x → r ≡ number_of x
    → (r ≡ refusal_of (edges_say a)) × (o ≡ edges_left (edges_say a) o)
unfolding edges_say refusal_of edges_left
edges_refused o e h = rw e (h, refl)

-- ---- an edge and a triangle of a scene

pub pierced_told : {a : Result Bool Refusal} {through : Bool} → a ≡ Ok through → answer_byte through ≡ number_for answer_byte (outcome_alone a)
unfolding outcome_alone number_for
pierced_told e = rw e refl

pub pierced_refused : {a : Result Bool Refusal} {x : Refusal} {r : ℕ} → a ≡ Err x → r ≡ number_of x * upper + 0
    → r ≡ number_for answer_byte (outcome_alone a)
unfolding outcome_alone number_for answer_byte
pierced_refused e h = rw e h
