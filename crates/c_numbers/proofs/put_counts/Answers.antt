-- A scene writes its counts, and a refusal leaves what stands there.
use Prim.Native.Nat.{ℕ}
use mathlib.Core.Path.{◌≡◌, refl}
use mathlib.Core.List.{List, [], ◌∷◌}
use Rattle.meaning.specs.declared.SceneCounts.{SceneCounts}
use Rattle.meaning.specs.ImportNumbers.{import_counts}
use Rattle.c_numbers.proofs.put_counts.Goals as goal
use Rattle.meaning.specs.declared.ImportRefusal.TheVariants.{In, Of}
use Rattle.std.specs.Prelude.{Err, Ok, Result}
use Rattle.meaning.specs.declared.ImportRefusal.{ImportRefusal}

as_it_was : (a : Result SceneCounts ImportRefusal) (o : List ℕ) → ((c : SceneCounts) → a ≡ Ok c → ⊥) → o ≡ import_counts a o
unfolding import_counts
as_it_was (Ok c) o h = absurd (h c refl)
as_it_was (Err (Of x)) o h = refl
as_it_was (Err (In f x)) o h = refl

its_counts : (a : Result SceneCounts ImportRefusal) (c : SceneCounts) (o : List ℕ) → a ≡ Ok c
    → c.vertices ∷ c.edges ∷ c.triangles ∷ c.seams ∷ [] ≡ import_counts a o
unfolding import_counts
its_counts a c o e = rw e refl

pub returns-in-Ok : goal.returns-in-Ok
returns-in-Ok c = its_counts c.args.answer c.in-Ok.c c.args.counts.now c.in-Ok.is

pub returns-in_default : goal.returns-in_default
returns-in_default c = as_it_was c.args.answer c.args.counts.now c.in_default.not-Ok
