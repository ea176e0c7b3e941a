-- A text means one scene or one fault, and two results that meet the promise of its reader are equal, lent buffers too.
use Rattle.std.specs.Prelude.{ℕ, List, ◌≡◌, Result}
use Rattle.std.proofs.Common.{arith}
use Rattle.meaning.specs.Scene.{Scene}
use Rattle.meaning.specs.Refusals.{given, refused}
use Rattle.meaning.specs.Text.{Holds, SceneFaultyAt, TextIs, TextRead}
use Rattle.meaning.specs.Report.{refused_line}
use Rattle.text_scene.specs.Unique.{text_unique}
use Rattle.text_scene.specs.Using.{one_text_answer}
use Rattle.meaning.specs.declared.Refused.{Refused}
use Rattle.meaning.specs.declared.SceneCounts.{SceneCounts}

pub one_reading : (text : List ℕ) (lent left left' : Scene) (r r' : Result SceneCounts Refused) → TextRead text lent left r → TextRead text lent left' r' → (r ≡ r') × (left ≡ left')
one_reading text lent left left' r r' p q = one_text_answer p q

pub same_scene : {text : List ℕ} {s t : Scene} → Holds text s → Holds text t → s ≡ t
unfolding TextIs
same_scene {text} {s} {t} h k = let e = text_unique text (given s) (given t) h k in cc

pub held_or_faulty : {text : List ℕ} {s : Scene} {n line : ℕ} → Holds text s → SceneFaultyAt text n line → ⊥
unfolding TextIs
held_or_faulty {text} {s} {n} {line} h f =
    let e = text_unique text (given s) (refused n line) h f in
    let z : ◌≡◌ {A = ℕ} 0 1 = cc in
    omega arith

pub faulty_one : {text : List ℕ} {n line m place : ℕ} → SceneFaultyAt text n line → SceneFaultyAt text m place → refused_line n line ≡ refused_line m place
unfolding TextIs
faulty_one {text} {n} {line} {m} {place} f g =
    let e = text_unique text (refused n line) (refused m place) f g in
    let a : n ≡ m = cc in
    let b : line ≡ place = cc in
    λ i. refused_line (a i) (b i)
