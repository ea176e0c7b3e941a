-- Entries in front of a list, shown of something: four vertices in one place, a triangle of the last three, and the pair of the first with it.
use mathlib.Core.List.Memᴰ
use mathlib.Core.List.{List, [], ◌∷◌, Memᴰ}
use Rattle.std.specs.Prelude.{◌≡◌, refl, ℤ, pos, replicate}
use Rattle.std.proofs.Common.{sym, subst, arith}
use Rattle.meaning.specs.Scene.{Scene, scene_of}
use Rattle.meaning.specs.Refusals.{not_there}
use Rattle.meaning.specs.List.{Pair, pair}
use Rattle.meaning.specs.MeshRows.{mesh_number, mesh_kind_part}
use Rattle.meaning.specs.declared.Kind.TheVariants.{PointTriangle}
use Rattle.mesh_laws.specs.Entries.{Within}
use Rattle.mesh_words.specs.Asked.{PairThere, Entered}

abbrev one : Scene
one = scene_of (replicate {A = ℤ} 24 (pos 0)) [] (1 ∷ 2 ∷ 3 ∷ []) []

abbrev first : Pair
first = pair PointTriangle 0 0

here : PairThere one first
unfolding not_there
here = refl

pub entered_shown : Entered one 1 (0 ∷ 7 ∷ []) (first ∷ [])
unfolding mesh_number mesh_kind_part
entered_shown =
    record {
      stand = refl;
      room = omega arith;
      narrow = λ p m. subst Within (sym (Memᴰ.eq_of_singleton m)) (record { first_few = omega arith; second_few = omega arith });
      there = λ p m. subst (PairThere one) (sym (Memᴰ.eq_of_singleton m)) here;
    }
