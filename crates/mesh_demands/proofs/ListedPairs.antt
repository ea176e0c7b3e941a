-- Pairs out of the list of a mesh share no vertex; and of parts that hold them all some part lists each.
use Rattle.std.specs.Prelude.{refl}
use mathlib.Core.List.{List, [], ◌∷◌, Memᴰ}
use Rattle.meaning.specs.Scene.{Scene}
use Rattle.meaning.specs.List.{Pair, pairs}
use Rattle.mesh_demands.specs.Joined.{PartsOf, HoldAll, SomeLists}
use Rattle.mesh_demands.proofs.Joined.{stands_there}
use Rattle.mesh_demands.specs.EachAlone.{listed_apart}
use Rattle.mesh_demands.specs.Together.{AllApart}

-- pairs out of the list, any of them, in any order, points and edges
pub picked_apart : (s : Scene) (xs : List Pair) → ((x : Pair) → Memᴰ x xs → Memᴰ x (pairs s)) → AllApart s xs
unfolding AllApart
picked_apart s [] out = tt
picked_apart s (x ∷ xs) out =
    (listed_apart s x (out x (Memᴰ.head refl)), picked_apart s xs (λ y m. out y (Memᴰ.tail m)))

pub all_listed_apart : (s : Scene) → AllApart s (pairs s)
all_listed_apart s = picked_apart s (pairs s) (λ x m. m)

pub some_part_lists : {s : Scene} (ps : PartsOf s) (all : HoldAll ps) (q : Pair) → Memᴰ q (pairs s) → SomeLists ps all q
some_part_lists ps all q m =
    let (n, below, h) = all q m in
    (n, below, h, (stands_there ps n below q h).1 m)
