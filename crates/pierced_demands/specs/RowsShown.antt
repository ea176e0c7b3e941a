-- Rows of edges, shown: the edge that is through a triangle at the start is listed, and at the end, when it has left it, no more.
use Rattle.std.specs.Prelude.{true, [], ◌∷◌, ◌≡◌, refl, Ok}
use Rattle.sequences.specs.Gather.{gather}
use Rattle.sequences.specs.Range.{over}
use Rattle.meaning.specs.Scene.{some_below, stood_for}
use Rattle.meaning.specs.Refusals.{Answers, shares, outcome_of}
use Rattle.meaning.specs.List.{leaves}
use Rattle.meaning.specs.Near.{where_at}
use Rattle.meaning.specs.MeshRows.{Lent}
use Rattle.meaning.specs.Pierced.{PiercedIs}
use Rattle.meaning.specs.PiercedRows.{through_rows, AllPierced, yes_of, PiercedListed}
use Rattle.meaning.specs.shown.PiercedShown.{pulled_out, pierced_at_start}
use Rattle.meaning.specs.declared.Frame.TheVariants.{Start, End}
use Rattle.through_laws.specs.Listing.{through}

-- places for two edges and a triangle, and six numbers for each of six vertices and of these, and of 32 nodes
abbrev enough : Lent
enough = record { edge_order = []; triangle_order = []; table = 0; places = 3; boxes = 246 }

asked_at_start : through_rows Start (pulled_out []) 0 1 ≡ through 0 0 ∷ []
unfolding gather over where_at shares stood_for
asked_at_start = refl

asked_at_end : through_rows End (pulled_out []) 0 1 ≡ []
unfolding gather over where_at shares stood_for
asked_at_end = refl

pub listed_at_start : PiercedListed Start (pulled_out []) enough 0 1 (7 ∷ 7 ∷ []) (0 ∷ 7 ∷ []) (Ok 1)
unfolding AllPierced PiercedIs Answers some_below stood_for outcome_of leaves yes_of
listed_at_start = record {
  answers = true ∷ [];
  right = rw asked_at_start (pierced_at_start [], tt);
  answer = refl;
  list = rw asked_at_start refl;
}

pub none_at_end : PiercedListed End (pulled_out []) enough 0 1 (7 ∷ 7 ∷ []) (7 ∷ 7 ∷ []) (Ok 0)
unfolding AllPierced Answers some_below stood_for outcome_of leaves yes_of
none_at_end = record {
  answers = [];
  right = rw asked_at_end tt;
  answer = refl;
  list = refl;
}
