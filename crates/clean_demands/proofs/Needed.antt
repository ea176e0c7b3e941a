-- Each of the five hypotheses is needed, and a touch counts as a hit does.
use Rattle.std.specs.Prelude.{ℕ, ◌≡◌, refl, Bool, true, false, List, [], ◌∷◌, ℤ, get_or}
use Rattle.std.proofs.Common.{arith, ap, ◌∙◌}
use Rattle.meaning.specs.Scene.{Scene, Accepted, stood_for, some_below}
use Rattle.meaning.specs.Resting.{PairSettled}
use Rattle.meaning.specs.declared.Kind.{Kind}
use Rattle.meaning.specs.declared.Kind.TheVariants.{PointTriangle, EdgeEdge}
use Rattle.meaning.specs.declared.Settled.{Settled}
use Rattle.meaning.specs.declared.Settled.TheVariants.{Hit, Miss, Touch, Apart}
use Rattle.corner_search.specs.Decided.{pair_word, pair_word_is}
use Rattle.clean_demands.specs.Motions.{motion, seven_answers, seven, slides_in, five_words, all_computed}
use Rattle.clean_demands.proofs.Motions.{motion_sides}
use Rattle.clean_demands.specs.Needed.{FailsFor, EachNeeded, NoHit}

fails : (ps : List ℤ) (a b x y z : Bool) → Accepted (motion ps) → seven_answers (motion ps) ≡ a ∷ b ∷ x ∷ y ∷ z ∷ false ∷ true ∷ [] → FailsFor (motion ps) a b x y z
fails ps a b x y z accepted e = record { accepted = accepted; sides = motion_sides ps; seven = seven (motion ps) a b x y z false true e }

pub each_needed : EachNeeded
unfolding some_below stood_for
each_needed =
    let c = all_computed in
    record {
      first_end = fails _ true false false false false (record { shapely = refl; in_range = refl; known = refl; sewn_well = refl; distinct = refl }) c.first_end;
      second_end = fails _ false true false false false (record { shapely = refl; in_range = refl; known = refl; sewn_well = refl; distinct = refl }) c.second_end;
      first_side = fails _ false false true false false (record { shapely = refl; in_range = refl; known = refl; sewn_well = refl; distinct = refl }) c.first_side;
      second_side = fails _ false false false true false (record { shapely = refl; in_range = refl; known = refl; sewn_well = refl; distinct = refl }) c.second_side;
      third_side = fails _ false false false false true (record { shapely = refl; in_range = refl; known = refl; sewn_well = refl; distinct = refl }) c.third_side;
    }

not_hit : (s : Scene) (kind : Kind) (i j : ℕ) (w : Settled) → pair_word s kind i j ≡ w → (Hit ≡ w → ⊥) → ¬ PairSettled s kind i j Hit
not_hit s kind i j w e n h = n ((pair_word_is s kind i j Hit).0 h ∙ e)

no_touch : Hit ≡ Touch → ⊥
no_touch e = let z : ◌≡◌ {A = ℕ} 0 1 = cc in omega arith

no_apart : Hit ≡ Apart → ⊥
no_apart e = let z : ◌≡◌ {A = ℕ} 0 1 = cc in omega arith

-- an edge slides into a triangle in its plane: nothing is hit, the start is clean and the end is pierced
pub touch_counts : NoHit slides_in × FailsFor slides_in true true false false true
unfolding five_words some_below stood_for
touch_counts =
    let w = all_computed.slide_words in (
      record {
        first_end = not_hit slides_in PointTriangle 0 0 Touch (ap (λ (l : List Settled). get_or l 0 Miss) w) no_touch;
        second_end = not_hit slides_in PointTriangle 1 0 Touch (ap (λ (l : List Settled). get_or l 1 Miss) w) no_touch;
        first_side = not_hit slides_in EdgeEdge 0 1 Apart (ap (λ (l : List Settled). get_or l 2 Miss) w) no_apart;
        second_side = not_hit slides_in EdgeEdge 0 2 Apart (ap (λ (l : List Settled). get_or l 3 Miss) w) no_apart;
        third_side = not_hit slides_in EdgeEdge 0 3 Touch (ap (λ (l : List Settled). get_or l 4 Miss) w) no_touch;
      },
      fails _ true true false false true (record { shapely = refl; in_range = refl; known = refl; sewn_well = refl; distinct = refl }) all_computed.slides,
    )
