-- The ways out of the five checks that make the table of seams, whatever the first of them asks: a scene's size, or a mesh's. What each way gives.
use Rattle.std.specs.Prelude.{ℕ, Bool, true, false, cond, ◌||◌, List, [], ◌∷◌, ◌≡◌, refl, Err, Ok, Result}
use Rattle.std.proofs.Common.{true≢false, sym, ◌∙◌, ap}
use Rattle.meaning.specs.Scene.{Scene, scene_of, seam_count, out_of_range, unknown_vertex, broken_seam, repeated_vertex}
use Rattle.meaning.specs.Refusals.{Check, Answers, number_of, outcome_alone}
use Rattle.meaning.specs.declared.Refusal.TheVariants.{Shape, Coordinate, UnknownVertex, RepeatedVertex, BrokenSeam}
use Rattle.answers.specs.Answering.{refuses, lets_pass, gives}
use Rattle.scene_seams.specs.Table.{seams_of}
use Rattle.scene_seams.specs.Alone.{tabled}
use Rattle.scene_seams.specs.Sewing.{Sewn, table_after}
use Rattle.meaning.specs.declared.Refusal.{Refusal}

-- 1, 2, 3, 15, 4, of which 1 is asked elsewhere
abbrev pub checks_by : Bool → Scene → List Check
checks_by shape s =
    record { number = 1; holds = shape; carries = 0 }
    ∷ record { number = 2; holds = out_of_range s; carries = 0 }
    ∷ record { number = 3; holds = unknown_vertex s; carries = 0 }
    ∷ record { number = 15; holds = broken_seam s; carries = 0 }
    ∷ record { number = 4; holds = repeated_vertex s; carries = 0 }
    ∷ []

-- the seams are taken into the table once 1, 2 and 3 have passed
abbrev pub stitched_by : Bool → Scene → List ℕ → List ℕ
stitched_by shape s t = cond (shape || out_of_range s || unknown_vertex s) t (table_after t s.seams (seam_count s))

-- of an answer, and of a table that was t and is t': the answer is right, and the table has the seams where 1, 2, 3 and 15 pass
pub record Way (shape : Bool) (s : Scene) (t t' : List ℕ) (r : Result (Unit {0}) Refusal) : Type 0 where
  pub checked : Answers (checks_by shape s) (λ u. Unit {0}) (outcome_alone r)
  pub table : t' ≡ stitched_by shape s t
  pub tells : shape ≡ false → out_of_range s ≡ false → unknown_vertex s ≡ false → broken_seam s ≡ false → seams_of t' ≡ s.seams

-- the result of a call is what the call ensures, and what the test of it showed
pub shown : {r b t : Bool} → r ≡ b → r ≡ t → b ≡ t
shown e h = sym e ∙ h

module _ (shape : Bool) (s : Scene) (t : List ℕ) where
  early : shape || out_of_range s || unknown_vertex s ≡ true → t ≡ stitched_by shape s t
  early h = rw h

  pub wrong_shape : shape ≡ true → Way shape s t t (Err Shape)
  unfolding outcome_alone number_of
  wrong_shape h = record {
    checked = refuses _ _ _ _ h refl;
    table = early (rw h);
    tells = λ a b c d. absurd (true≢false (sym h ∙ a));
  }

  module _ (shapely : shape ≡ false) where
    pub out_of_range_lem : out_of_range s ≡ true → Way shape s t t (Err Coordinate)
    unfolding outcome_alone number_of
    out_of_range_lem h = record {
      checked = lets_pass _ _ _ _ shapely (refuses _ _ _ _ h refl);
      table = early (rw (shapely, h));
      tells = λ a b c d. absurd (true≢false (sym h ∙ b));
    }

    module _ (range : out_of_range s ≡ false) where
      pub unknown_vertex_lem : unknown_vertex s ≡ true → Way shape s t t (Err UnknownVertex)
      unfolding outcome_alone number_of
      unknown_vertex_lem h = record {
        checked = lets_pass _ _ _ _ shapely (lets_pass _ _ _ _ range (refuses _ _ _ _ h refl));
        table = early (rw (shapely, range, h));
        tells = λ a b c d. absurd (true≢false (sym h ∙ c));
      }

      module _ (known : unknown_vertex s ≡ false) {t' : List ℕ} {broken : Bool} (sewn : Sewn s.positions s.seams t broken t') where
        late : t' ≡ stitched_by shape s t
        late = rw (shapely, range, known) sewn.table

        pub broken_seam_lem : broken ≡ true → Way shape s t t' (Err BrokenSeam)
        unfolding outcome_alone number_of
        broken_seam_lem h = record {
          checked =
              lets_pass _ _ _ _ shapely
              (lets_pass _ _ _ _ range
              (lets_pass _ _ _ _ known (refuses _ _ _ _ (sym sewn.finds ∙ h) refl)));
          table = late;
          tells = λ a b c d. sewn.tells (sewn.finds ∙ d);
        }

        module _ (h : broken ≡ false) {repeated : Bool} (r : repeated ≡ repeated_vertex (tabled [] s.edges s.triangles t')) where
          whole : broken_seam s ≡ false
          whole = sym sewn.finds ∙ h

          own : repeated_vertex s ≡ repeated
          own = sym (r ∙ ap (λ (w : List ℕ). repeated_vertex (scene_of [] s.edges s.triangles w)) (sewn.tells h))

          pub repeated_vertex_lem : repeated ≡ true → Way shape s t t' (Err RepeatedVertex)
          unfolding outcome_alone number_of
          repeated_vertex_lem q = record {
            checked =
                lets_pass _ _ _ _ shapely
                (lets_pass _ _ _ _ range
                (lets_pass _ _ _ _ known (lets_pass _ _ _ _ whole (refuses _ _ _ _ (own ∙ q) refl))));
            table = late;
            tells = λ a b c d. sewn.tells h;
          }

          pub nothing_wrong : repeated ≡ false → Way shape s t t' (Ok tt)
          unfolding outcome_alone
          nothing_wrong q = record {
            checked =
                lets_pass _ _ _ _ shapely
                (lets_pass _ _ _ _ range
                (lets_pass _ _ _ _ known (lets_pass _ _ _ _ whole (lets_pass _ _ _ _ (own ∙ q) (gives _ tt tt)))));
            table = late;
            tells = λ a b c d. sewn.tells h;
          }
