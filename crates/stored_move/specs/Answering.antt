-- Each way out of the calls that fill boxes in and that move a vertex.
use Rattle.std.specs.Prelude.{ℕ, true, false, ◌≡◌, leb, ℤ, Err, Ok, Result}
use mathlib.Core.List.{List, [], ◌∷◌}
use Rattle.std.proofs.Math.Path.{refl, subst}
use Rattle.meaning.specs.Scene.{Scene, Accepted, vertex_count}
use Rattle.meaning.specs.Refusals.{number_of, given, refused, scene_checks, SceneChecked, outcome_alone}
use Rattle.meaning.specs.StoredBoxes.{short_boxes, box_checks, Filled, FillsAfter, BoxesFilled}
use Rattle.meaning.specs.Dragging.{placed, moved_scene, new_outside, tears_seam, move_checks, BoxesMoved, MovesAfter, VertexMoved}
use Rattle.meaning.specs.declared.Refusal.{Refusal}
use Rattle.meaning.specs.declared.Refusal.TheVariants.{ShortBuffer, NotThere, Coordinate, BrokenSeam}
use Rattle.answers.specs.Answering.{refuses, lets_pass, gives, is_given, refused_before}
use Rattle.answers_order.specs.InOrder.{Checked, first_of, refused_if, in_order, one_check_lem}
use Rattle.scene_checks.specs.Accepting.{checked_accepted}
use Rattle.stored_laws.specs.Checks.{boxed_accepted}

abbrev Fine : Unit {0} → Type 0
Fine t = Unit {0}

-- ---- 12, then the scene's own checks

module _ (s : Scene) (b : List ℤ) where
  pub twelve_first : (scene : Result (Unit {0}) Refusal) → SceneChecked s scene → Checked (box_checks s b) (first_of (refused_if (short_boxes b) ShortBuffer) scene)
  unfolding number_of
  twelve_first scene p =
      in_order (record { number = 12; holds = short_boxes b; carries = 0 } ∷ []) (scene_checks s) (refused_if (short_boxes b) ShortBuffer) scene
      (one_check_lem (short_boxes b) ShortBuffer) p

  -- where nothing is refused the buffer is long enough, and the scene is accepted
  pub boxed_passed : {r : Result (Unit {0}) Refusal} → r ≡ Ok tt → Checked (box_checks s b) r → (short_boxes b ≡ false) × Accepted s
  unfolding outcome_alone
  boxed_passed e p =
      let (long, q) = is_given Fine _ _ tt (subst (Checked (box_checks s b)) e p) in
      (long, checked_accepted s q)

-- ---- boxes filled in

module _ (s : Scene) (b : List ℤ) where
  pub filled_refused : {r : Result (Unit {0}) Refusal} (x : Refusal) → r ≡ Err x → Checked (box_checks s b) r
      → BoxesFilled s b b (Err x)
  unfolding outcome_alone FillsAfter
  filled_refused x e p = record { answer = subst (Checked (box_checks s b)) e p; buffer = refl }

  module _ (long : short_boxes b ≡ false) where
    pub filled_done : {b' : List ℤ} → Accepted s → Filled s b b' → BoxesFilled s b b' (Ok tt)
    unfolding outcome_alone FillsAfter
    filled_done a f = record { answer = boxed_accepted s b [] Fine long (given tt) a (gives Fine tt tt); buffer = f }

-- ---- a vertex moved

module _ (s : Scene) (v : ℕ) (c b : List ℤ) where
  pub moved_refused : {r : Result (Unit {0}) Refusal} (x : Refusal) → r ≡ Err x → Checked (box_checks s b) r
      → VertexMoved s v c s.positions b b (Err x)
  unfolding outcome_alone MovesAfter
  moved_refused x e p = record {
    answer = refused_before Fine Fine (box_checks s b) (move_checks s v c) (number_of x) 0 (subst (Checked (box_checks s b)) e p);
    buffers = (refl, refl);
  }

  module _ (long : short_boxes b ≡ false) where
    module _ (a : Accepted s) where
      pub moved_not_there : leb (vertex_count s) v ≡ true → VertexMoved s v c s.positions b b (Err NotThere)
      unfolding outcome_alone number_of MovesAfter
      moved_not_there h = record {
        answer = boxed_accepted s b (move_checks s v c) Fine long (refused 5 0) a (refuses Fine _ _ (refused 5 0) h refl);
        buffers = (refl, refl);
      }

      module _ (there : leb (vertex_count s) v ≡ false) where
        pub moved_outside : new_outside c ≡ true → VertexMoved s v c s.positions b b (Err Coordinate)
        unfolding outcome_alone number_of MovesAfter
        moved_outside h = record {
          answer = boxed_accepted s b (move_checks s v c) Fine long (refused 2 0) a (lets_pass Fine _ _ (refused 2 0) there (refuses Fine _ _ (refused 2 0) h refl));
          buffers = (refl, refl);
        }

        module _ (range : new_outside c ≡ false) where
          pub moved_torn : tears_seam s v c ≡ true → VertexMoved s v c s.positions b b (Err BrokenSeam)
          unfolding outcome_alone number_of MovesAfter
          moved_torn h = record {
            answer =
                boxed_accepted s b (move_checks s v c) Fine long (refused 15 0) a
                (lets_pass Fine _ _ (refused 15 0) there (lets_pass Fine _ _ (refused 15 0) range (refuses Fine _ _ (refused 15 0) h refl)));
            buffers = (refl, refl);
          }

          pub moved_done : {p' b' : List ℤ} → tears_seam s v c ≡ false → p' ≡ placed s.positions v c → BoxesMoved (moved_scene s v c) v b b'
              → VertexMoved s v c p' b b' (Ok tt)
          unfolding outcome_alone MovesAfter
          moved_done h e m = record {
            answer =
                boxed_accepted s b (move_checks s v c) Fine long (given tt) a
                (lets_pass Fine _ _ (given tt) there (lets_pass Fine _ _ (given tt) range (lets_pass Fine _ _ (given tt) h (gives Fine tt tt))));
            buffers = (e, m);
          }
