-- The check of a mesh over a list lent for its table of seams: what each way out of it gives.
use Rattle.std.specs.Prelude.{ℕ, ◌/◌, ◌≤◌, Bool, true, false, not, cond, ◌&&◌, List, ◌∷◌, ◌≢◌, ◌≡◌, eqb, ltb, length, Err, Ok, Result}
use Rattle.std.proofs.Math.Path.{refl}
use Rattle.std.proofs.Common.{sym, ◌∙◌, arith, ne_eqb, ltb-false, le-ltb}
use Rattle.std.proofs.lemmas.List.{length-replicate}
use Rattle.meaning.specs.Scene.{Scene, vertex_count}
use Rattle.meaning.specs.Mesh.{mesh_checks, MeshChecked, table_room, MeshAccepted}
use Rattle.meaning.specs.Refusals.{number_of, outcome_alone}
use Rattle.meaning.specs.declared.Refusal.TheVariants.{ShortBuffer}
use Rattle.answers.specs.Answering.{refuses, lets_pass, one_answer}
use Rattle.scene_seams.specs.Alone.{tabled}
use Rattle.mesh_seams.specs.Sewing.{MeshBlank}
use Rattle.mesh_checks.specs.Meshes.{AcceptedMesh, mesh_accepted}
use Rattle.mesh_checks.specs.Checking.{CheckedInto, one_mesh}
use Rattle.mesh_lent.specs.Blanking.{blank_of, blank_everywhere}
use Rattle.meaning.specs.declared.Refusal.{Refusal}
use Rattle.answers.specs.Speaking.{one_alone}

-- by how many numbers there are: seams, and no room for an entry for each vertex
abbrev pub table_short : (positions seams table : ℕ) → Bool
table_short p w t = not (eqb w 0) && ltb t (p / 6)

abbrev pub short_for : Scene → List ℕ → Bool
short_for s t = table_short (length s.positions) (length s.seams) (length t)

-- that is meaning's
short_by : (none : Bool) (p t : ℕ) → not none && ltb t p ≡ ltb t (cond none 0 p)
short_by true p t = sym (le-ltb t 0 (omega arith))
short_by false p t = refl

pub short_told : (s : Scene) (t : List ℕ) → short_for s t ≡ ltb (length t) (table_room s)
short_told s t = short_by (eqb (length s.seams) 0) (vertex_count s) (length t)

-- where there are seams, a list that is not too short has room for all vertices
pub has_room : (s : Scene) (t : List ℕ) → short_for s t ≡ false → length s.seams ≢ 0 → length s.positions / 6 ≤ length t
has_room s t long some = ltb-false (length t) (length s.positions / 6) (rw (ne_eqb (length s.seams) 0 some) at long)

pub room_for : (s : Scene) (t : List ℕ) → table_room s ≤ length t → MeshBlank (vertex_count s) s.seams (blank_of t)
room_for s t room =
    record {
      none = λ v. blank_everywhere t v;
      room = λ some.
          has_room s (blank_of t)
          (short_told s (blank_of t) ∙ le-ltb (length (blank_of t)) (table_room s) (omega (arith, room, length-replicate {A = ℕ} (length t) 0)))
          (λ e. omega arith);
    }

-- ---- the five checks over a list that is t' afterwards: where the mesh is accepted, its seams stand there
pub record MeshSewn (s : Scene) (t' : List ℕ) (r : Result (Unit {0}) Refusal) : Type 0 where
  pub checked : MeshChecked s r
  pub accepted : r ≡ Ok tt → AcceptedMesh s
  pub tells : r ≡ Ok tt → tabled s.positions s.edges s.triangles t' ≡ s

pub mesh_sewn : (s : Scene) {t t' : List ℕ} {r : Result (Unit {0}) Refusal} → CheckedInto s t t' r → MeshSewn s t' r
mesh_sewn s {t} {t'} {r} c =
    record { checked = c.checked; accepted = passed; tells = λ e. one_mesh {s = s} c.into (passed e) }
  where
    passed : r ≡ Ok tt → AcceptedMesh s
    passed e = mesh_accepted s (rw e at c.checked)

-- ---- 12, then the five

module _ (s : Scene) (t : List ℕ) where
  pub too_short : short_for s t ≡ true → MeshAccepted s (length t) (Err ShortBuffer)
  unfolding outcome_alone number_of
  too_short h = refuses _ _ _ _ (sym (short_told s t) ∙ h) refl

  pub long_enough : short_for s t ≡ false → table_room s ≤ length t
  long_enough h = ltb-false (length t) (table_room s) (sym (short_told s t) ∙ h)

  pub by_checks : {t' : List ℕ} {r : Result (Unit {0}) Refusal} → short_for s t ≡ false → MeshSewn s t' r → MeshAccepted s (length t) r
  by_checks h m = lets_pass _ _ _ _ (sym (short_told s t) ∙ h) m.checked

-- only one answer is right
pub one_accepted : (s : Scene) (n : ℕ) (r r' : Result (Unit {0}) Refusal) → MeshAccepted s n r → MeshAccepted s n r' → r ≡ r'
one_accepted s n r r' p q =
    one_alone r r' (one_answer (λ u. Unit {0}) (λ a b h k. refl) (record { number = 12; holds = ltb n (table_room s); carries = 0 } ∷ mesh_checks s) (outcome_alone r) (outcome_alone r') p q)
