-- What the reader of a file promises, and how it goes on from line to line.
use Rattle.std.specs.Prelude.{Result, Ok, Err, List, ◌≡◌, refl, ℕ, ◌+◌, ◌≤◌, ◌<◌, ℤ, length, drop}
use Rattle.std.proofs.Math.Path.{sym, ap}
use Rattle.std.proofs.Common.{◌∙◌, arith}
use Rattle.meaning.specs.Lines as Lines
use Rattle.meaning.specs.Lines.{after_all, AllSound, FaultyAt}
use Rattle.meaning.specs.Refusals.{number_of, carrying}
use Rattle.meaning.specs.Scene.{Scene}
use Rattle.meaning.specs.Text.{none}
use Rattle.meaning.specs.declared.Refusal.{Refusal}
use Rattle.meaning.specs.declared.SceneCounts.{SceneCounts}
use Rattle.text_laws.specs.Going.{Reached, reached_first, reached_none, reached_next, reached_longer, reached_fault, reached_end}
use Rattle.text_line.specs.Above.{above_none, no_counts}
use Rattle.meaning.specs.ObjLine.{says}
use Rattle.meaning.specs.ObjFile.{scene_after, obj_lines}
use Rattle.obj_laws.specs.Ended.{obj_readable}
use Rattle.obj_edges.specs.Chains.{Knows}
use Rattle.obj_draft.specs.Drafting.{Drafted, DraftRoom, TakenAs, LineTaken, TookLine}
use Rattle.obj_draft.specs.declared.Taken.{Taken}
use Rattle.meaning.specs.declared.Refused.{Refused}

-- ---- the promise

-- the file is its lines, none at fault, and the draft holds their scene
pub record DraftRead (text : List ℕ) (p : List ℤ) (e t : List ℕ) (c : SceneCounts) : Type 0 where
  pub scene : Scene
  pub lines : List (List ℕ)
  pub sound : AllSound obj_lines none text lines
  pub state : scene ≡ after_all obj_lines none lines
  pub drafted : Drafted p e t scene c

unfoldable pub DraftIs : List ℕ → List ℤ → List ℕ → List ℕ → Result SceneCounts Refused → Type 0
DraftIs text p e t (Ok c) = DraftRead text p e t c
DraftIs text p e t (Err f) = FaultyAt obj_lines none text (number_of f.why) f.carries

-- ---- the loop

pub record SameRoom (p₀ : List ℤ) (e₀ t₀ : List ℕ) (p : List ℤ) (e t : List ℕ) : Type 0 where
  pub positions : length p ≡ length p₀
  pub edges : length e ≡ length e₀
  pub triangles : length t ≡ length t₀

pub same_room : (p : List ℤ) (e t : List ℕ) → SameRoom p e t p e t
same_room p e t = record { positions = refl; edges = refl; triangles = refl }

pub room_then : {p₀ p p' : List ℤ} {e₀ t₀ e t e' t' : List ℕ} → SameRoom p e t p' e' t' → SameRoom p₀ e₀ t₀ p e t → SameRoom p₀ e₀ t₀ p' e' t'
room_then v u =
    record { positions = v.positions ∙ u.positions; edges = v.edges ∙ u.edges; triangles = v.triangles ∙ u.triangles }

pub same_roomy : {p₀ p : List ℤ} {e₀ t₀ e t : List ℕ} → DraftRoom p₀ e₀ t₀ → SameRoom p₀ e₀ t₀ p e t → DraftRoom p e t
same_roomy room u =
    record {
      positions = omega (arith, room.positions, u.positions);
      faces = record { sides = omega (arith, room.faces.sides, u.edges); corners = omega (arith, room.faces.corners, u.triangles) };
    }

-- the lines before the place say something, none at fault, and the draft holds their scene; this is the number of the next
pub record Drafting (text : List ℕ) (p : List ℤ) (e t : List ℕ) (c : SceneCounts) (at line : ℕ) : Type 0 where
  pub scene : Scene
  pub reached : Reached obj_lines none text scene at
  pub drafted : Drafted p e t scene c
  pub place : line ≡ length reached.above + 1
  pub few : line ≤ at + 1

pub draft_starts : (text : List ℕ) (p : List ℤ) (e t : List ℕ) → Knows e 0 → Drafting text p e t no_counts 0 1
draft_starts text p e t blank =
    record {
      scene = none;
      reached = reached_first obj_lines none text;
      drafted = record { above = above_none; positions = refl; edges = refl; triangles = refl; seamless = refl; knows = blank };
      place = ap (λ (k : ℕ). k + 1) (sym (reached_none obj_lines none text));
      few = omega arith;
    }

module _ {text : List ℕ} {p : List ℤ} {e t : List ℕ} {c : SceneCounts} {at line : ℕ} (i : Drafting text p e t c at line) where
  module _ (p' : List ℤ) (e' t' : List ℕ) {r : Result Taken Refusal} (taken : LineTaken text at c p e t p' e' t' r) where
    pub draft_goes : {k : Taken} → r ≡ Ok k → Drafting text p' e' t' k.counts k.next (line + 1) × (at < k.next)
    unfolding TakenAs
    draft_goes {k = on_line} q =
        let any : TakenAs text at p' e' t' i.scene r = taken i.scene i.drafted in
        let k : TookLine text at p' e' t' i.scene on_line.counts on_line.next = rw q at any in
        let (on, further) = reached_next i.reached obj_readable k.body k.formed k.good k.stands in (
          record {
            scene = scene_after i.scene (says k.body);
            reached = on;
            drafted = k.drafted;
            place = ap (λ (n : ℕ). n + 1) (i.place ∙ sym (reached_longer i.reached obj_readable k.body k.formed k.good k.stands));
            few = omega (arith, i.few, further);
          },
          further,
        )

    pub draft_fails : {f : Refusal} → r ≡ Err f → DraftIs text p' e' t' (Err (carrying f line))
    unfolding TakenAs DraftIs
    draft_fails {f} q =
        let any : TakenAs text at p' e' t' i.scene r = taken i.scene i.drafted in
        let fault : Lines.Fault obj_lines i.scene (drop at text) (number_of f) = rw q at any in
        reached_fault i.reached fault i.place

  pub draft_ends : length text ≤ at → DraftIs text p e t (Ok c)
  unfolding DraftIs
  draft_ends h =
      record {
        scene = i.scene;
        lines = i.reached.above;
        sound = reached_end i.reached h;
        state = i.reached.state;
        drafted = i.drafted;
      }
