-- What the second half of an import is given and gives: a draft of the start file, and the end file.
use Rattle.std.specs.Prelude.{Bool, true, false, not, ◌||◌, ◌≡◌, ℕ, ◌+◌, ◌*◌, ◌≤◌, ◌<◌, eqb, ℤ, pos, length, take, get_or, Err, Ok, Result}
use mathlib.Core.List.{List}
use Rattle.std.proofs.Math.Path.{refl, ap}
use Rattle.std.proofs.Common.{sym, ◌∙◌, arith, get_or-take}
use borrow.Author.Tests.{eqb-true, not-false}
use Rattle.answers.specs.Below.{or_left}
use Rattle.sequences.specs.Gather.{gather, gather_same}
use Rattle.sequences.specs.Wrote.{written}
use Rattle.meaning.specs.Limits.{vertex_limit, edge_limit, triangle_limit}
use Rattle.meaning.specs.Lines.{FaultyAt}
use Rattle.meaning.specs.Refusals.{number_of}
use Rattle.meaning.specs.Scene.{Scene, vertex_count, start_of, end_of}
use Rattle.meaning.specs.Text.{none, coordinates}
use Rattle.meaning.specs.ObjFile.{obj_lines}
use Rattle.meaning.specs.ObjPair.{same_numbers, differing, positions_between, FileRead}
use Rattle.meaning.specs.declared.SceneCounts.{SceneCounts}
use Rattle.meaning.specs.declared.Refusal.TheVariants.{FilesDiffer}
use Rattle.meaning.specs.declared.WhichFile.TheVariants.{Start, End}
use Rattle.text_line.specs.Above.{Bounded}
use Rattle.obj_draft.specs.Drafting.{Drafted}
use Rattle.obj_draft.specs.Reading.{DraftRead, DraftIs}
use Rattle.obj_scene.specs.Between.{between, vertex_from}
use Rattle.meaning.specs.declared.Refused.{Refused}
use Rattle.meaning.specs.declared.ImportRefusal.{ImportRefusal}
use Rattle.meaning.specs.declared.ImportRefusal.TheVariants.{In, Of}

-- room in the lent buffers, and in the drafts
pub record Lent (positions : List ℤ) (edges triangles : List ℕ) : Type 0 where
  pub points : 6 * vertex_limit ≤ length positions
  pub sides : 2 * edge_limit ≤ length edges
  pub corners : 3 * triangle_limit ≤ length triangles

pub record Drafts (p q : List ℤ) (e t : List ℕ) : Type 0 where
  pub starts : 6 * vertex_limit ≤ length p
  pub ends : 6 * vertex_limit ≤ length q
  pub sides : 2 * edge_limit ≤ length e
  pub corners : 3 * triangle_limit ≤ length t

pub record OnStart (c : SceneCounts) (p : List ℤ) (e t : List ℕ) : Type 0 where
  pub points : 6 * vertex_limit ≤ length p
  pub sides : 2 * edge_limit ≤ length e
  pub corners : 3 * triangle_limit ≤ length t
  pub bounded : Bounded c

pub record PairCopied (c : SceneCounts) (p q : List ℤ) (e t : List ℕ) (po : List ℤ) (eo to : List ℕ) (pl : List ℤ) (el tl : List ℕ) : Type 0 where
  pub positions : pl ≡ written (between p q c.vertices) po
  pub edges : el ≡ written (take (2 * c.edges) e) eo
  pub triangles : tl ≡ written (take (3 * c.triangles) t) to

-- ---- what is promised: below any scene that the draft of the start file holds

pub record Untouched (po : List ℤ) (eo to : List ℕ) (pl : List ℤ) (el tl : List ℕ) : Type 0 where
  pub positions : pl ≡ po
  pub edges : el ≡ eo
  pub triangles : tl ≡ to

pub record EndRead (c : SceneCounts) (s : Scene) (end : List ℕ) (po : List ℤ) (eo to : List ℕ) (pl : List ℤ) (el tl : List ℕ) (k : SceneCounts) : Type 0 where
  pub ends : Scene
  pub file : FileRead end ends
  pub alike : differing s ends ≡ false
  pub positions : pl ≡ written (positions_between s ends) po
  pub edges : el ≡ written s.edges eo
  pub triangles : tl ≡ written s.triangles to
  pub counts : k ≡ c

pub record EndDiffers (s : Scene) (end : List ℕ) (n : ℕ) : Type 0 where
  pub ends : Scene
  pub file : FileRead end ends
  pub other : differing s ends ≡ true
  pub number : n ≡ 14

unfoldable pub EndIs : SceneCounts → Scene → List ℕ → List ℤ → List ℕ → List ℕ → List ℤ → List ℕ → List ℕ → Result SceneCounts ImportRefusal → Type 0
EndIs c s end po eo to pl el tl (Ok k) = EndRead c s end po eo to pl el tl k
EndIs c s end po eo to pl el tl (Err (Of r)) = EndDiffers s end (number_of r) × Untouched po eo to pl el tl
EndIs c s end po eo to pl el tl (Err (In Start r)) = ⊥
EndIs c s end po eo to pl el tl (Err (In End r)) = FaultyAt obj_lines none end (number_of r.why) r.carries × Untouched po eo to pl el tl

abbrev pub EndImported : SceneCounts → List ℤ → List ℕ → List ℕ → List ℕ → List ℤ → List ℕ → List ℕ → List ℤ → List ℕ → List ℕ → Result SceneCounts ImportRefusal → Type 0
EndImported c p e t end po eo to pl el tl r = (s : Scene) → Drafted p e t s c → EndIs c s end po eo to pl el tl r

-- ---- the laws

-- positions in front of two drafts
between_is : {p q : List ℤ} {e t f u : List ℕ} {s s' : Scene} {c d : SceneCounts} → Drafted p e t s c → Drafted q f u s' d → c.vertices ≡ d.vertices
    → between p q c.vertices ≡ positions_between s s'
between_is {p} {q} {s = s} {s' = s'} {c = c} {d = d} x y same =
    let n : vertex_count s ≡ c.vertices = omega (arith, x.above.lengths.positions) in
    let at : (i : ℕ) → i < 6 * c.vertices → get_or p i (pos 0) ≡ get_or s.positions i (pos 0) = λ i h.
    sym (get_or-take (6 * c.vertices) p i (pos 0) h) ∙ ap (λ (l : List ℤ). get_or l i (pos 0)) x.positions in
    let bt : (i : ℕ) → i < 6 * c.vertices → get_or q i (pos 0) ≡ get_or s'.positions i (pos 0) = λ i h.
    sym (get_or-take (6 * d.vertices) q i (pos 0) (omega (arith, same))) ∙ ap (λ (l : List ℤ). get_or l i (pos 0)) y.positions in
    gather_same (vertex_from p q) (λ v. coordinates (start_of s v) (end_of s' v)) 0 c.vertices
    (λ v g h.
    cc (
      at (6 * v) (omega arith),
      at (6 * v + 1) (omega arith),
      at (6 * v + 2) (omega arith),
      bt (6 * v + 3) (omega arith),
      bt (6 * v + 3 + 1) (omega arith),
      bt (6 * v + 3 + 2) (omega arith),
    ))
    ∙ ap (λ (k : ℕ). gather (λ v. coordinates (start_of s v) (end_of s' v)) 0 k) (sym n)

-- the comparison made is that of the scenes
alike_is : {p q : List ℤ} {e t f u : List ℕ} {s s' : Scene} {c d : SceneCounts} {same : Bool} → Drafted p e t s c → Drafted q f u s' d
    → same ≡ same_numbers (take (3 * c.triangles) t) (take (3 * d.triangles) u)
    → differing s s' ≡ not (eqb c.vertices d.vertices) || not same
alike_is {s = s} {s' = s'} {c = c} {d = d} x y e =
    let n : vertex_count s ≡ c.vertices = omega (arith, x.above.lengths.positions) in
    let m : vertex_count s' ≡ d.vertices = omega (arith, y.above.lengths.positions) in
    cc (n, m, e, x.triangles, y.triangles)

module _ (end : List ℕ) (q : List ℤ) (f u : List ℕ) {r : Result SceneCounts Refused} (read : DraftIs end q f u r) where
  pub end_faulty : {x : Refused} (c : SceneCounts) (p : List ℤ) (e t : List ℕ) (po : List ℤ) (eo to : List ℕ) → r ≡ Err x
      → EndImported c p e t end po eo to po eo to (Err (In End x))
  unfolding EndIs DraftIs
  end_faulty c p e t po eo to g s d =
      let faulty : FaultyAt obj_lines none end _ _ = rw g at read in
      (faulty, record { positions = refl; edges = refl; triangles = refl })

  module _ {k : SceneCounts} (g : r ≡ Ok k) where
    held : DraftRead end q f u k
    unfolding DraftIs
    held = rw g at read

    pub end_bounded : Bounded k
    end_bounded = held.drafted.above.bounded

    file_is : FileRead end held.scene
    file_is = record { lines = held.lines; sound = held.sound; scene = held.state }

    module _ (c : SceneCounts) (p : List ℤ) (e t : List ℕ) {same : Bool} (tested : same ≡ same_numbers (take (3 * c.triangles) t) (take (3 * k.triangles) u))
        (po : List ℤ) (eo to : List ℕ) where
      pub end_differs : not (eqb c.vertices k.vertices) || not same ≡ true → EndImported c p e t end po eo to po eo to (Err (Of FilesDiffer))
      unfolding EndIs number_of
      end_differs h s d = (
        record { ends = held.scene; file = file_is; other = alike_is d held.drafted tested ∙ h; number = refl },
        record { positions = refl; edges = refl; triangles = refl },
      )

      pub end_read : {pl : List ℤ} {el tl : List ℕ} → not (eqb c.vertices k.vertices) || not same ≡ false → PairCopied c p q e t po eo to pl el tl
          → EndImported c p e t end po eo to pl el tl (Ok c)
      unfolding EndIs
      end_read h w s d =
          let same_count : c.vertices ≡ k.vertices = eqb-true c.vertices k.vertices (not-false _ (or_left _ (not same) h)) in
          record {
            ends = held.scene;
            file = file_is;
            alike = alike_is d held.drafted tested ∙ h;
            positions = w.positions ∙ ap (λ (l : List ℤ). written l po) (between_is d held.drafted same_count);
            edges = w.edges ∙ ap (λ (l : List ℕ). written l eo) d.edges;
            triangles = w.triangles ∙ ap (λ (l : List ℕ). written l to) d.triangles;
            counts = refl;
          }
