-- What the reader of a draft promises, and how it goes on from line to line.
use Rattle.std.specs.Prelude.{Result, Ok, Err, List, [], ◌≡◌, refl, ℕ, ◌+◌, ◌*◌, ◌≤◌, ◌<◌, ℤ, pos, length, replicate}
use Rattle.std.proofs.Math.Path.{sym, ap}
use Rattle.std.proofs.Common.{◌∙◌, arith}
use Rattle.std.proofs.lemmas.List.{length-replicate}
use Rattle.scene_seams.specs.Table.{seams_of, no_seams_from}
use Rattle.scene_seams.specs.Sewing.{blank_table}
use Rattle.meaning.specs.Limits.{vertex_limit, edge_limit, triangle_limit, seam_limit}
use Rattle.meaning.specs.Scene.{Scene, scene_of}
use Rattle.meaning.specs.Refusals.{number_of, carrying}
use Rattle.meaning.specs.Text as Text
use Rattle.meaning.specs.Text.{Entry, none, scene_lines, Holds, SceneFaultyAt}
use Rattle.meaning.specs.declared.Refusal.{Refusal}
use Rattle.meaning.specs.declared.SceneCounts.{SceneCounts}
use Rattle.text_laws.specs.Going.{Reached, reached_first, reached_none, reached_next, reached_longer, reached_fault, reached_end}
use Rattle.text_line.specs.Rendered.{scene_readable}
use Rattle.text_line.specs.Reading.{sort_of}
use Rattle.text_line.specs.Above.{Bounded, above_none, no_counts, counted_by}
use Rattle.text_line.specs.declared.Sort.{Sort}
use Rattle.text_line.specs.declared.Sort.TheVariants.{Vertex, Edge, Triangle, Seam}
use Rattle.text_record.specs.Putting.{Roomy}
use Rattle.text_record.specs.Drafting.{Drafted, DraftOf, FaultHere, TakenAs, LineTaken, TookLine}
use Rattle.text_record.specs.declared.Taken.{Taken}
use Rattle.text_draft.specs.declared.Lines.{Lines}
use Rattle.text_draft.specs.declared.Stopped.{Stopped}
use Rattle.meaning.specs.declared.Refused.{Refused}

-- a table of no seams, with a place for each vertex
pub record BlankTable (table : List ℕ) : Type 0 where
  pub none : seams_of table ≡ []
  pub wide : vertex_limit ≤ length table

-- the arrays that a draft begins with
pub own_table : BlankTable (replicate vertex_limit 0)
own_table =
    record {
      none = no_seams_from (replicate vertex_limit 0) 0 (blank_table []).none;
      wide = omega (arith, length-replicate {A = ℕ} vertex_limit 0);
    }

pub own_room : Roomy (scene_of (replicate (6 * vertex_limit) (pos 0)) (replicate (2 * edge_limit) 0) (replicate (3 * triangle_limit) 0) (replicate (2 * seam_limit) 0))
own_room =
    record {
      positions = omega (arith, length-replicate {A = ℤ} (6 * vertex_limit) (pos 0));
      edges = omega (arith, length-replicate {A = ℕ} (2 * edge_limit) 0);
      triangles = omega (arith, length-replicate {A = ℕ} (3 * triangle_limit) 0);
      seams = omega (arith, length-replicate {A = ℕ} (2 * seam_limit) 0);
    }

-- ---- the promise

-- the text is a scene's, and the draft holds it
pub record DraftRead (text : List ℕ) (b : Scene) (table : List ℕ) (c : SceneCounts) : Type 0 where
  pub scene : Scene
  pub holds : Holds text scene
  pub drafted : Drafted b table scene c

unfoldable pub DraftIs : List ℕ → Scene → List ℕ → Result SceneCounts Refused → Type 0
DraftIs text b table (Ok c) = DraftRead text b table c
DraftIs text b table (Err f) = SceneFaultyAt text (number_of f.why) f.carries

-- ---- the loop

-- the buffers and the table are as long as they were
pub record SameRoom (b₀ : Scene) (table₀ : List ℕ) (b : Scene) (table : List ℕ) : Type 0 where
  pub positions : length b.positions ≡ length b₀.positions
  pub edges : length b.edges ≡ length b₀.edges
  pub triangles : length b.triangles ≡ length b₀.triangles
  pub seams : length b.seams ≡ length b₀.seams
  pub sewn : length table ≡ length table₀

pub same_room : (b : Scene) (table : List ℕ) → SameRoom b table b table
same_room b table = record { positions = refl; edges = refl; triangles = refl; seams = refl; sewn = refl }

pub room_then : {b₀ b b' : Scene} {table₀ table table' : List ℕ} → SameRoom b table b' table' → SameRoom b₀ table₀ b table
    → SameRoom b₀ table₀ b' table'
room_then v u =
    record {
      positions = v.positions ∙ u.positions;
      edges = v.edges ∙ u.edges;
      triangles = v.triangles ∙ u.triangles;
      seams = v.seams ∙ u.seams;
      sewn = v.sewn ∙ u.sewn;
    }

pub same_roomy : {b₀ b : Scene} {table₀ table : List ℕ} → Roomy b₀ → SameRoom b₀ table₀ b table → Roomy b
same_roomy room u =
    record {
      positions = omega (arith, room.positions, u.positions);
      edges = omega (arith, room.edges, u.edges);
      triangles = omega (arith, room.triangles, u.triangles);
      seams = omega (arith, room.seams, u.seams);
    }

-- each line above holds a record
abbrev pub total : SceneCounts → ℕ
total c = c.vertices + c.edges + c.triangles + c.seams

total_more : (c : SceneCounts) (sort : Sort) → total (counted_by c sort) ≡ total c + 1
unfolding counted_by
total_more c Vertex = omega arith
total_more c Edge = omega arith
total_more c Triangle = omega arith
total_more c Seam = omega arith

-- the lines before the place are records, none at fault, and the draft holds their scene
pub record Drafting (text : List ℕ) (b : Scene) (table : List ℕ) (c : SceneCounts) (at : ℕ) : Type 0 where
  pub scene : Scene
  pub reached : Reached scene_lines none text scene at
  pub drafted : Drafted b table scene c
  pub lines : total c ≡ length reached.above

-- the first line at fault, below those lines
pub record StoppedAt (text : List ℕ) (b : Scene) (table : List ℕ) (f : Refusal) (c : SceneCounts) (at : ℕ) : Type 0 where
  pub scene : Scene
  pub reached : Reached scene_lines none text scene at
  pub lines : total c ≡ length reached.above
  pub bounded : Bounded c
  pub inside : at < length text
  pub here : FaultHere text at c scene b table f

unfoldable pub LinesAre : List ℕ → Scene → List ℕ → Result Lines Stopped → Type 0
LinesAre text b table (Err stopped) = StoppedAt text b table stopped.why stopped.above.counts stopped.above.at
LinesAre text b table (Ok lines) = Drafting text b table lines.counts lines.at × (length text ≤ lines.at)

pub draft_starts : (text : List ℕ) (b : Scene) (table : List ℕ) → BlankTable table → Drafting text b table no_counts 0
draft_starts text b table blank =
    record {
      scene = none;
      reached = reached_first scene_lines none text;
      drafted = record {
        above = above_none;
        fronts = record { positions = refl; edges = refl; triangles = refl; seams = refl };
        sewn = blank.none;
        wide = blank.wide;
      };
      lines = sym (reached_none scene_lines none text);
    }

module _ {text : List ℕ} {b : Scene} {table : List ℕ} {c : SceneCounts} {at : ℕ} (i : Drafting text b table c at) where
  pub draft_of : DraftOf c b table
  draft_of = record { scene = i.scene; drafted = i.drafted }

  module _ (b' : Scene) (table' : List ℕ) {r : Result Taken Refusal} (line : LineTaken text at c b table b' table' r) where
    pub draft_goes : {taken : Taken} → r ≡ Ok taken → Drafting text b' table' taken.counts taken.next × (at < taken.next)
    unfolding TakenAs
    draft_goes {taken} e =
        let any : TakenAs text at c i.scene b' table' r = line i.scene i.drafted in
        let t : TookLine text at c i.scene b' table' taken.counts taken.next = rw e at any in
        let q : Entry = t.entry in
        let (on, further) = reached_next i.reached scene_readable q t.short t.good t.stands in (
          record {
            scene = Text.scene_with i.scene q;
            reached = on;
            drafted = t.drafted;
            lines = ap total t.counts
                ∙ total_more c (sort_of q)
                ∙ ap (λ (k : ℕ). k + 1) i.lines
                ∙ sym (reached_longer i.reached scene_readable q t.short t.good t.stands);
          },
          further,
        )

    pub draft_stops : {f : Refusal} → at < length text → r ≡ Err f → LinesAre text b' table' (Err (record { why = f; above = record { counts = c; at = at } }))
    unfolding TakenAs LinesAre
    draft_stops {f} h e =
        let any : TakenAs text at c i.scene b' table' r = line i.scene i.drafted in
        let here : FaultHere text at c i.scene b' table' f = rw e at any in
        record {
          scene = i.scene;
          reached = i.reached;
          lines = i.lines;
          bounded = i.drafted.above.bounded;
          inside = h;
          here = here;
        }

  pub draft_ends : length text ≤ at → LinesAre text b table (Ok (record { counts = c; at = at }))
  unfolding LinesAre
  draft_ends h = (i, h)

-- ---- a scene's text, from its lines

module _ (text : List ℕ) (b : Scene) (table : List ℕ) {r : Result Lines Stopped} (all : LinesAre text b table r) where
  pub stopped_at : {stopped : Stopped} → r ≡ Err stopped → StoppedAt text b table stopped.why stopped.above.counts stopped.above.at
  unfolding LinesAre
  stopped_at e = rw e at all

  pub went_on : {lines : Lines} → r ≡ Ok lines → Drafting text b table lines.counts lines.at × (length text ≤ lines.at)
  unfolding LinesAre
  went_on e = rw e at all

  pub text_refused : {stopped : Stopped} {line : ℕ} → r ≡ Err stopped → line ≡ total stopped.above.counts + 1
      → DraftIs text b table (Err (carrying stopped.why line))
  unfolding DraftIs
  text_refused {stopped} e l =
      let s : StoppedAt text b table stopped.why stopped.above.counts stopped.above.at = stopped_at e in
      reached_fault s.reached s.here.fault (l ∙ ap (λ (k : ℕ). k + 1) s.lines)

  pub text_read : {lines : Lines} → r ≡ Ok lines → DraftIs text b table (Ok lines.counts)
  unfolding DraftIs
  text_read {lines} e =
      let (i, h) = went_on e in
      record {
        scene = i.scene;
        holds = record { entries = i.reached.above; records = reached_end i.reached h; scene = i.reached.state };
        drafted = i.drafted;
      }
