-- A text means one thing: how far its records go without a fault, and what is wrong where they stop.
use mathlib.Core.List.{List, [], ◌∷◌, ◌++◌, flat_map, append_assoc, append-nil}
use Rattle.std.specs.Prelude.{◌≡◌, ℕ, ◌+◌, ◌≤◌, ◌<◌, length}
use Rattle.std.proofs.Math.Path.{refl, sym, ap, subst}
use Rattle.std.proofs.Common.{◌∙◌, arith, length-append}
use Rattle.sequences.specs.Flat.{flat_cons}
use Rattle.answers.specs.Answering.{one_answer}
use Rattle.meaning.specs.Refusals.{Outcome, given, refused}
use Rattle.meaning.specs.Lines.{Grammar, nothing, RecordJudged, lines_of, after_all, Sound, Fault, unformed, misplaced, AllSound, FaultyAt, LinesAre}

-- what it takes: a text begins with the line of one record at most, and no line is empty
pub record Readable (g : Grammar) : Type 0 where
  pub cancel : {s : g.State} (r q : g.Record) (x y : List ℕ) → g.Formed s r → g.Formed s q → g.line r ++ x ≡ g.line q ++ y → (r ≡ q) × (x ≡ y)
  pub some : (r : g.Record) → 0 < length (g.line r)

-- records, none at fault, and below them the rest of the text
pub record Ran (g : Grammar) (s : g.State) (text : List ℕ) (rs : List g.Record) (rest : List ℕ) : Type 0 where
  pub sound : Sound g s rs rest
  pub lines : text ≡ lines_of g rs ++ rest

-- no record without a fault stands in front
pub record Stuck (g : Grammar) (s : g.State) (text : List ℕ) : Type 0 where
  pub never : (r : g.Record) (rest : List ℕ) → g.Formed s r → text ≡ g.line r ++ rest → RecordJudged g s r (nothing rest) (given tt) → ⊥

module _ {g : Grammar} (readable : Readable g) where
  pub no_line_of_none : (r : g.Record) (rest : List ℕ) → [] ≡ g.line r ++ rest → ⊥
  no_line_of_none r rest e = omega (arith, ap length e, length-append (g.line r) rest, readable.some r)

  pub ran_unique : {s : g.State} {text : List ℕ} (rs qs : List g.Record) {x y : List ℕ} → Ran g s text rs x → Ran g s text qs y
      → Stuck g (after_all g s rs) x → Stuck g (after_all g s qs) y → (rs ≡ qs) × (x ≡ y)
  unfolding flat_map Sound after_all
  ran_unique [] [] v w a b = (refl, sym v.lines ∙ w.lines)
  ran_unique [] (q ∷ qs) {x} {y} v w a b =
      absurd
      (a.never q (lines_of g qs ++ y) w.sound.0 (sym v.lines ∙ w.lines ∙ append_assoc (g.line q) (lines_of g qs) y) w.sound.1)
  ran_unique (r ∷ rs) [] {x} {y} v w a b =
      absurd
      (b.never r (lines_of g rs ++ x) v.sound.0 (sym w.lines ∙ v.lines ∙ append_assoc (g.line r) (lines_of g rs) x) v.sound.1)
  ran_unique {s} (r ∷ rs) (q ∷ qs) {x} {y} v w a b =
      let (same, rest) =
      readable.cancel r q (lines_of g rs ++ x) (lines_of g qs ++ y) v.sound.0 w.sound.0
      (sym (append_assoc (g.line r) (lines_of g rs) x) ∙ sym v.lines ∙ w.lines ∙ append_assoc (g.line q) (lines_of g qs) y) in
      let more : Ran g (g.after s q) (lines_of g rs ++ x) rs x =
      record { sound = subst (λ (t : g.Record). Sound g (g.after s t) rs x) same v.sound.2; lines = refl } in
      let stuck : Stuck g (after_all g (g.after s q) rs) x = subst (λ (t : g.Record). Stuck g (after_all g (g.after s t) rs) x) same a in
      let (sames, below) = ran_unique {s = g.after s q} rs qs more (record { sound = w.sound.2; lines = rest }) stuck b in
      (λ i. same i ∷ sames i, below)

  -- each line has a byte at least
  pub records_few : (rs : List g.Record) → length rs ≤ length (lines_of g rs)
  records_few [] = omega arith
  records_few (r ∷ rs) =
      omega (arith, readable.some r, records_few rs, ap length (flat_cons g.line r rs) ∙ length-append (g.line r) (lines_of g rs))

  -- at its end, or at a fault, a text is stuck
  pub end_stuck : (s : g.State) → Stuck g s []
  end_stuck s = record { never = λ r rest formed e j. no_line_of_none r rest e }

  one_judgement : (s : g.State) (r q : g.Record) (x y : List ℕ) (o o' : Outcome (Unit {0})) → r ≡ q → x ≡ y
      → RecordJudged g s r (nothing x) o → RecordJudged g s q (nothing y) o' → o ≡ o'
  one_judgement s r q x y o o' e f j k =
      let moved : RecordJudged g s q (nothing x) o = subst (λ (t : g.Record). RecordJudged g s t (nothing x) o) e j in
      let here : RecordJudged g s q (nothing y) o = subst (λ (l : List ℕ). RecordJudged g s q (nothing l) o) f moved in
      one_answer (λ t. Unit {0}) (λ a b h k. refl) (g.checks s q (nothing y)) o o' here k

  pub fault_stuck : {s : g.State} {text : List ℕ} {n : ℕ} → Fault g s text n → Stuck g s text
  fault_stuck (unformed e some never) = record { never = λ r rest formed e j. never r rest formed e }
  fault_stuck {s} {text} {n} (misplaced r rest formed e j) =
      record {
        never = λ q more formed' f k.
            let (same, below) = readable.cancel r q rest more formed formed' (sym e ∙ f) in
            let z : refused n 0 ≡ given tt = one_judgement s r q rest more (refused n 0) (given tt) same below j k in
            let y : ◌≡◌ {A = ℕ} 0 1 = cc in
            omega arith;
      }

  pub fault_some : {s : g.State} {n : ℕ} → Fault g s [] n → ⊥
  fault_some (unformed e some never) = some refl
  fault_some (misplaced r rest formed e j) = no_line_of_none r rest e

  -- the fault of a line is one
  pub fault_unique : {s : g.State} {text : List ℕ} {n m : ℕ} → Fault g s text n → Fault g s text m → n ≡ m
  fault_unique (unformed e some never) (unformed f some' never') = e ∙ sym f
  fault_unique (unformed e some never) (misplaced r rest formed f j) = absurd (never r rest formed f)
  fault_unique (misplaced r rest formed f j) (unformed e some never) = absurd (never r rest formed f)
  fault_unique {s} {text} {n} {m} (misplaced r rest formed e j) (misplaced q more formed' f k) =
      let (same, below) = readable.cancel r q rest more formed formed' (sym e ∙ f) in
      let z : refused n 0 ≡ refused m 0 = one_judgement s r q rest more (refused n 0) (refused m 0) same below j k in
      cc

  pub all_ran : {s : g.State} {text : List ℕ} {rs : List g.Record} → AllSound g s text rs → Ran g s text rs []
  all_ran {s} {text} {rs} h = record { sound = h.sound; lines = h.lines ∙ sym (append-nil (lines_of g rs)) }

  pub faulty_ran : {s : g.State} {text : List ℕ} {n line : ℕ} (h : FaultyAt g s text n line) → Ran g s text h.above h.below
  faulty_ran h = record { sound = h.sound; lines = h.lines }

  -- the records of a text are one list
  pub records_unique : {s : g.State} {text : List ℕ} {rs qs : List g.Record} → AllSound g s text rs → AllSound g s text qs → rs ≡ qs
  records_unique {s} {text} {rs} {qs} h k = (ran_unique rs qs (all_ran h) (all_ran k) (end_stuck _) (end_stuck _)).0

  -- a text of records has no faulty line
  pub sound_or_faulty : {s : g.State} {text : List ℕ} {rs : List g.Record} {n line : ℕ} → AllSound g s text rs → FaultyAt g s text n line → ⊥
  sound_or_faulty {s} {text} {rs} h k =
      let (same, end) = ran_unique rs k.above (all_ran h) (faulty_ran k) (end_stuck _) (fault_stuck k.fault) in
      fault_some (subst (λ (l : List ℕ). Fault g (after_all g s k.above) l _) (sym end) k.fault)

  -- the first faulty line is one, and so is its fault
  pub faulty_unique : {s : g.State} {text : List ℕ} {n line m place : ℕ} → FaultyAt g s text n line → FaultyAt g s text m place → (n ≡ m) × (line ≡ place)
  faulty_unique {s} {text} {n} {line} {m} {place} h k =
      let (same, end) =
      ran_unique h.above k.above (faulty_ran h) (faulty_ran k) (fault_stuck h.fault) (fault_stuck k.fault) in
      let moved : Fault g (after_all g s k.above) h.below n =
      subst (λ (rs : List g.Record). Fault g (after_all g s rs) h.below n) same h.fault in
      let here : Fault g (after_all g s k.above) k.below n =
      subst (λ (l : List ℕ). Fault g (after_all g s k.above) l n) end moved in
      (fault_unique here k.fault, h.place ∙ ap (λ (rs : List g.Record). length rs + 1) same ∙ sym k.place)

  -- a text is the lines of one list of records, or has one first faulty line with one fault
  pub lines_unique : (s : g.State) (text : List ℕ) (o o' : Outcome (List g.Record)) → LinesAre g s text o → LinesAre g s text o' → o ≡ o'
  unfolding LinesAre
  lines_unique s text (given rs) (given qs) h k = ap given (records_unique h k)
  lines_unique s text (given rs) (refused n line) h k = absurd (sound_or_faulty h k)
  lines_unique s text (refused n line) (given qs) h k = absurd (sound_or_faulty k h)
  lines_unique s text (refused n line) (refused m place) h k =
      let (a, b) = faulty_unique h k in
      λ i. refused (a i) (b i)
