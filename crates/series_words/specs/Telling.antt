-- What is told of a series so far, and of further pairs behind it: the hits of some pairs and of more are those of the first, then those of the
-- others, and so are the totals.
use Rattle.std.specs.Prelude.{ℕ, zero, suc, ◌+◌, ◌≤◌, ◌<◌, Bool, cond, ◌≡◌, eqb, length, take, get_or, None, Option, Some, unwrap_or}
use Rattle.std.proofs.Math.Bool.{true, false}
use mathlib.Core.List.{List, [], ◌∷◌, ◌++◌, map, append_assoc, append-nil}
use Rattle.std.proofs.Math.Path.{refl, ap, subst}
use Rattle.std.proofs.Common.{sym, ◌∙◌, ne_eqb, length-append}
use native.Mathlib.Omega.{arith}
use Rattle.sequences.specs.Mapped.{map_append}
use Rattle.sequences.specs.Parts.{take_next}
use Rattle.meaning.specs.List.{Pair}
use Rattle.meaning.specs.SceneWords.{byte_of}
use Rattle.meaning.specs.Report.{is_one, how_many}
use Rattle.meaning.specs.Series.{HitAt, hit_at, hits_here, hits_in, counted, log_limit, first_step}
use Rattle.meaning.specs.declared.Settled.{Settled}
use Rattle.meaning.specs.declared.Settled.TheVariants.{Hit, Miss, Touch, Apart}
use Rattle.list_entries.specs.Entries.{pair_of, pair_at}
use Rattle.list_words.specs.Listed.{word_of_byte, word_of_its_byte, pairs_in, WordByte, StandsFor}
use Rattle.tally.specs.Tallied.{one_more, tallied}
use Rattle.tally.specs.declared.Tally.{Tally}
use Rattle.series_laws.specs.Front.{first_in_log}
use Rattle.series_log.specs.Logged.{logged}
use Rattle.meaning.specs.SeriesAnswers.{hit_of}
use Rattle.series_log.specs.Kept.{LogOf, log_starts, count_more, logged_full, log_goes}
use Rattle.meaning.specs.declared.StepHit.{StepHit}
use Rattle.meaning.specs.declared.Log.{Log}
use Rattle.meaning.specs.declared.SeriesTold.{SeriesTold}
use Rattle.meaning.specs.SeriesAnswers.{nothing_told}

-- the words that the first n bytes stand for
abbrev pub words_in : ℕ → List ℕ → List Settled
words_in n b = map word_of_byte (take n b)

-- a byte that stands for none is read as the last
no_word_last : {b : ℕ} → ¬ WordByte b → word_of_byte b ≡ Apart
unfolding word_of_byte byte_of
no_word_last {b} none =
    rw (
      ne_eqb b 0 (λ e. none (record { word = Hit; stands = sym e })),
      ne_eqb b 1 (λ e. none (record { word = Miss; stands = sym e })),
      ne_eqb b 3 (λ e. none (record { word = Touch; stands = sym e })),
    ) refl

pub word_or_last : (b : ℕ) (r : Option Settled) → StandsFor b r → unwrap_or r Apart ≡ word_of_byte b
unfolding StandsFor
word_or_last b (Some w) h = word_of_its_byte w h
word_or_last b None none = sym (no_word_last none)

module _ (n : ℕ) (l : List ℕ) (h : n < length l) where
  pub pairs_next : pairs_in (n + 1) l ≡ pairs_in n l ++ (pair_at l n ∷ [])
  pairs_next = ap (map pair_of) (take_next l n 0 h) ∙ map_append pair_of (take n l) (get_or l n 0 ∷ [])

  pub words_next : words_in (n + 1) l ≡ words_in n l ++ (word_of_byte (get_or l n 0) ∷ [])
  words_next = ap (map word_of_byte) (take_next l n 0 h) ∙ map_append word_of_byte (take n l) (get_or l n 0 ∷ [])

-- ---- the log

pub hits_behind : (n : ℕ) (ps qs : List Pair) (us vs : List Settled) → length ps ≡ length us
    → hits_in n (ps ++ qs) (us ++ vs) ≡ hits_in n ps us ++ hits_in n qs vs
unfolding hits_in
hits_behind n [] qs [] vs e = refl
hits_behind n [] qs (u ∷ us) vs e = absurd (omega arith)
hits_behind n (p ∷ ps) qs [] vs e = absurd (omega arith)
hits_behind n (p ∷ ps) qs (u ∷ us) vs e =
    ap (λ (l : List HitAt). hits_here n p u ++ l) (hits_behind n ps qs us vs (omega arith))
    ∙ sym (append_assoc (hits_here n p u) (hits_in n ps us) (hits_in n qs vs))

-- a log that took the hits of these pairs of step n behind whatever it had taken
pub record LogGoes (n : ℕ) (ps : List Pair) (ws : List Settled) (l l' : Log) : Type 0 where
  pub long : length ps ≡ length ws
  pub goes : (hs : List HitAt) → LogOf hs l → LogOf (hs ++ hits_in n ps ws) l'

pub log_none : (n : ℕ) (l : Log) → LogGoes n [] [] l l
unfolding hits_in
log_none n l = record { long = refl; goes = λ hs k. subst (λ (h : List HitAt). LogOf h l) (sym (append-nil hs)) k }

pub log_then : {n : ℕ} {ps qs : List Pair} {us vs : List Settled} {l l₁ l₂ : Log} → LogGoes n ps us l l₁ → LogGoes n qs vs l₁ l₂
    → LogGoes n (ps ++ qs) (us ++ vs) l l₂
log_then {n} {ps} {qs} {us} {vs} {l} {l₁} {l₂} a b =
    record {
      long = omega (arith, length-append ps qs, length-append us vs, a.long, b.long);
      goes = λ hs k.
          subst (λ (h : List HitAt). LogOf h l₂)
          (append_assoc hs (hits_in n ps us) (hits_in n qs vs) ∙ ap (λ (h : List HitAt). hs ++ h) (sym (hits_behind n ps qs us vs a.long)))
          (b.goes (hs ++ hits_in n ps us) (a.goes hs k));
    }

module _ (n : ℕ) (p : Pair) (b : ℕ) (l : Log) where
  hit_word : b ≡ 0 → word_of_byte b ≡ Hit
  unfolding word_of_byte
  hit_word e = rw e refl

  -- a hit is taken
  pub log_hit : (h : StepHit) → b ≡ 0 → hit_of h ≡ hit_at n p → LogGoes n (p ∷ []) (word_of_byte b ∷ []) l (logged l h)
  unfolding hits_in hits_here
  log_hit h e is =
      rw (hit_word e)
      (record { long = refl; goes = λ hs k. subst (λ (x : HitAt). LogOf (hs ++ (x ∷ [])) (logged l h)) is (log_goes k h) })

  -- where the log is full it is counted
  pub log_counts : b ≡ 0 → log_limit ≤ l.held
      → LogGoes n (p ∷ []) (word_of_byte b ∷ []) l (record { hits = l.hits; held = l.held; later = one_more l.later })
  log_counts e past =
      let h : StepHit = record { step = n; kind = p.kind; first = p.first; second = p.second } in
      subst (LogGoes n (p ∷ []) (word_of_byte b ∷ []) l) (logged_full l h past) (log_hit h e refl)

  no_hits : (x y : Bool) → hits_here n p (cond x Miss (cond y Touch Apart)) ≡ []
  unfolding hits_here
  no_hits true y = refl
  no_hits false true = refl
  no_hits false false = refl

  none_here : eqb b 0 ≡ false → hits_here n p (word_of_byte b) ≡ []
  unfolding word_of_byte
  none_here e = rw e (no_hits (eqb b 1) (eqb b 3))

  -- what is no hit is passed by
  pub log_passes : eqb b 0 ≡ false → LogGoes n (p ∷ []) (word_of_byte b ∷ []) l l
  unfolding hits_in
  log_passes e =
      record {
        long = refl;
        goes = λ hs k.
            subst (λ (h : List HitAt). LogOf h l)
            (sym (append-nil hs) ∙ ap (λ (h : List HitAt). hs ++ (h ++ [])) (sym (none_here e)))
            k;
      }

-- ---- the totals

pub record TotalsOf (ws : List Settled) (t : Tally) : Type 0 where
  pub listed : t.listed ≡ counted (length ws)
  pub hits : t.hits ≡ counted (how_many Hit ws)
  pub misses : t.misses ≡ counted (how_many Miss ws)
  pub touches : t.touches ≡ counted (how_many Touch ws)
  pub aparts : t.aparts ≡ counted (how_many Apart ws)

pub many_behind : (v : Settled) (us vs : List Settled) → how_many v (us ++ vs) ≡ how_many v us + how_many v vs
unfolding how_many
many_behind v [] vs = omega arith
many_behind v (u ∷ us) vs = omega (arith, many_behind v us vs)

one_by : (v w : Settled) → is_one v w ≡ cond (eqb (byte_of v) (byte_of w)) 1 0
unfolding is_one
one_by v w = refl

-- a count of the one word, after the other
abbrev after : Settled → Settled → ℕ → ℕ
after v w n = cond (eqb (byte_of v) (byte_of w)) (one_more n) n

module _ (ws : List Settled) (w : Settled) (n : ℕ) where
  one_listed : n ≡ counted (length ws) → one_more n ≡ counted (length (ws ++ (w ∷ [])))
  one_listed e = ap one_more e ∙ count_more (length ws) ∙ ap counted (sym (length-append ws (w ∷ [])))

  one_behind : (v : Settled) → how_many v (ws ++ (w ∷ [])) ≡ how_many v ws + is_one v w
  unfolding how_many
  one_behind v = many_behind v ws (w ∷ []) ∙ omega arith

  -- the count of a word, behind one word more
  count_goes : (v : Settled) → n ≡ counted (how_many v ws) → after v w n ≡ counted (how_many v (ws ++ (w ∷ [])))
  count_goes v e = by_word (eqb (byte_of v) (byte_of w)) (one_by v w)
    where
      by_word : (b : Bool) → is_one v w ≡ cond b 1 0 → cond b (one_more n) n ≡ counted (how_many v (ws ++ (w ∷ [])))
      by_word true h = ap one_more e ∙ count_more (how_many v ws) ∙ ap counted (omega (arith, one_behind v))
      by_word false h = e ∙ ap counted (omega (arith, one_behind v))

abbrev tally_after : Tally → Settled → Tally
tally_after t w =
    record {
      listed = one_more t.listed;
      hits = after Hit w t.hits;
      misses = after Miss w t.misses;
      touches = after Touch w t.touches;
      aparts = after Apart w t.aparts;
    }

tallied_by : (t : Tally) (w : Settled) → tallied t w ≡ tally_after t w
unfolding tallied byte_of
tallied_by t Hit = refl
tallied_by t Miss = refl
tallied_by t Touch = refl
tallied_by t Apart = refl

pub totals_go : {ws : List Settled} {t : Tally} (w : Settled) → TotalsOf ws t → TotalsOf (ws ++ (w ∷ [])) (tallied t w)
totals_go {ws} {t} w h =
    rw (tallied_by t w)
    (record {
      listed = one_listed ws w t.listed h.listed;
      hits = count_goes ws w t.hits Hit h.hits;
      misses = count_goes ws w t.misses Miss h.misses;
      touches = count_goes ws w t.touches Touch h.touches;
      aparts = count_goes ws w t.aparts Apart h.aparts;
    })

-- a tally that took these words behind whatever it had taken
pub record TallyGoes (ws : List Settled) (t t' : Tally) : Type 0 where
  pub goes : (us : List Settled) → TotalsOf us t → TotalsOf (us ++ ws) t'

pub tally_none : (t : Tally) → TallyGoes [] t t
tally_none t = record { goes = λ us h. subst (λ (vs : List Settled). TotalsOf vs t) (sym (append-nil us)) h }

pub tally_more : {ws : List Settled} {t t' : Tally} (w : Settled) → TallyGoes ws t t' → TallyGoes (ws ++ (w ∷ [])) t (tallied t' w)
tally_more {ws} {t} {t'} w a =
    record {
      goes = λ us h.
          subst (λ (vs : List Settled). TotalsOf vs (tallied t' w)) (append_assoc us ws (w ∷ [])) (totals_go w (a.goes us h));
    }

-- ---- the first step with a hit

pub record FirstIs (l : Log) (n : ℕ) : Type 0 where
  pub is : (hs : List HitAt) → LogOf hs l → n ≡ first_step hs

empty_first : (hs : List HitAt) → length hs ≡ 0 → 0 ≡ first_step hs
unfolding first_step
empty_first [] e = refl
empty_first (h ∷ hs) e = absurd (omega arith)

pub first_none : {l : Log} → l.held ≡ 0 → FirstIs l 0
first_none {l} e = record { is = λ hs k. empty_first hs (omega (arith, k.held)) }

first_entry : (l : List StepHit) (n : ℕ) (d : StepHit) → 0 < n → 0 < length l → (get_or l 0 d).step ≡ first_step (map hit_of (take n l))
unfolding first_step
first_entry [] n d some long = absurd (omega arith)
first_entry (h ∷ l) zero d some long = absurd (omega arith)
first_entry (h ∷ l) (suc n) d some long = refl

pub first_some : {l : Log} (d : StepHit) → ¬ (l.held ≡ 0) → FirstIs l (get_or l.hits 0 d).step
first_some {l} d e =
    record {
      is = λ hs k.
          first_entry l.hits l.held d (omega arith) (omega (arith, k.room)) ∙ ap first_step k.entries ∙ first_in_log hs;
    }

-- ---- all of it

abbrev pub tally_of : SeriesTold → Tally
tally_of t = record { listed = t.listed; hits = t.hits; misses = t.misses; touches = t.touches; aparts = t.aparts }

-- these hits and these words are told
pub record TellsOf (hs : List HitAt) (ws : List Settled) (t : SeriesTold) : Type 0 where
  pub log : LogOf hs t.log
  pub totals : TotalsOf ws (tally_of t)
  pub first : t.first ≡ first_step hs

pub told_none : TellsOf [] [] nothing_told
unfolding how_many first_step
told_none =
    record {
      log = log_starts;
      totals = record { listed = refl; hits = refl; misses = refl; touches = refl; aparts = refl };
      first = refl;
    }

-- these pairs of step n and their words are told behind what was told
pub record Further (n : ℕ) (ps : List Pair) (ws : List Settled) (t t' : SeriesTold) : Type 0 where
  pub long : length ps ≡ length ws
  pub goes : (hs : List HitAt) (us : List Settled) → TellsOf hs us t → TellsOf (hs ++ hits_in n ps ws) (us ++ ws) t'

pub further : {n : ℕ} {ps : List Pair} {ws : List Settled} {t t' : SeriesTold} → LogGoes n ps ws t.log t'.log
    → TallyGoes ws (tally_of t) (tally_of t') → FirstIs t'.log t'.first → Further n ps ws t t'
further {n} {ps} {ws} {t} {t'} a b f =
    record {
      long = a.long;
      goes = λ hs us h.
          let l : LogOf (hs ++ hits_in n ps ws) t'.log = a.goes hs h.log in
          record { log = l; totals = b.goes us h.totals; first = f.is (hs ++ hits_in n ps ws) l };
    }

pub further_none : (n : ℕ) (t : SeriesTold) → Further n [] [] t t
unfolding hits_in
further_none n t =
    record {
      long = refl;
      goes = λ hs us h.
          subst (λ (l : List HitAt). TellsOf l (us ++ []) t) (sym (append-nil hs))
          (subst (λ (l : List Settled). TellsOf hs l t) (sym (append-nil us)) h);
    }

pub further_then : {n : ℕ} {ps qs : List Pair} {us vs : List Settled} {t t₁ t₂ : SeriesTold} → Further n ps us t t₁ → Further n qs vs t₁ t₂
    → Further n (ps ++ qs) (us ++ vs) t t₂
further_then {n} {ps} {qs} {us} {vs} {t} {t₁} {t₂} a b =
    record {
      long = omega (arith, length-append ps qs, length-append us vs, a.long, b.long);
      goes = λ hs ws h.
          subst (λ (l : List HitAt). TellsOf l (ws ++ (us ++ vs)) t₂)
          (append_assoc hs (hits_in n ps us) (hits_in n qs vs) ∙ ap (λ (l : List HitAt). hs ++ l) (sym (hits_behind n ps qs us vs a.long)))
          (subst (λ (l : List Settled). TellsOf ((hs ++ hits_in n ps us) ++ hits_in n qs vs) l t₂) (append_assoc ws us vs)
          (b.goes (hs ++ hits_in n ps us) (ws ++ us) (a.goes hs ws h)));
    }
