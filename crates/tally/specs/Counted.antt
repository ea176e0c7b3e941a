-- What the tally has counted: how many stand before it, and of each verdict as many as stand there.
use Rattle.std.specs.Prelude.{ℕ, ◌+◌, ◌≤◌, ◌<◌, ◌^◌, ◌-◌, List, [], ◌∷◌, ◌++◌, ◌≡◌, Bool, true, false, cond, eqb, length}
use Rattle.std.proofs.Math.Path.{refl}
use Rattle.std.proofs.Common.{sym, ap, ◌∙◌, add-zero, arith, length-append, lt-ltb}
use Rattle.meaning.specs.SceneWords.{byte_of}
use Rattle.meaning.specs.Report.{is_one, how_many}
use Rattle.meaning.specs.declared.Settled.{Settled}
use Rattle.meaning.specs.declared.Settled.TheVariants.{Hit, Miss, Touch, Apart}
use Rattle.tally.specs.Tallied.{largest, one_more, tallied}
use Rattle.tally.specs.declared.Tally.{Tally}

pub record TallyOf (vs : List Settled) (t : Tally) : Type 0 where
  pub listed : t.listed ≡ length vs
  pub hits : t.hits ≡ how_many Hit vs
  pub misses : t.misses ≡ how_many Miss vs
  pub touches : t.touches ≡ how_many Touch vs
  pub aparts : t.aparts ≡ how_many Apart vs

-- no more than there are
pub at_most : (v : Settled) (vs : List Settled) → how_many v vs ≤ length vs
unfolding how_many is_one
at_most v [] = omega arith
at_most v (w ∷ vs) = omega (arith, one_at_most (eqb (byte_of v) (byte_of w)), at_most v vs)
  where
    one_at_most : (b : Bool) → cond b 1 0 ≤ 1
    one_at_most true = omega arith
    one_at_most false = omega arith

one_behind : (v : Settled) (vs : List Settled) (w : Settled) → how_many v (vs ++ (w ∷ [])) ≡ how_many v vs + is_one v w
unfolding how_many
one_behind v [] w = omega arith
one_behind v (u ∷ vs) w = omega (arith, one_behind v vs w)

more : (n : ℕ) → n < largest → one_more n ≡ n + 1
more n h = rw (lt-ltb n largest h)

-- a word more: the count of all, the count of that word and the count of another
module _ (vs : List Settled) (w : Settled) (n : ℕ) where
  one_listed : length vs < largest → n ≡ length vs → one_more n ≡ length (vs ++ (w ∷ []))
  one_listed few e = rw (length-append vs (w ∷ []), e, more (length vs) few) refl

  counted : (v : Settled) → eqb (byte_of v) (byte_of w) ≡ true → length vs < largest → n ≡ how_many v vs → one_more n ≡ how_many v (vs ++ (w ∷ []))
  unfolding is_one
  counted v same few e = rw (one_behind v vs w, same, e, more (how_many v vs) (omega (arith, at_most v vs))) refl

  passed : (v : Settled) → eqb (byte_of v) (byte_of w) ≡ false → n ≡ how_many v vs → n ≡ how_many v (vs ++ (w ∷ []))
  unfolding is_one
  passed v other e = rw (one_behind v vs w, other, e) (sym (add-zero (how_many v vs)))

pub tally_starts : TallyOf [] (record { listed = 0; hits = 0; misses = 0; touches = 0; aparts = 0 })
unfolding how_many
tally_starts = record { listed = refl; hits = refl; misses = refl; touches = refl; aparts = refl }

pub tally_goes : {vs : List Settled} {t : Tally} (w : Settled) → length vs < largest → TallyOf vs t → TallyOf (vs ++ (w ∷ [])) (tallied t w)
unfolding tallied byte_of
tally_goes {vs} {t} Hit few h =
    record {
      listed = one_listed vs Hit t.listed few h.listed;
      hits = counted vs Hit t.hits Hit refl few h.hits;
      misses = passed vs Hit t.misses Miss refl h.misses;
      touches = passed vs Hit t.touches Touch refl h.touches;
      aparts = passed vs Hit t.aparts Apart refl h.aparts;
    }
tally_goes {vs} {t} Miss few h =
    record {
      listed = one_listed vs Miss t.listed few h.listed;
      hits = passed vs Miss t.hits Hit refl h.hits;
      misses = counted vs Miss t.misses Miss refl few h.misses;
      touches = passed vs Miss t.touches Touch refl h.touches;
      aparts = passed vs Miss t.aparts Apart refl h.aparts;
    }
tally_goes {vs} {t} Touch few h =
    record {
      listed = one_listed vs Touch t.listed few h.listed;
      hits = passed vs Touch t.hits Hit refl h.hits;
      misses = passed vs Touch t.misses Miss refl h.misses;
      touches = counted vs Touch t.touches Touch refl few h.touches;
      aparts = passed vs Touch t.aparts Apart refl h.aparts;
    }
tally_goes {vs} {t} Apart few h =
    record {
      listed = one_listed vs Apart t.listed few h.listed;
      hits = passed vs Apart t.hits Hit refl h.hits;
      misses = passed vs Apart t.misses Miss refl h.misses;
      touches = passed vs Apart t.touches Touch refl h.touches;
      aparts = counted vs Apart t.aparts Apart refl few h.aparts;
    }
