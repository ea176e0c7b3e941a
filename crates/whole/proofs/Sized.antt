-- Of `Sized`: what rests on its definitions.
use Rattle.std.specs.Prelude.{◌≡◌, ◌&&◌, ℕ, ◌+◌, ◌*◌, ◌^◌, T, ltb, leb, ℤ, ◌+ℤ◌, ◌-ℤ◌, ◌*ℤ◌}
use Rattle.std.proofs.Common.{subst, leb→le}
use Rattle.std.specs.Int.{Width}
use mir.Val.{SFits, hbits}
use Rattle.std.proofs.Math.Facts.{and_yes}
use Rattle.whole.specs.Sizes.{Is, held}
use Rattle.whole.proofs.Sizes.{is_add, is_sub, is_mul, is_wider, fits, back}
use Rattle.whole.specs.Sized.{Sized, sized_within, sized_is}

module _ (u v : ℤ) (p : Sized u) (q : Sized v) where
  abbrev pub sized_add : Sized (u +ℤ v)
  sized_add =
      record {
        bound = p.bound + q.bound;
        meaning = p.meaning +ℤ q.meaning;
        safe = p.safe && q.safe;
        is = λ t. let s = and_yes p.safe q.safe t in is_add (p.is s.0) (q.is s.1);
      }

  abbrev pub sized_sub : Sized (u -ℤ v)
  sized_sub =
      record {
        bound = p.bound + q.bound;
        meaning = p.meaning -ℤ q.meaning;
        safe = p.safe && q.safe;
        is = λ t. let s = and_yes p.safe q.safe t in is_sub (p.is s.0) (q.is s.1);
      }

  abbrev pub sized_mul : Sized (u *ℤ v)
  sized_mul =
      record {
        bound = p.bound * q.bound;
        meaning = p.meaning *ℤ q.meaning;
        safe = p.safe && q.safe;
        is = λ t. let s = and_yes p.safe q.safe t in is_mul (p.is s.0) (q.is s.1);
      }

abbrev pub sized_back : (w : Width) (v : ℤ) → Sized v → Sized (held w v)
sized_back w v p =
    record {
      bound = p.bound;
      meaning = p.meaning;
      safe = p.safe && ltb p.bound (2 ^ hbits w);
      is = λ t. let s = and_yes p.safe _ t in back w (p.is s.0) s.1;
    }

pub ruleset sized = (sized_back, sized_mul, sized_sub, sized_add, sized_within, sized_is)

pub fitting : {w : Width} {v : ℤ} (p : Sized v) → T (p.safe && ltb p.bound (2 ^ hbits w)) → SFits w v
fitting {w} p t = let s = and_yes p.safe _ t in fits w (p.is s.0) s.1

pub meant : {b : ℕ} {v z : ℤ} (p : Sized v) → p.meaning ≡ z → T (p.safe && leb p.bound b) → Is b v z
meant {b} {v} p e t =
    let s = and_yes p.safe _ t in
    subst (λ z. Is b v z) e (is_wider (p.is s.0) (leb→le p.bound b s.1))
