-- 'The tally takes one verdict and hands back the tally after it': the count of all and the count of that verdict are one more, the
-- others stay. 'A count is 64 bits wide; one at its largest value stays there.'
use Rattle.std.specs.Prelude.{ℕ, ◌+◌, ◌-◌, ◌^◌, cond, ltb}
use Rattle.tally.specs.declared.Tally.{Tally}
use Rattle.meaning.specs.declared.Settled.{Settled}
use Rattle.meaning.specs.declared.Settled.TheVariants.{Hit, Miss, Touch, Apart}

abbrev pub largest : ℕ
largest = 2 ^ 64 - 1

abbrev pub one_more : ℕ → ℕ
one_more n = cond (ltb n largest) (n + 1) n

unfoldable pub tallied : Tally → Settled → Tally
tallied t Hit =
    record {
      listed = one_more t.listed;
      hits = one_more t.hits;
      misses = t.misses;
      touches = t.touches;
      aparts = t.aparts;
    }
tallied t Miss =
    record {
      listed = one_more t.listed;
      hits = t.hits;
      misses = one_more t.misses;
      touches = t.touches;
      aparts = t.aparts;
    }
tallied t Touch =
    record {
      listed = one_more t.listed;
      hits = t.hits;
      misses = t.misses;
      touches = one_more t.touches;
      aparts = t.aparts;
    }
tallied t Apart =
    record {
      listed = one_more t.listed;
      hits = t.hits;
      misses = t.misses;
      touches = t.touches;
      aparts = one_more t.aparts;
    }
