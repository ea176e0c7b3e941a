-- 'The log takes one hit and hands back the log after it': an entry more where there is room, else one more is counted; no entry is replaced.
use Rattle.std.specs.Prelude.{ℕ, ◌+◌, ◌-◌, ◌^◌, cond, ltb, set}
use Rattle.meaning.specs.Series.{log_limit}
use Rattle.meaning.specs.declared.StepHit.{StepHit}
use Rattle.meaning.specs.declared.Log.{Log}

abbrev pub largest : ℕ
largest = 2 ^ 64 - 1

-- a count is 64 bits wide; one at its largest value stays there
abbrev pub one_more : ℕ → ℕ
one_more n = cond (ltb n largest) (n + 1) n

unfoldable pub logged : Log → StepHit → Log
logged l h =
    cond (ltb l.held log_limit) (record { hits = set l.hits l.held h; held = l.held + 1; later = l.later })
    (record { hits = l.hits; held = l.held; later = one_more l.later })
