-- `tell_series`: 12, 8, then the text.
use mathlib.Core.List.{[]}
use Rattle.series_call.specs.Answering.{called_short, called_long, all_lent, called}
use Rattle.series_call.proofs.tell_series.Goals as goal

pub returns-then-boxes-short : goal.returns-then-boxes-short
returns-then-boxes-short c = rw (c.refused.ensures, c.from.ensures) (called_short _ _ _ _ c.if-boxes-short.true)

pub returns-then-text-gt-TEXT_LIMIT : goal.returns-then-text-gt-TEXT_LIMIT
returns-then-text-gt-TEXT_LIMIT c = rw (c.refused-then-text-gt-TEXT_LIMIT.ensures, c.from-then-text-gt-TEXT_LIMIT.ensures) (called_long _ _ _ _ c.if-boxes-short.false c.if-text-gt-TEXT_LIMIT.true)

pub tell_text-requires : goal.tell_text-requires
tell_text-requires c = all_lent _ _ _ [] c.if-boxes-short.false c.if-text-gt-TEXT_LIMIT.false

pub returns : goal.returns
returns c = called _ _ _ _ c.if-boxes-short.false c.if-text-gt-TEXT_LIMIT.false c.tell_text.result c.tell_text.ensures
