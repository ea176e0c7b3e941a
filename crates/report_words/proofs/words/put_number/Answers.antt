use borrow.Author.Rules.{rules}
use native.Mathlib.Omega.{arith}
use Rattle.decimals.specs.Value.{digits_length_u64}
use Rattle.sequences.specs.Wrote.{wrote_then}
use Rattle.report_words.proofs.words.put_number.Goals as goal

-- src/words.rt:36:5
pub write_number-requires : goal.write_number-requires
write_number-requires c = omega (arith, c.put_byte-next.ensures.place, c.put_byte-next.ensures.same, digits_length_u64 c.args.n c.ranges.n.fits)

-- src/words.rt:31:1
pub returns : goal.returns
returns c = wrote_then c.put_byte-next.ensures c.write_number.ensures
