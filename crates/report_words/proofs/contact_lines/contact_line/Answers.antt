use borrow.Author.Rules.{rules}
use native.Mathlib.Omega.{arith}
use Rattle.decimals.specs.Value.{digits_length_u64}
use Rattle.sequences.specs.Wrote.{wrote_then}
use Rattle.meaning.specs.List.{pair}
use Rattle.report_words.specs.Lines.{wrote_as, kind_short}
use Rattle.report_words.specs.ContactLines.{digits_length_u32, contact_parts, shares_fit}
use Rattle.report_words.proofs.contact_lines.contact_line.Goals as goal

pub put_number-next-requires : goal.put_number-next-requires
put_number-next-requires c =
    let start = c in
    omega (arith, kind_short start.args.kind)

pub put_number-next-requires-2 : goal.put_number-next-requires-2
put_number-next-requires-2 c =
    let start = c in
    omega (arith, kind_short start.args.kind, digits_length_u64 start.args.first start.ranges.first.fits)

pub put_number-next-requires-3 : goal.put_number-next-requires-3
put_number-next-requires-3 c =
    let start = c in
    omega (arith, kind_short start.args.kind, digits_length_u64 start.args.first start.ranges.first.fits, digits_length_u64 start.args.second start.ranges.second.fits)

pub put_number-next-requires-4 : goal.put_number-next-requires-4
put_number-next-requires-4 c =
    let start = c in
    let sized = c.struct_known-1.given in
    omega (arith, kind_short start.args.kind, digits_length_u64 start.args.first start.ranges.first.fits, digits_length_u64 start.args.second start.ranges.second.fits, digits_length_u64 start.args.m.piece sized.0.fits)

pub put_shares-next-requires : goal.put_shares-next-requires
put_shares-next-requires c =
    let start = c in
    let sized = c.struct_known-1.given in
    omega (arith, kind_short start.args.kind, digits_length_u64 start.args.first start.ranges.first.fits, digits_length_u64 start.args.second start.ranges.second.fits, digits_length_u64 start.args.m.piece sized.0.fits, digits_length_u32 start.args.m.k sized.1.0.fits, c.put_kind-next.ensures.place, c.put_number-next.ensures.place, c.put_number-next-2.ensures.place, c.put_number-next-3.ensures.place, c.put_number-next-4.ensures.place, start.requires, c.put_kind-next.ensures.same, c.put_number-next.ensures.same, c.put_number-next-2.ensures.same, c.put_number-next-3.ensures.same, c.put_number-next-4.ensures.same)

pub put_byte-requires : goal.put_byte-requires
put_byte-requires c =
    let start = c in
    let sized = c.struct_known-1.given in
    omega (arith, kind_short start.args.kind, digits_length_u64 start.args.first start.ranges.first.fits, digits_length_u64 start.args.second start.ranges.second.fits, digits_length_u64 start.args.m.piece sized.0.fits, digits_length_u32 start.args.m.k sized.1.0.fits, shares_fit start.args.kind start.args.m sized.1.1.0.fits sized.1.1.1.0.fits sized.1.1.1.1.0.fits, c.put_kind-next.ensures.place, c.put_number-next.ensures.place, c.put_number-next-2.ensures.place, c.put_number-next-3.ensures.place, c.put_number-next-4.ensures.place, c.put_shares-next.ensures.place, start.requires, c.put_kind-next.ensures.same, c.put_number-next.ensures.same, c.put_number-next-2.ensures.same, c.put_number-next-3.ensures.same, c.put_number-next-4.ensures.same, c.put_shares-next.ensures.same)

pub returns : goal.returns
returns c =
    let start = c in
    let a = start.args in
    wrote_as (contact_parts (pair a.kind a.first a.second) a.m)
    (wrote_then (wrote_then (wrote_then (wrote_then (wrote_then (wrote_then c.put_kind-next.ensures c.put_number-next.ensures) c.put_number-next-2.ensures) c.put_number-next-3.ensures) c.put_number-next-4.ensures) c.put_shares-next.ensures) c.put_byte.ensures)
