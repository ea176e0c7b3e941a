-- A hit writes its line and is one hit more; another word leaves all as it was.
use native.Mathlib.Omega.{arith}
use mathlib.Core.Path.{◌≡◌, refl}
use Rattle.sequences.specs.Wrote.{wrote_none}
use Rattle.meaning.specs.List.{pair}
use Rattle.meaning.specs.declared.ContactNumbers.{ContactNumbers}
use Rattle.meaning.specs.declared.WholeContact.{WholeContact}
use Rattle.meaning.specs.declared.WholeContact.TheVariants.{Hit, Miss, Touch, Apart}
use Rattle.report_words.specs.Lines.{wrote_as}
use Rattle.hit_report.specs.Lines.{NotHit, hit_told, hit_counts, miss_told, touch_told, apart_told}
use Rattle.hit_report.proofs.tell_pair.Goals as goal

-- the contact that was passed over is no hit
passed : (m : WholeContact) → ((h : ContactNumbers) → m ≡ Hit h → ⊥) → NotHit m
passed (Hit m) h = absurd (h m refl)
passed Miss h = miss_told
passed Touch h = touch_told
passed Apart h = apart_told

pub returns-in-Hit : goal.returns-in-Hit
returns-in-Hit c =
    let is = c.in-Hit.is in (
      wrote_as (hit_told is (λ t. pair (c.kind_of-kind.ensures t) (c.first_of-first.ensures t) (c.second_of-second.ensures t))) c.contact_line-next.ensures,
      omega (arith, hit_counts is),
    )

pub returns : goal.returns
returns c =
    let none = passed c.args.contact c.in_default.not-Hit in (rw (none.no_line _) (wrote_none _ _), omega (arith, none.none))
