-- What the answer of the call that reads a text says to the contacts.
use Rattle.std.specs.Prelude.{ℕ, Bool, true, false, List, ◌≡◌, length, Err, Result}
use Rattle.std.proofs.Common.{true≢false, sym, ◌∙◌, subst, ltb-true, ltb-false}
use Rattle.meaning.specs.Limits.{text_limit}
use Rattle.meaning.specs.Scene.{Scene}
use Rattle.meaning.specs.Refusals.{refused, number_of, carrying}
use Rattle.meaning.specs.Text.{TextRead, TextIs, short_buffer}
use Rattle.meaning.specs.Report.{refused_line}
use Rattle.meaning.specs.ContactLines.{ContactsOf}
use Rattle.meaning.specs.declared.Refusal.{Refusal}
use Rattle.text_scene.specs.Using.{Came, by_buffers, by_length, by_lines, read_refusal_of}
use Rattle.meaning.specs.declared.Refused.{Refused}
use Rattle.meaning.specs.declared.SceneCounts.{SceneCounts}

-- a text that was refused
pub refused_read : {text : List ℕ} {lent left : Scene} {r : Result SceneCounts Refused} {x : Refusal} {line : ℕ} → short_buffer lent ≡ false
    → TextRead text lent left r → r ≡ Err (carrying x line) → ContactsOf text (refused_line (number_of x) line)
unfolding TextIs
refused_read {text} {lent} {left} {r} {x} {line} fits a e = by_way (read_refusal_of (subst (TextRead text lent left) e a)).1
  where
    by_way : Came text lent (refused (number_of x) line) → ContactsOf text (refused_line (number_of x) line)
    by_way (by_buffers e p) = let z : ◌≡◌ {A = Bool} true false = sym e ∙ fits in absurd (true≢false z)
    by_way (by_length e d p) =
        let number : number_of x ≡ 8 = cc in
        let none : line ≡ 0 = cc in
        rw (number, none) (ContactsOf.too_long (ltb-true text_limit (length text) d))
    by_way (by_lines e d f) = ContactsOf.faulty (number_of x) line (ltb-false text_limit (length text) d) f
