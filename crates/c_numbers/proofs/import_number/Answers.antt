-- The file's bit and the line stay below 2^32 together.
use native.Mathlib.Omega.{arith}
use mathlib.Core.Path.{ap, ◌∙◌}
use Rattle.std.specs.Prelude.{Err}
use Rattle.meaning.specs.declared.ImportRefusal.{ImportRefusal}
use Rattle.c_numbers.specs.ImportNumbers.{bits_carried, number_read, number_refused, number_refused_in}
use Rattle.c_numbers.proofs.import_number.Goals as goal

pub overflow_add-file_bit : goal.overflow_add-file_bit
overflow_add-file_bit c =
    let fault = rw c.in-Err-In.is at c.in-Err-In.field-0-is in
    omega (arith, bits_carried (c.in-Err-In.is ∙ ap (λ (e : ImportRefusal). Err e) fault) c.requires c.file_bit.ensures)

pub refused-requires-in-Err-In : goal.refused-requires-in-Err-In
refused-requires-in-Err-In c =
    let fault = rw c.in-Err-In.is at c.in-Err-In.field-0-is in
    bits_carried (c.in-Err-In.is ∙ ap (λ (e : ImportRefusal). Err e) fault) c.requires c.file_bit.ensures

pub returns-in-Ok : goal.returns-in-Ok
returns-in-Ok c = number_read c.in-Ok.is

pub returns-in-Err-Of : goal.returns-in-Err-Of
returns-in-Err-Of c =
    let refusal = rw c.in-Err-Of.is at c.in-Err-Of.field-0-is in
    number_refused (c.in-Err-Of.is ∙ ap (λ (e : ImportRefusal). Err e) refusal) c.refused.ensures

pub returns-in-Err-In : goal.returns-in-Err-In
returns-in-Err-In c =
    let fault = rw c.in-Err-In.is at c.in-Err-In.field-0-is in
    number_refused_in (c.in-Err-In.is ∙ ap (λ (e : ImportRefusal). Err e) fault) c.file_bit.ensures c.refused-in-Err-In.ensures
