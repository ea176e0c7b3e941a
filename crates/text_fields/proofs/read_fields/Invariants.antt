use Rattle.text_fields.proofs.Reading.{RowReading}
use Rattle.text_fields.proofs.read_fields.Given as goal

abbrev pub invariant-loop-found : goal.invariant-loop-found
invariant-loop-found l = RowReading l.s l.at l.form l.count l.initial.sizes l.sizes l.initial.minus l.minus l.found l.next
