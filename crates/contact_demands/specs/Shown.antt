-- A contact by computing: of case 1 and of case 9 of document 01 the piece, k and the shares.
use Rattle.std.specs.Prelude.{◌≡◌, refl}
use Rattle.meaning.specs.WholeContacts.{WholeContactIs}
use Rattle.meaning.specs.declared.Kind.TheVariants.{PointTriangle, EdgeEdge}
use Rattle.meaning.specs.declared.WholeContact.TheVariants.{Hit}
use Rattle.meaning.specs.Scene.{stood_for}
use Rattle.meaning.specs.Pieces.{piece_count}
use Rattle.meaning.specs.Contacts.{corner_of_point, end_of_point}
use Rattle.whole.specs.Vector.{volume}
use Rattle.theory.specs.Reading.{verdict_of, agreeing}
use Rattle.theory.specs.Computed.{piece_verdict, joined, joined_below, point_differences, edge_differences, start_sum, end_sum}
use Rattle.contact_laws.specs.Numbers.{point_ends, is_b, turned_in}
use Rattle.exact_signs.specs.BySigns.{keep}
use Rattle.corner_search.specs.Decided.{settled_by, pair_word}
use Rattle.contact_entries.specs.Computed.{contact_numbers_at, time_by, later, earliest_of, times_of, by_word, whole_contact_of, whole_contact_is}
use Rattle.demands.specs.Table.{numbered}

pub first_case : WholeContactIs (numbered 1).scene PointTriangle 3 0 (Hit (record { piece = 1; k = 524_288; first = 524_288; second = 262_144; third = 262_144 }))
unfolding stood_for piece_count piece_verdict joined_below joined point_differences volume verdict_of agreeing pair_word settled_by contact_numbers_at time_by later earliest_of times_of by_word whole_contact_of point_ends turned_in keep corner_of_point
first_case = (whole_contact_is (numbered 1).scene PointTriangle 3 0 _).1 refl

pub ninth_case : WholeContactIs (numbered 9).scene EdgeEdge 0 1 (Hit (record { piece = 0; k = 524_288; first = 524_288; second = 524_288; third = 0 }))
unfolding stood_for piece_count piece_verdict joined_below joined edge_differences volume verdict_of agreeing pair_word settled_by contact_numbers_at time_by later earliest_of times_of by_word whole_contact_of is_b turned_in keep start_sum end_sum end_of_point
ninth_case = (whole_contact_is (numbered 9).scene EdgeEdge 0 1 _).1 refl
