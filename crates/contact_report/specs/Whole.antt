-- What is printed of a text, from what is printed of its scene.
use Rattle.std.specs.Prelude.{ℕ, ◌≤◌, List, length}
use Rattle.std.proofs.Common.{◌∙◌, zero-add}
use Rattle.sequences.specs.Wrote.{Wrote, wrote_front}
use Rattle.meaning.specs.Limits.{text_limit}
use Rattle.meaning.specs.Scene.{Scene}
use Rattle.meaning.specs.Text.{Holds}
use Rattle.meaning.specs.Report.{refused_line}
use Rattle.meaning.specs.ContactLines.{ContactsOf, ContactsReported}
use Rattle.hit_report.specs.Told.{SceneContacts, SceneTold}

pub scene_to_text : {text o o' : List ℕ} {n : ℕ} (s : Scene) → length text ≤ text_limit → Holds text s → SceneTold s o o' n → ContactsReported text o o' n
scene_to_text {text} {o} {o'} {n} s short holds w =
    record {
      report = w.report;
      right = as_text w.report w.right;
      length_is = w.wrote.place ∙ zero-add (length w.report);
      buffer = wrote_front w.wrote;
    }
  where
    as_text : (l : List ℕ) → SceneContacts s l → ContactsOf text l
    as_text l (SceneContacts.beyond_old_range far) = ContactsOf.beyond_old_range s short holds far
    as_text l (SceneContacts.no_room near h) = ContactsOf.no_room s short holds near h
    as_text l (SceneContacts.told ms near few right) = ContactsOf.told s ms short holds near few right

-- a text that is refused
pub refused_text : {text o o' : List ℕ} {n : ℕ} (number line : ℕ) → ContactsOf text (refused_line number line)
    → Wrote o 0 (refused_line number line) o' n → ContactsReported text o o' n
refused_text {text} {o} {o'} {n} number line right w =
    record {
      report = refused_line number line;
      right = right;
      length_is = w.place ∙ zero-add (length (refused_line number line));
      buffer = wrote_front w;
    }
