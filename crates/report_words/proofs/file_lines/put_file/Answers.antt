use borrow.Author.Rules.{rules}
use Rattle.meaning.specs.ObjPrinted.{file_word}
use Rattle.report_words.proofs.file_lines.put_file.Goals as goal

pub returns-in-Start : goal.returns-in-Start
unfolding file_word
returns-in-Start c = rw c.in-Start.is c.put_word.ensures

pub returns-in-End : goal.returns-in-End
unfolding file_word
returns-in-End c = rw c.in-End.is c.put_word-in-End.ensures
