use Rattle.text_laws.proofs.one_reading.Readings.{same_text, same_fault, read_or_broken}
use Rattle.text_laws.proofs.one_reading.laws.texts_are_read_once.Goals as goal

pub returns-clause-text : goal.returns-clause-text
returns-clause-text c = λ w a b m n x y. let s = same_text c.scans_once.ensures w a b m n x y in (s.0, c.symbols_have_one_tree.ensures m n s.1)

pub returns-clause-fault : goal.returns-clause-fault
returns-clause-fault c = λ w number other at place x y. same_fault c.scans_once.ensures w number other at place x y

pub returns-clause-apart : goal.returns-clause-apart
returns-clause-apart c = λ w a m number at x y. let t = c.trees_are_modules.ensures m in read_or_broken c.scans_once.ensures w a m t.0 t.1 t.2 number at x y
