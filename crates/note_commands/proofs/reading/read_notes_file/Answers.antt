use Rattle.note_commands.proofs.Whole.{notes_read, long_notes, no_file}
use Rattle.note_commands.proofs.reading.read_notes_file.Goals as goal

pub returns-in-Ok-clause-read : goal.returns-in-Ok-clause-read
returns-in-Ok-clause-read g c = notes_read _ _ c.in-Ok.bytes c.in-Ok.ensures.tells c.in-Ok.ensures.within

pub returns-in-Err-TooLong-clause-read : goal.returns-in-Err-TooLong-clause-read
returns-in-Err-TooLong-clause-read g c = long_notes _ _ (rw c.in-Err-TooLong.field-0-is at c.in-Err-TooLong.ensures.tells)

pub returns-in-Err-NoSuchFile-clause-fault : goal.returns-in-Err-NoSuchFile-clause-fault
returns-in-Err-NoSuchFile-clause-fault g c = no_file _ _ _ _ (rw c.in-Err-NoSuchFile.field-0-is at c.in-Err-NoSuchFile.ensures.tells)
