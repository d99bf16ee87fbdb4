use Rattle.std.proofs.Common.{subst}
use Rattle.object_commands.specs.Reading.{AreContents}
use Rattle.object_commands.proofs.Files.{broken_before}
use Rattle.object_commands.proofs.reading.with_content.Goals as goal

pub returns-in-Objects-clause-is : goal.returns-in-Objects-clause-is
returns-in-Objects-clause-is c = λ contents bytes count are is.
    c.one_more.ensures.is contents bytes count (subst (AreContents contents) c.in-Objects.is are) is

pub returns-in-NotObject-clause-is : goal.returns-in-NotObject-clause-is
returns-in-NotObject-clause-is c = λ contents bytes count are is.
    broken_before contents bytes c.in-NotObject.word c.in-NotObject.number c.in-NotObject.at (subst (AreContents contents) c.in-NotObject.is are)
