use Rattle.std.proofs.Common.{subst}
use Rattle.object_commands.specs.Reading.{IsContent}
use Rattle.object_commands.proofs.Files.{broken_now, objects_with}
use Rattle.object_commands.proofs.reading.one_more.Goals as goal

pub returns-in-Ok-clause-is : goal.returns-in-Ok-clause-is
returns-in-Ok-clause-is c = λ contents bytes count are is.
    objects_with contents c.args.objects.items c.push.new.self.items bytes c.in-Object.object c.in-Ok.ensures.items are (subst (IsContent bytes) c.in-Object.is is)

pub returns-in-Broken-clause-is : goal.returns-in-Broken-clause-is
returns-in-Broken-clause-is c = λ contents bytes count are is.
    broken_now contents c.args.objects.items bytes c.args.word c.in-Broken.number c.in-Broken.at count are (subst (IsContent bytes) c.in-Broken.is is)
