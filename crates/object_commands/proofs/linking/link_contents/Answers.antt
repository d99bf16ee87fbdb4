use Rattle.std.proofs.Common.{refl, subst}
use Rattle.trc_answers.proofs.Answering.{mapped, refuses}
use Rattle.object_commands.specs.Links.{ContentsComeTo, HaveNoObject, HaveObjects, ObjectsComeTo}
use Rattle.object_commands.specs.Reading.{AreContents}
use Rattle.object_commands.proofs.linking.link_contents.Goals as goal

pub link_objects-requires-clause-some : goal.link_objects-requires-clause-some
link_objects-requires-clause-some g c = (rw c.in-Objects.is at c.requires).some

pub link_objects-requires-clause-few : goal.link_objects-requires-clause-few
link_objects-requires-clause-few g c = (rw c.in-Objects.is at c.requires).few

pub link_objects-requires-clause-objects : goal.link_objects-requires-clause-objects
link_objects-requires-clause-objects g c = (rw c.in-Objects.is at c.requires).each

pub returns-in-Objects-clause-answers : goal.returns-in-Objects-clause-answers
returns-in-Objects-clause-answers g c = λ contents left faults output are.
    let there = subst (AreContents contents) c.in-Objects.is are in
    mapped (λ _. ObjectsComeTo c.args.out.now c.in-Objects.objects.items) (λ _. ContentsComeTo c.args.out.now contents) _ _ _
    (λ _ v it. HaveObjects c.in-Objects.objects.items there it) (c.link_objects.ensures.answers left faults output)

pub returns-in-NotObject-clause-answers : goal.returns-in-NotObject-clause-answers
returns-in-NotObject-clause-answers g c = λ contents left faults output are.
    let there = subst (AreContents contents) c.in-NotObject.is are in
    rw c.of.ensures (refuses (λ _. ContentsComeTo c.args.out.now contents) _ _ _ _ left faults output _ refl (HaveNoObject c.in-NotObject.word c.in-NotObject.number c.in-NotObject.at there refl))
