use Rattle.std.proofs.Common.{◌≤◌, ◌∙◌, ℕ, List, length, sym, subst}
use Rattle.obj_link.specs.Joining.{texts_of}
use Rattle.trc_answers.specs.Causes.{IsPlaced}
use Rattle.trc_answers.proofs.Texts.{plain_placed}
use Rattle.note_commands.specs.trc_texts.Texts.{IsTextIn}
use Rattle.object_commands.proofs.Whole.{are_joined, few_joined, not_joined, regs_enough, regs_few}
use Rattle.object_commands.proofs.linking.link_objects.Goals as goal

pub link_texts-requires-clause-texts : goal.link_texts-requires-clause-texts
link_texts-requires-clause-texts g c =
    subst (λ (ts : List (List ℕ)). length ts ≤ 64) (sym c.as_slice.ensures.value) (few_joined c.args.objects.items c.in-Ok.joined c.requires.few c.in-Ok.ensures.joined)

pub link_texts-requires-clause-enough : goal.link_texts-requires-clause-enough
link_texts-requires-clause-enough g c = regs_enough c.args.objects.items c.in-Ok.joined c.requires.some c.requires.objects c.in-Ok.ensures.joined

pub link_texts-requires-clause-few : goal.link_texts-requires-clause-few
link_texts-requires-clause-few g c = regs_few c.args.objects.items c.in-Ok.joined c.requires.some c.requires.objects c.in-Ok.ensures.joined

pub returns-in-Ok-clause-answers : goal.returns-in-Ok-clause-answers
returns-in-Ok-clause-answers g c = λ left faults output.
    are_joined c.args.out.now c.args.objects.items c.in-Ok.joined c.as_slice.result.now _ _ _ c.requires.some c.in-Ok.ensures.joined c.in-Ok.ensures.one_choice c.as_slice.ensures.value
    (c.link_texts.ensures.answers left faults output)

pub returns-in-Ok-clause-placed : goal.returns-in-Ok-clause-placed
returns-in-Ok-clause-placed g c =
    subst (λ (ts : List (List ℕ)). IsPlaced (IsTextIn ts) c.link_texts.result.cause c.link_texts.result.place) (c.as_slice.ensures.value ∙ c.in-Ok.ensures.joined.texts) c.link_texts.ensures.placed

pub returns-in-Err-clause-answers : goal.returns-in-Err-clause-answers
returns-in-Err-clause-answers g c = λ left faults output.
    rw c.of.ensures (not_joined c.args.out.now c.args.objects.items c.in-Err.fault c.not_joined.result c.not_joined.ensures.is c.in-Err.ensures.told _ _ left faults output)

pub returns-in-Err-clause-placed : goal.returns-in-Err-clause-placed
returns-in-Err-clause-placed g c = rw c.of.ensures (plain_placed (IsTextIn (texts_of c.args.objects.items)) c.not_joined.result c.of.result.place c.not_joined.ensures.plain)
