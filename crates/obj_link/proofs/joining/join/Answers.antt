use Rattle.std.proofs.Common.{◌≡◌, None, refl, ap, ◌∙◌, rules}
use Rattle.obj_link.specs.Joining.{first_other, other_choice}
use Rattle.obj_link.proofs.Choices.{one_choice, begun}
use Rattle.obj_link.proofs.joining.join.Goals as goal

pub returns-clause-joined : goal.returns-clause-joined
returns-clause-joined c =
    let os = c.args.objects.items in
    let a = c.index-first.result.now in
    let none : other_choice os ≡ None = search rules in
    let first : first_other a 0 os ≡ None = ap (λ o. first_other o 0 os) c.index-first.ensures ∙ (begun os a c.requires.some ∙ none) in
    record {
      choice = one_choice _ a os refl refl refl first;
      texts = c.in_ok-texts.ensures.texts;
      outs = c.in_ok-texts.ensures.outs;
    }
