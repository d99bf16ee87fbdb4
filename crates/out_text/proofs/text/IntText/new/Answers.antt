use Rattle.std.proofs.Common.{◌≡◌, refl, ◌∙◌, w64, to_z, of_z, rules}
use Rattle.std.specs.Fmt.{signed_decimal}
use Rattle.std.proofs.lemmas.Int.{to_z-of_z}
use Rattle.out_text.specs.Text.{shortest_text}
use Rattle.out_text.proofs.Padding.{padded}
use Rattle.out_text.proofs.text.IntText.new.Goals as goal

pub returns : goal.returns
returns c =
    let same : signed_decimal (to_z w64 (of_z w64 c.cast_signed.result)) ≡ shortest_text c.args.value = search (rules, to_z-of_z) in
    padded c.put.new.bytes c.as_bytes-digits.result.now c.args.value c.args.width c.blanks-from.result 255 refl (c.as_bytes-digits.ensures.value ∙ c.format.ensures.text ∙ same) c.blanks-from.ensures c.put.ensures
