use Rattle.std.proofs.Common.{◌≡◌, ℕ, length, sym, ap, ◌∙◌, arith, inl, inr, slice_get}
use Rattle.std.proofs.lemmas.Bool.{cases_lt}
use Rattle.image_file.specs.Spelling.{image_bytes, in_version_one}
use Rattle.image_file.proofs.Whole.{length_of_image}
use Rattle.image_file.proofs.Layouts.{compared, same_byte, other_byte, same_lists}
use Rattle.image_file.proofs.differing.first_difference.Goals as goal

pub loop-at-preserved : goal.loop-at-preserved
loop-at-preserved c = λ i lt.
    let image = c.args.image.now in
    let bytes = c.args.bytes.now in
    let at = c.loop-at.at in
    let there = compared image c.as_slice-code.result.now c.as_slice-constants.result.now at c.byte_at.result c.as_slice-code.ensures c.as_slice-constants.ensures c.byte_at.ensures in
    let here : slice_get bytes at ≡ slice_get (image_bytes (in_version_one image)) at = sym c.got.ensures ∙ same_byte c.got.result c.byte_at.result (sym c.if-ne.false ∙ c.ne.ensures) ∙ there in
    elim (cases_lt i at) [
      | inl before ↦ c.loop-at.invariant i before
      | inr behind ↦ let one : i ≡ at = omega (arith, behind, lt) in ap (λ (k : ℕ). slice_get bytes k) one ∙ here ∙ ap (λ (k : ℕ). slice_get (image_bytes (in_version_one image)) k) (sym one)
    ]

pub returns-then-ne-clause-differ : goal.returns-then-ne-clause-differ
returns-then-ne-clause-differ c =
    let image = c.args.image.now in
    let there = compared image c.as_slice-code.result.now c.as_slice-constants.result.now c.loop-at.at c.byte_at.result c.as_slice-code.ensures c.as_slice-constants.ensures c.byte_at.ensures in
    record { same = c.loop-at.invariant; other = λ same. other_byte c.got.result c.byte_at.result (sym c.if-ne.true ∙ c.ne.ensures) (c.got.ensures ∙ same ∙ sym there) }

pub returns-clause-same : goal.returns-clause-same
returns-clause-same c =
    let image = c.args.image.now in
    let code : length c.as_slice-code.result.now ≡ length image.code = ap length c.as_slice-code.ensures in
    let constants : length c.as_slice-constants.result.now ≡ length image.constants = ap length c.as_slice-constants.ensures in
    let long = length_of_image (in_version_one image) in
    let end = c.loop-at-test.false in
    same_lists c.args.bytes.now (image_bytes (in_version_one image)) (λ k le. c.loop-at.invariant k (omega (arith, le, long, end, code, constants)))
