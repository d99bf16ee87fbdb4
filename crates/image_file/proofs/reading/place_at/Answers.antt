use Rattle.std.proofs.Common.{ap, ◌∙◌, arith}
use Rattle.std.specs.List.{flat_map}
use Rattle.image_form.specs.declared.image.ProcPlace.{ProcPlace}
use Rattle.image_file.specs.Spelling.{number, numbers_of}
use Rattle.image_file.proofs.Numbers.{AreBytes}
use Rattle.image_file.proofs.Places.{place_then}
use Rattle.image_file.proofs.reading.place_at.Goals as goal

pub returns-clause-spelled : goal.returns-clause-spelled
returns-clause-spelled c =
    let fits : AreBytes c.args.bytes.now = λ k. omega (arith, c.type_inv.bytes k) in
    ap (λ (p : ProcPlace). flat_map number (numbers_of p)) (λ i. record { word = c.number_at.ensures i; «module» = c.number_at-2.ensures i; line = c.number_at-3.ensures i })
    ∙ place_then c.args.bytes.now c.args.at fits c.requires
