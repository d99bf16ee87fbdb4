use Rattle.std.proofs.Common.{sym, ◌∙◌, arith}
use Rattle.a64_encode.proofs.Places.{place_below}
use Rattle.a64_encode.proofs.assembling.write_words.Goals as goal

pub push_branch-requires-clause-to : goal.push_branch-requires-clause-to
push_branch-requires-clause-to c =
    let below = place_below 0 c.args.lines.now c.in-To.label c.place_of.result c.requires.assembles.followed (sym (c.requires.places c.in-To.label) ∙ c.place_of.ensures) in
    omega arith
