use Rattle.std.proofs.Common.{ap, ◌∙◌, arith}
use Rattle.std.proofs.lemmas.Nat.{and_mask}
use Rattle.a64_table.specs.Decode.{cond_of}
use Rattle.a64_table.proofs.fields.branch_cond.Goals as goal

pub returns : goal.returns
returns c = c.cond.ensures ∙ ap cond_of (omega (arith, and_mask c.args.word 4))
