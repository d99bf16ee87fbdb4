use Rattle.std.proofs.Common.{sym, ◌∙◌}
use Rattle.image_file.proofs.Layouts.{code_byte, constant_byte}
use Rattle.image_file.proofs.differing.byte_at.Goals as goal

pub returns-then-at-code : goal.returns-then-at-code
returns-then-at-code c =
    sym (code_byte c.args.header.now c.args.code.now c.args.constants.now c.args.at c.told-header c.if-at-lt-SHORTEST.false c.if-at-code.true ∙ c.byte_in-then-at-code.ensures)

pub returns-else-at-code : goal.returns-else-at-code
returns-else-at-code c = c.got.ensures ∙ sym (constant_byte c.args.header.now c.args.code.now c.args.constants.now c.args.at c.told-header c.if-at-code.false)
