use Rattle.std.proofs.Common.{◌∙◌, arith}
use Rattle.link_layout.proofs.Placing.{ok_more, err_more}
use Rattle.link_layout.proofs.Numbered.{wide_is}
use Rattle.link_layout.proofs.blocks.procedure_width.Goals as goal

pub returns-clause-width : goal.returns-clause-width
returns-clause-width c = ok_more _ _ c.end_of.result (λ width h pr p is. h ∙ wide_is pr p c.args.front c.args.widths.now is) c.end_of.ensures.end

pub returns-clause-limit : goal.returns-clause-limit
returns-clause-limit c = err_more _ _ c.end_of.result (λ fault h pr p is. let e = wide_is pr p c.args.front c.args.widths.now is in omega (arith, e, h)) c.end_of.ensures.limit
