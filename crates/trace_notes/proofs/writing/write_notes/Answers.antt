use Rattle.std.proofs.Common.{◌≡◌, length, rules, ap, arith}
use Rattle.trace_notes.specs.Notes.{notes}
use Rattle.trace_notes.proofs.Notes.{short_fits}
use Rattle.trace_notes.proofs.writing.write_notes.Goals as goal

pub returns-clause-read : goal.returns-clause-read
returns-clause-read c =
    let is : c.put_list.new.out.items ≡ notes c.args.outs.now = search rules in
    let long : length c.put_list.new.out.items ≡ length (notes c.args.outs.now) = ap length is in
    short_fits c.args.outs.now c.in_ok-put_list.ensures.typed c.requires (omega (arith, long, c.len.ensures, c.if-len-gt-MOST.false))
