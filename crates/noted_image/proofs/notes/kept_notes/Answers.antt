use Rattle.std.proofs.Common.{◌≡◌, length, map, rules, ap, arith}
use Rattle.planned_image.specs.audited_allocations.Joined.{joined}
use Rattle.trace_notes.specs.Notes.{notes}
use Rattle.trace_notes.proofs.Notes.{short_fits}
use Rattle.noted_image.proofs.notes.kept_notes.Goals as goal

pub returns : goal.returns
returns c =
    let outs = joined (map (λ v. v.items) c.args.outs.now) in
    let is : c.put_all.new.notes.items ≡ notes outs = search rules in
    let long : length c.put_all.new.notes.items ≡ length (notes outs) = ap length is in
    (is, omega (arith, c.len.ensures, c.if-len-gt-MOST.false), short_fits outs (tt, c.in_ok-put_all.ensures.typed) c.requires (omega (arith, long, c.len.ensures, c.if-len-gt-MOST.false)))
