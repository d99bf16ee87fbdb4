use Rattle.std.proofs.Common.{◌≡◌, length, rules, ap, arith}
use Rattle.object_form.specs.Objects.{object_bytes}
use Rattle.object_form.proofs.Objects.{short_is_object}
use Rattle.object_form.proofs.writing.write_object.Goals as goal

pub returns-clause-read : goal.returns-clause-read
returns-clause-read c =
    let is : c.put_kept.new.out.items ≡ object_bytes c.args.object.now = search rules in
    let long : length c.put_kept.new.out.items ≡ length (object_bytes c.args.object.now) = ap length is in
    short_is_object c.args.object.now c.requires c.in_ok-put_kept.ensures.source c.in_ok-put_kept.ensures.typed (omega (arith, long, c.len.ensures, c.if-len-gt-MOST.false))
