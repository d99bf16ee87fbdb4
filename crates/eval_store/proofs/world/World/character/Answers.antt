use Rattle.std.proofs.Common.{◌≡◌, Some, None}
use Rattle.eval_store.specs.Areas.{address_of}
use Rattle.eval_store.specs.Cells.{number_of}
use Rattle.eval_store.proofs.Letters.{past_end, read_is, read_no_number, read_stops}
use Rattle.eval_store.proofs.world.World.character.Goals as goal

pub returns-then-i-length-clause-ok : goal.returns-then-i-length-clause-ok
returns-then-i-length-clause-ok c = λ xs h. past_end c.args.length c.args.i (address_of c.args.a) c.args.self.now xs h c.if-i-length.true

pub returns-in-Err-clause-err : goal.returns-in-Err-clause-err
returns-in-Err-clause-err c = λ xs h. read_stops c.args.length c.args.i (address_of c.args.a) (address_of c.in-Some.b) c.args.self.now xs c.in-Err.stop c.args.self.now.out c.if-i-length.false c.in-Some.ensures c.in-Err.ensures h

pub returns-in-None-clause-err : goal.returns-in-None-clause-err
returns-in-None-clause-err c = λ xs h.
    let none : number_of c.in-Ok.c ≡ None = cc in
    absurd (read_no_number c.args.length c.args.i (address_of c.args.a) (address_of c.in-Some.b) c.args.self.now xs c.in-Ok.c c.if-i-length.false c.in-Some.ensures c.in-Ok.ensures none h)

pub returns-in-Some-number-clause-ok : goal.returns-in-Some-number-clause-ok
returns-in-Some-number-clause-ok c = λ xs h.
    let some : number_of c.in-Ok.c ≡ Some c.in-Some-number.x = cc in
    read_is c.args.length c.args.i (address_of c.args.a) (address_of c.in-Some.b) c.args.self.now xs c.in-Ok.c c.in-Some-number.x c.if-i-length.false c.in-Some.ensures c.in-Ok.ensures some h
