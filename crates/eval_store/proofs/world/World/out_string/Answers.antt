use Rattle.std.proofs.Common.{sym, subst}
use Rattle.run_laws.specs.Turns.{Ending}
use Rattle.ob_types.specs.Store.{Store, Trap}
use Rattle.eval_store.specs.Handing.{span_of}
use Rattle.eval_store.specs.Did.{Did}
use Rattle.eval_store.proofs.Letters.{string_is}
use Rattle.eval_store.proofs.world.World.out_string.Goals as goal

pub returns-in-Some-clause-did : goal.returns-in-Some-clause-did
returns-in-Some-clause-did c =
    let r = string_is c.args.handed (span_of c.in-Some.a) c.args.self.now c.in-Some.ensures.some c.requires.sensible in
    let P : Ending Store Trap (Unit {0}) → Type 0 = λ e. Did e c.print_text.result c.print_text.new.self in
    subst P (sym r.2) (c.print_text.ensures.did r.0 r.1)
