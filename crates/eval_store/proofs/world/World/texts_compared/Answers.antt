use Rattle.std.proofs.Common.{sym, ap, subst, ◌∙◌, arith}
use Rattle.run_laws.specs.Turns.{Ending, Gives, give}
use Rattle.ob_types.specs.Store.{Store, Trap, Cell, Bits}
use Rattle.ob_types.specs.Operators.{truth}
use Rattle.std.specs.Prelude.{None}
use Rattle.ob_types.specs.Expressions.{texts_compared}
use Rattle.eval_store.specs.Handing.{span_of}
use Rattle.eval_store.specs.Did.{Stopped}
use Rattle.eval_store.specs.declared.stop.Stop.{Stop}
use Rattle.eval_store.proofs.Letters.{related_is, related_stops, related_gives}
use Rattle.eval_store.proofs.world.World.texts_compared.Goals as goal

pub returns-in-Err-clause-did : goal.returns-in-Err-clause-did
returns-in-Err-clause-did c =
    let s = c.args.self.now in
    let w = related_is c.args.relation c.args.d c.args.e (span_of c.in-Some.a) (span_of c.in-Some-span.b) s c.in-Some.ensures.some c.in-Some-span.ensures.some c.requires.sensible in
    let P : Stop → Type 0 = λ e. Stopped (texts_compared c.args.relation (give c.args.d) None (give c.args.e) None s) e s.out in
    subst P (sym (c.in-Err.ensures.err w.xs w.ys w.first w.second)) tt

pub returns-in-Err-spend_some-clause-did : goal.returns-in-Err-spend_some-clause-did
returns-in-Err-spend_some-clause-did c =
    let s = c.args.self.now in
    let w = related_is c.args.relation c.args.d c.args.e (span_of c.in-Some.a) (span_of c.in-Some-span.b) s c.in-Some.ensures.some c.in-Some-span.ensures.some c.requires.sensible in
    let n = c.in-Some-checked_add.ensures in
    related_stops c.args.relation c.args.d c.args.e (span_of c.in-Some.a) (span_of c.in-Some-span.b) s w c.in-Ok.q c.in-Some-checked_add.count c.in-Err-spend_some.stop c.spend_some.new.self.out (c.in-Ok.ensures.ok w.xs w.ys w.first w.second) n.1 c.in-Err-spend_some.ensures.did

pub returns-in-Ok-spend_some-clause-did : goal.returns-in-Ok-spend_some-clause-did
returns-in-Ok-spend_some-clause-did c =
    let s = c.args.self.now in
    let w = related_is c.args.relation c.args.d c.args.e (span_of c.in-Some.a) (span_of c.in-Some-span.b) s c.in-Some.ensures.some c.in-Some-span.ensures.some c.requires.sensible in
    let n = c.in-Some-checked_add.ensures in
    let G : Cell → Ending Store Trap Cell = λ b. Gives b c.spend_some.new.self in
    related_gives c.args.relation c.args.d c.args.e (span_of c.in-Some.a) (span_of c.in-Some-span.b) s c.spend_some.new.self w c.in-Ok.q c.in-Some-checked_add.count (c.in-Ok.ensures.ok w.xs w.ys w.first w.second) n.1 c.in-Ok-spend_some.ensures.did
    ∙ ap G (sym (c.bits.ensures ∙ ap Bits (c.truth.ensures ∙ ap truth c.related.ensures)))

pub returns-in-Ok-spend_some-clause-turns : goal.returns-in-Ok-spend_some-clause-turns
returns-in-Ok-spend_some-clause-turns c =
    let n = c.in-Some-checked_add.ensures in
    let t = c.in-Ok-spend_some.ensures.turns in
    omega (arith, n.1, t)
