use Rattle.std.proofs.Common.{◌≡◌, ℕ, w64, sym, ap, subst, refl, ◌∙◌}
use Rattle.std.proofs.lemmas.Int.{to_z-of_z}
use Rattle.wrapping_numbers.specs.Numbers.{unsigned, add64}
use Rattle.run_laws.specs.Turns.{Gives}
use Rattle.ob_types.specs.Store.{Cell, Bits, put}
use Rattle.eval_store.specs.Areas.{address_of}
use Rattle.eval_store.specs.Did.{Stopped}
use Rattle.eval_store.specs.declared.stop.Stop.TheVariants.{NoSense}
use Rattle.eval_tasks.specs.declared.task.Stage.TheVariants.{Rounds, Behind}
use Rattle.eval_tasks.specs.Tasks.{staged, for_step}
use Rattle.ob_eval.specs.Steps.{before}
use Rattle.ob_eval.specs.declared.machine.Machine.{Machine}
use Rattle.ob_eval.proofs.Steps.{added_one}
use Rattle.ob_eval.proofs.LoopSteps.{no_limit_behind, step_stops, step_done, step_fetch_stops, step_no_number, step_is, stopped_as}
use Rattle.ob_eval.proofs.machine.Machine.for_step.Goals as goal

pub returns-in-Err-clause-went : goal.returns-in-Err-clause-went
returns-in-Err-clause-went c = no_limit_behind c.args.laid.now c.args.statement.now c.args.step c.requires.is.0 c.requires.is.1 c.args.n c.args.self.now c.take_limit.new.self c.in-Err.stop c.in-Err.ensures

pub returns-in-Err-fetch-clause-went : goal.returns-in-Err-fetch-clause-went
returns-in-Err-fetch-clause-went c =
    let p = c.args.laid.now in
    let m = c.take_limit.new.self in
    let S : Machine → Type 0 = λ m. Stopped (before p (staged p (Behind c.args.n) c.args.statement.now) m) c.in-Err-fetch.stop c.take_limit.new.self.world.out in
    subst S (sym c.in-Ok.ensures) (step_stops p c.args.statement.now c.args.step c.requires.is.0 c.requires.is.1 m c.in-Ok.kept c.args.n c.in-Err-fetch.stop m.world.out (step_fetch_stops p (address_of c.in-Ok.kept.variable) c.args.step m.world c.in-Err-fetch.stop m.world.out c.in-Err-fetch.ensures))

pub returns-in-None-clause-went : goal.returns-in-None-clause-went
returns-in-None-clause-went c =
    let p = c.args.laid.now in
    let m = c.take_limit.new.self in
    let S : Machine → Type 0 = λ m. Stopped (before p (staged p (Behind c.args.n) c.args.statement.now) m) NoSense c.take_limit.new.self.world.out in
    subst S (sym c.in-Ok.ensures) (step_stops p c.args.statement.now c.args.step c.requires.is.0 c.requires.is.1 m c.in-Ok.kept c.args.n NoSense m.world.out (step_no_number p (address_of c.in-Ok.kept.variable) c.args.step m.world c.in-Ok-fetch.c c.in-Ok-fetch.ensures (sym c.in-None.ensures)))

pub returns-in-Err-put-clause-went : goal.returns-in-Err-put-clause-went
returns-in-Err-put-clause-went c =
    let p = c.args.laid.now in
    let m = c.take_limit.new.self in
    let a = address_of c.in-Ok.kept.variable in
    let stop = c.in-Err-put.stop in
    let out = c.put.new.self.out in
    let T : Machine → Type 0 = λ m. Stopped (before p (staged p (Behind c.args.n) c.args.statement.now) m) stop out in
    let C : Cell → Type 0 = λ d. Stopped (put a d m.world) stop out in
    let S : ℕ → Cell = λ s. Bits (add64 c.in-Some.v s) in
    let is : c.bits.result ≡ Bits (add64 c.in-Some.v (unsigned c.args.step)) = c.bits.ensures ∙ ap S (c.cast_unsigned.ensures ∙ ap unsigned (to_z-of_z w64 c.args.step c.ranges.step)) in
    subst T (sym c.in-Ok.ensures) (step_stops p c.args.statement.now c.args.step c.requires.is.0 c.requires.is.1 m c.in-Ok.kept c.args.n stop out (stopped_as (for_step p a c.args.step m.world) (put a (Bits (add64 c.in-Some.v (unsigned c.args.step))) m.world) stop out (step_is p a c.args.step m.world c.in-Ok-fetch.c c.in-Some.v c.in-Ok-fetch.ensures (sym c.in-Some.ensures)) (subst C is c.in-Err-put.ensures.did)))

pub returns-in_ok-add-in-Ok-put-clause-went : goal.returns-in_ok-add-in-Ok-put-clause-went
returns-in_ok-add-in-Ok-put-clause-went c =
    let p = c.args.laid.now in
    let m = c.take_limit.new.self in
    let s = c.args.statement.now in
    let n = c.args.n in
    let a = address_of c.in-Ok.kept.variable in
    let t = c.put.new.self in
    let C : Cell → Type 0 = λ d. put a d m.world ≡ Gives tt t in
    let S : ℕ → Cell = λ s. Bits (add64 c.in-Some.v s) in
    let is : c.bits.result ≡ Bits (add64 c.in-Some.v (unsigned c.args.step)) = c.bits.ensures ∙ ap S (c.cast_unsigned.ensures ∙ ap unsigned (to_z-of_z w64 c.args.step c.ranges.step)) in
    added_one p c.keep_limit.new.self c.add.new.self _ (staged p (Rounds n) s) c.in_ok-add-in-Ok-put.ensures.ok refl
    ∙ ap (before p (staged p (Rounds n) s)) c.in_ok-keep_limit-in-Ok-put.ensures.ok
    ∙ step_done p s c.args.step c.requires.is.0 c.requires.is.1 m c.in-Ok.kept n t (step_is p a c.args.step m.world c.in-Ok-fetch.c c.in-Some.v c.in-Ok-fetch.ensures (sym c.in-Some.ensures) ∙ subst C is c.in-Ok-put.ensures.did)
    ∙ ap (before p (staged p (Behind n) s)) (sym c.in-Ok.ensures)
