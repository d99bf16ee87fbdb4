use Rattle.std.proofs.Common.{◌≡◌, ◌<◌, [], ◌∷◌, length, get_or, sym, subst, arith}
use Rattle.std.proofs.lemmas.Grind.{common_steps}
use Rattle.lir_core.specs.declared.places.TraceOut.{TraceOut}
use Rattle.lir_core.specs.Sound.{EndsRise}
use Rattle.walked_results.specs.Walked.{IsWalked}
use Rattle.walked_results.proofs.Sounds.{result_sound}
use Rattle.linear_scan.specs.Inputs.{case_of, hint_of, lent}
use Rattle.simple_policies.specs.trivial.Trivial.{trivial_start, trivial}
use Rattle.simple_policies.proofs.trivial.Sounds.{made_is, trivial_walked}
use Rattle.simple_policies.proofs.trivial.allocating.trivial.Goals as goal

module _ (c : goal.In_ok-push-4) where
  abbrev out : TraceOut
  out = record { trace = c.empty-out.result.trace; starts = c.push.new.self; ends = c.push-2.new.self; lines = c.push-3.new.self; regs = c.push-4.new.self }

  is : out ≡ trivial (case_of c.args.t.now) c.args.t.now.number c.args.t.now.trace.now.nodes (hint_of c.args.t.now.from (lent c.args.hint))
  is =
      let some : 0 < length c.args.t.now.trace.now.nodes = grind (arith, common_steps) in
      let made : out ≡ record { trace = c.args.t.now.number; starts = trivial_start (case_of c.args.t.now) (get_or c.args.t.now.trace.now.nodes 0 0) (hint_of c.args.t.now.from (lent c.args.hint)) ∷ []; ends = trivial_start (case_of c.args.t.now) (get_or c.args.t.now.trace.now.nodes 0 0) (hint_of c.args.t.now.from (lent c.args.hint)) ∷ []; lines = [] ∷ []; regs = [] ∷ [] } = grind (arith, common_steps) in
      made_is (case_of c.args.t.now) c.args.t.now.number c.args.t.now.trace.now.nodes (hint_of c.args.t.now.from (lent c.args.hint)) out some made

pub returns-clause-trivial : goal.returns-clause-trivial
returns-clause-trivial c = is c

pub returns-clause-walked : goal.returns-clause-walked
returns-clause-walked c given triv =
    subst (IsWalked c.args.t.now.regs c.args.t.now.flow.now c.args.t.now.trace.now) (sym (is c)) (trivial_walked (case_of c.args.t.now) c.args.t.now.trace.now.nodes (hint_of c.args.t.now.from (lent c.args.hint)) given triv c.args.t.now.number).0

pub returns-clause-sound : goal.returns-clause-sound
returns-clause-sound c given triv = result_sound _ _ _ _ (returns-clause-walked c given triv)

pub returns-clause-rises : goal.returns-clause-rises
returns-clause-rises c given triv = subst EndsRise (sym (is c)) (trivial_walked (case_of c.args.t.now) c.args.t.now.trace.now.nodes (hint_of c.args.t.now.from (lent c.args.hint)) given triv c.args.t.now.number).1
