use Rattle.std.proofs.Common.{Bool, sym, subst, arith}
use Rattle.eval_store.specs.Did.{Sensible}
use Rattle.eval_tasks.specs.declared.task.Branching.{Branching}
use Rattle.eval_tasks.specs.declared.task.Task.{Task}
use Rattle.eval_tasks.specs.declared.task.Task.TheVariants as task
use Rattle.eval_tasks.specs.Tasks.{does}
use Rattle.eval_tasks.specs.Weights.{weight}
use Rattle.ob_eval.specs.Steps.{before, Went, Falls}
use Rattle.ob_eval.proofs.Falling.{falls_less}
use Rattle.ob_eval.proofs.machine.Machine.step.Goals as goal

pub returns-in-Do-clause-went : goal.returns-in-Do-clause-went
returns-in-Do-clause-went c =
    let P : Task → Type 0 = λ t. Went c.args.laid.now (before c.args.laid.now (does c.args.laid.now t) c.args.self.now) c.act.result c.act.new.self in
    subst P (sym c.in-Do.is) c.act.ensures.went

pub returns-in-Do-clause-falls : goal.returns-in-Do-clause-falls
returns-in-Do-clause-falls c =
    let P : Task → Type 0 = λ t. Falls (weight t) c.args.self.now c.act.result c.act.new.self in
    subst P (sym c.in-Do.is) c.act.ensures.falls

pub returns-in-Evaluate-clause-went : goal.returns-in-Evaluate-clause-went
returns-in-Evaluate-clause-went c =
    let P : Task → Type 0 = λ t. Went c.args.laid.now (before c.args.laid.now (does c.args.laid.now t) c.args.self.now) c.value.result c.value.new.self in
    subst P (sym c.in-Evaluate.is) c.value.ensures.went

pub returns-in-Evaluate-clause-falls : goal.returns-in-Evaluate-clause-falls
returns-in-Evaluate-clause-falls c =
    let P : Task → Type 0 = λ t. Falls (weight t) c.args.self.now c.value.result c.value.new.self in
    subst P (sym c.in-Evaluate.is) c.value.ensures.falls

pub returns-in-Follow-clause-went : goal.returns-in-Follow-clause-went
returns-in-Follow-clause-went c =
    let P : Task → Type 0 = λ t. Went c.args.laid.now (before c.args.laid.now (does c.args.laid.now t) c.args.self.now) c.follow.result c.follow.new.self in
    subst P (sym c.in-Follow.is) c.follow.ensures.went

pub returns-in-Follow-clause-falls : goal.returns-in-Follow-clause-falls
returns-in-Follow-clause-falls c =
    let P : Task → Type 0 = λ t. Falls (weight t) c.args.self.now c.follow.result c.follow.new.self in
    subst P (sym c.in-Follow.is) c.follow.ensures.falls

pub returns-in-Locate-clause-went : goal.returns-in-Locate-clause-went
returns-in-Locate-clause-went c =
    let P : Task → Type 0 = λ t. Went c.args.laid.now (before c.args.laid.now (does c.args.laid.now t) c.args.self.now) c.locate.result c.locate.new.self in
    subst P (sym c.in-Locate.is) c.locate.ensures.went

pub returns-in-Locate-clause-falls : goal.returns-in-Locate-clause-falls
returns-in-Locate-clause-falls c =
    let P : Task → Type 0 = λ t. Falls (weight t) c.args.self.now c.locate.result c.locate.new.self in
    subst P (sym c.in-Locate.is) c.locate.ensures.falls

pub returns-in-Select-clause-went : goal.returns-in-Select-clause-went
returns-in-Select-clause-went c =
    let P : Task → Type 0 = λ t. Went c.args.laid.now (before c.args.laid.now (does c.args.laid.now t) c.args.self.now) c.select.result c.select.new.self in
    subst P (sym c.in-Select.is) c.select.ensures.went

pub returns-in-Select-clause-falls : goal.returns-in-Select-clause-falls
returns-in-Select-clause-falls c =
    let P : Task → Type 0 = λ t. Falls (weight t) c.args.self.now c.select.result c.select.new.self in
    subst P (sym c.in-Select.is) c.select.ensures.falls

pub returns-in-Guards-clause-went : goal.returns-in-Guards-clause-went
returns-in-Guards-clause-went c =
    let P : Task → Type 0 = λ t. Went c.args.laid.now (before c.args.laid.now (does c.args.laid.now t) c.args.self.now) c.guard.result c.guard.new.self in
    subst P (sym c.in-Guards.is) c.guard.ensures.went

pub returns-in-Guards-clause-falls : goal.returns-in-Guards-clause-falls
returns-in-Guards-clause-falls c =
    let P : Task → Type 0 = λ t. Falls (weight t) c.args.self.now c.guard.result c.guard.new.self in
    subst P (sym c.in-Guards.is) c.guard.ensures.falls

pub returns-in-Gather-clause-went : goal.returns-in-Gather-clause-went
returns-in-Gather-clause-went c =
    let P : Task → Type 0 = λ t. Went c.args.laid.now (before c.args.laid.now (does c.args.laid.now t) c.args.self.now) c.gather.result c.gather.new.self in
    subst P (sym c.in-Gather.is) c.gather.ensures.went

pub returns-in-Gather-clause-falls : goal.returns-in-Gather-clause-falls
returns-in-Gather-clause-falls c =
    let P : Task → Type 0 = λ t. Falls (weight t) c.args.self.now c.gather.result c.gather.new.self in
    subst P (sym c.in-Gather.is) c.gather.ensures.falls

pub returns-in-Perform-clause-went : goal.returns-in-Perform-clause-went
returns-in-Perform-clause-went c =
    let P : Task → Type 0 = λ t. Went c.args.laid.now (before c.args.laid.now (does c.args.laid.now t) c.args.self.now) c.go_on.result c.go_on.new.self in
    subst P (sym c.in-Perform.is) c.go_on.ensures.went

pub returns-in-Perform-clause-falls : goal.returns-in-Perform-clause-falls
returns-in-Perform-clause-falls c =
    let P : Task → Type 0 = λ t. Falls (weight t) c.args.self.now c.go_on.result c.go_on.new.self in
    subst P (sym c.in-Perform.is) c.go_on.ensures.falls

pub returns-in-Cases-clause-went : goal.returns-in-Cases-clause-went
returns-in-Cases-clause-went c =
    let P : Task → Type 0 = λ t. Went c.args.laid.now (before c.args.laid.now (does c.args.laid.now t) c.args.self.now) c.case.result c.case.new.self in
    subst P (sym c.in-Cases.is) c.case.ensures.went

pub returns-in-Cases-clause-falls : goal.returns-in-Cases-clause-falls
returns-in-Cases-clause-falls c =
    let P : Task → Type 0 = λ t. Falls (weight t) c.args.self.now c.case.result c.case.new.self in
    subst P (sym c.in-Cases.is) c.case.ensures.falls

pub returns-then-asked-clause-went : goal.returns-then-asked-clause-went
returns-then-asked-clause-went c =
    let P : Task → Type 0 = λ t. Went c.args.laid.now (before c.args.laid.now (does c.args.laid.now t) c.args.self.now) c.otherwise.result c.otherwise.new.self in
    let Q : Bool → Type 0 = λ b. Went c.args.laid.now (before c.args.laid.now (does c.args.laid.now (task.PerformAll c.in-PerformAll.all b)) c.args.self.now) c.otherwise.result c.otherwise.new.self in
    subst P (sym c.in-PerformAll.is) (subst Q (sym c.if-asked.true) c.otherwise.ensures.went)

pub returns-then-asked-clause-falls : goal.returns-then-asked-clause-falls
returns-then-asked-clause-falls c =
    let P : Task → Type 0 = λ t. Falls (weight t) c.args.self.now c.otherwise.result c.otherwise.new.self in
    let Q : Bool → Type 0 = λ b. Falls (weight (task.PerformAll c.in-PerformAll.all b)) c.args.self.now c.otherwise.result c.otherwise.new.self in
    subst P (sym c.in-PerformAll.is) (subst Q (sym c.if-asked.true) (falls_less _ _ c.args.self.now c.otherwise.new.self c.otherwise.result (omega arith) c.otherwise.ensures.falls))

pub returns-in-PerformAll-clause-went : goal.returns-in-PerformAll-clause-went
returns-in-PerformAll-clause-went c =
    let P : Task → Type 0 = λ t. Went c.args.laid.now (before c.args.laid.now (does c.args.laid.now t) c.args.self.now) c.perform_all.result c.perform_all.new.self in
    let Q : Bool → Type 0 = λ b. Went c.args.laid.now (before c.args.laid.now (does c.args.laid.now (task.PerformAll c.in-PerformAll.all b)) c.args.self.now) c.perform_all.result c.perform_all.new.self in
    subst P (sym c.in-PerformAll.is) (subst Q (sym c.if-asked.false) c.perform_all.ensures.went)

pub returns-in-PerformAll-clause-falls : goal.returns-in-PerformAll-clause-falls
returns-in-PerformAll-clause-falls c =
    let P : Task → Type 0 = λ t. Falls (weight t) c.args.self.now c.perform_all.result c.perform_all.new.self in
    let Q : Bool → Type 0 = λ b. Falls (weight (task.PerformAll c.in-PerformAll.all b)) c.args.self.now c.perform_all.result c.perform_all.new.self in
    subst P (sym c.in-PerformAll.is) (subst Q (sym c.if-asked.false) c.perform_all.ensures.falls)

pub returns-in-Try-clause-went : goal.returns-in-Try-clause-went
returns-in-Try-clause-went c =
    let P : Task → Type 0 = λ t. Went c.args.laid.now (before c.args.laid.now (does c.args.laid.now t) c.args.self.now) c.try_first.result c.try_first.new.self in
    let Q : Branching → Type 0 = λ b. Went c.args.laid.now (before c.args.laid.now (does c.args.laid.now (task.Branches c.in-Branches.all b)) c.args.self.now) c.try_first.result c.try_first.new.self in
    subst P (sym c.in-Branches.is) (subst Q (sym c.in-Try.is) c.try_first.ensures.went)

pub returns-in-Try-clause-falls : goal.returns-in-Try-clause-falls
returns-in-Try-clause-falls c =
    let P : Task → Type 0 = λ t. Falls (weight t) c.args.self.now c.try_first.result c.try_first.new.self in
    let Q : Branching → Type 0 = λ b. Falls (weight (task.Branches c.in-Branches.all b)) c.args.self.now c.try_first.result c.try_first.new.self in
    subst P (sym c.in-Branches.is) (subst Q (sym c.in-Try.is) c.try_first.ensures.falls)

pub returns-in-Chosen-clause-went : goal.returns-in-Chosen-clause-went
returns-in-Chosen-clause-went c =
    let P : Task → Type 0 = λ t. Went c.args.laid.now (before c.args.laid.now (does c.args.laid.now t) c.args.self.now) c.chosen.result c.chosen.new.self in
    let Q : Branching → Type 0 = λ b. Went c.args.laid.now (before c.args.laid.now (does c.args.laid.now (task.Branches c.in-Branches.all b)) c.args.self.now) c.chosen.result c.chosen.new.self in
    subst P (sym c.in-Branches.is) (subst Q (sym c.in-Chosen.is) c.chosen.ensures.went)

pub returns-in-Chosen-clause-falls : goal.returns-in-Chosen-clause-falls
returns-in-Chosen-clause-falls c =
    let P : Task → Type 0 = λ t. Falls (weight t) c.args.self.now c.chosen.result c.chosen.new.self in
    let Q : Branching → Type 0 = λ b. Falls (weight (task.Branches c.in-Branches.all b)) c.args.self.now c.chosen.result c.chosen.new.self in
    subst P (sym c.in-Branches.is) (subst Q (sym c.in-Chosen.is) c.chosen.ensures.falls)

pub returns-in-Rounds-clause-went : goal.returns-in-Rounds-clause-went
returns-in-Rounds-clause-went c =
    let P : Task → Type 0 = λ t. Went c.args.laid.now (before c.args.laid.now (does c.args.laid.now t) c.args.self.now) c.rounds.result c.rounds.new.self in
    let Q : Branching → Type 0 = λ b. Went c.args.laid.now (before c.args.laid.now (does c.args.laid.now (task.Branches c.in-Branches.all b)) c.args.self.now) c.rounds.result c.rounds.new.self in
    subst P (sym c.in-Branches.is) (subst Q (sym c.in-Rounds.is) c.rounds.ensures.went)

pub returns-in-Rounds-clause-falls : goal.returns-in-Rounds-clause-falls
returns-in-Rounds-clause-falls c =
    let P : Task → Type 0 = λ t. Falls (weight t) c.args.self.now c.rounds.result c.rounds.new.self in
    let Q : Branching → Type 0 = λ b. Falls (weight (task.Branches c.in-Branches.all b)) c.args.self.now c.rounds.result c.rounds.new.self in
    subst P (sym c.in-Branches.is) (subst Q (sym c.in-Rounds.is) c.rounds.ensures.falls)

pub returns-in-Again-clause-went : goal.returns-in-Again-clause-went
returns-in-Again-clause-went c =
    let P : Task → Type 0 = λ t. Went c.args.laid.now (before c.args.laid.now (does c.args.laid.now t) c.args.self.now) c.again.result c.again.new.self in
    let Q : Branching → Type 0 = λ b. Went c.args.laid.now (before c.args.laid.now (does c.args.laid.now (task.Branches c.in-Branches.all b)) c.args.self.now) c.again.result c.again.new.self in
    subst P (sym c.in-Branches.is) (subst Q (sym c.in-Again.is) c.again.ensures.went)

pub returns-in-Again-clause-falls : goal.returns-in-Again-clause-falls
returns-in-Again-clause-falls c =
    let P : Task → Type 0 = λ t. Falls (weight t) c.args.self.now c.again.result c.again.new.self in
    let Q : Branching → Type 0 = λ b. Falls (weight (task.Branches c.in-Branches.all b)) c.args.self.now c.again.result c.again.new.self in
    subst P (sym c.in-Branches.is) (subst Q (sym c.in-Again.is) c.again.ensures.falls)

pub returns-in-Types-clause-went : goal.returns-in-Types-clause-went
returns-in-Types-clause-went c =
    let P : Task → Type 0 = λ t. Went c.args.laid.now (before c.args.laid.now (does c.args.laid.now t) c.args.self.now) c.case_type.result c.case_type.new.self in
    subst P (sym c.in-Types.is) c.case_type.ensures.went

pub returns-in-Types-clause-falls : goal.returns-in-Types-clause-falls
returns-in-Types-clause-falls c =
    let P : Task → Type 0 = λ t. Falls (weight t) c.args.self.now c.case_type.result c.case_type.new.self in
    subst P (sym c.in-Types.is) (falls_less _ _ c.args.self.now c.case_type.new.self c.case_type.result (omega arith) c.case_type.ensures.falls)

pub returns-then-wanted-clause-went : goal.returns-then-wanted-clause-went
returns-then-wanted-clause-went c =
    let P : Task → Type 0 = λ t. Went c.args.laid.now (before c.args.laid.now (does c.args.laid.now t) c.args.self.now) c.return_with.result c.return_with.new.self in
    let Q : Bool → Type 0 = λ b. Went c.args.laid.now (before c.args.laid.now (does c.args.laid.now (task.Return c.in-Return.old b)) c.args.self.now) c.return_with.result c.return_with.new.self in
    subst P (sym c.in-Return.is) (subst Q (sym c.if-wanted.true) c.return_with.ensures.went)

pub returns-then-wanted-clause-falls : goal.returns-then-wanted-clause-falls
returns-then-wanted-clause-falls c =
    let P : Task → Type 0 = λ t. Falls (weight t) c.args.self.now c.return_with.result c.return_with.new.self in
    let Q : Bool → Type 0 = λ b. Falls (weight (task.Return c.in-Return.old b)) c.args.self.now c.return_with.result c.return_with.new.self in
    subst P (sym c.in-Return.is) (subst Q (sym c.if-wanted.true) c.return_with.ensures.falls)

pub returns-in-Return-clause-went : goal.returns-in-Return-clause-went
returns-in-Return-clause-went c =
    let P : Task → Type 0 = λ t. Went c.args.laid.now (before c.args.laid.now (does c.args.laid.now t) c.args.self.now) c.return_bare.result c.return_bare.new.self in
    let Q : Bool → Type 0 = λ b. Went c.args.laid.now (before c.args.laid.now (does c.args.laid.now (task.Return c.in-Return.old b)) c.args.self.now) c.return_bare.result c.return_bare.new.self in
    subst P (sym c.in-Return.is) (subst Q (sym c.if-wanted.false) c.return_bare.ensures.went)

pub returns-in-Return-clause-falls : goal.returns-in-Return-clause-falls
returns-in-Return-clause-falls c =
    let P : Task → Type 0 = λ t. Falls (weight t) c.args.self.now c.return_bare.result c.return_bare.new.self in
    let Q : Bool → Type 0 = λ b. Falls (weight (task.Return c.in-Return.old b)) c.args.self.now c.return_bare.result c.return_bare.new.self in
    subst P (sym c.in-Return.is) (subst Q (sym c.if-wanted.false) c.return_bare.ensures.falls)

pub returns-in-Resume-clause-went : goal.returns-in-Resume-clause-went
returns-in-Resume-clause-went c =
    let P : Task → Type 0 = λ t. Went c.args.laid.now (before c.args.laid.now (does c.args.laid.now t) c.args.self.now) c.resume.result c.resume.new.self in
    subst P (sym c.in-Resume.is) c.resume.ensures.went

pub returns-in-Resume-clause-falls : goal.returns-in-Resume-clause-falls
returns-in-Resume-clause-falls c =
    let P : Task → Type 0 = λ t. Falls (weight t) c.args.self.now c.resume.result c.resume.new.self in
    subst P (sym c.in-Resume.is) c.resume.ensures.falls

pub act-requires : goal.act-requires
act-requires c =
    let P : Task → Type 0 = λ t. Sensible (before c.args.laid.now (does c.args.laid.now t) c.args.self.now) in
    record { sensible = subst P c.in-Do.is c.requires.sensible }
