use Rattle.std.proofs.lemmas.Int.{to_z-of_z}
use mir.Val.{SFits, to_z, of_z}
use Rattle.std.proofs.Common.{arith, rules, w64, [], Ok, Err, sym, ap, ap₂, ◌∙◌, subst}
use Rattle.ob_syntax.specs.Plain.{plain_expression, plain_option, plain_assigned, plain_designator, plain_stats, plain_stat, plain_case}
use Rattle.ob_syntax.specs.declared.statements.NextStat.{NextStat}
use Rattle.ob_syntax.specs.declared.statements.Stat.{Stat}
use Rattle.ob_syntax.specs.declared.statements.Elsif.{Elsif, out-Elsif}
use Rattle.ob_syntax.specs.declared.statements.ElsifDo.{ElsifDo, out-ElsifDo}
use Rattle.ob_syntax.specs.declared.statements.NextCase.{NextCase, out-NextCase}
use Rattle.ob_syntax.specs.declared.statements.AssignOrCall.{AssignOrCall}
use Rattle.ob_syntax.specs.declared.statements.CaseStat.{out-CaseStat}
use Rattle.ob_syntax.specs.declared.statements.CasePart.{out-CasePart}
use Rattle.check_statements.specs.syntax.Lists.{plain_maybe_else, plain_maybe_case}
use Rattle.check_statements.proofs.syntax.Parts.{else_parts, case_parts, case_part_parts}
use Rattle.ob_judge.specs.Judged.{Keeps, ◌>>=◌}
use Rattle.ob_judge.specs.Image as I
use Rattle.ob_judge.specs.Scopes.{place}
use Rattle.ob_judge.specs.Symbols.{bare}
use Rattle.ob_judge.specs.Assignments.{assign_or_call}
use Rattle.ob_judge.specs.Cases.{as_list, ranges, type_labels, tag_of, case_variable, named_alone, selector_of}
use Rattle.ob_judge.specs.Statements.{statement, else_part}
use Rattle.check_statements.specs.steps.Steps.{if_of, while_of, repeat_of, for_of, case_stat_of, put_one, put_more, branch_one, branches_more, branches_more_do, part_one, part_more, filled}
use Rattle.check_statements.proofs.steps.Laws.{put_law, statements_is, elsif_law, elsif_do_law, if_is, while_is, repeat_is, for_is, case_is, part_law, value_filled_is, type_filled_is}
use Rattle.check_types.proofs.steps.Answering.{goes_on, stop, exit, as_judged, there}
use Rattle.check_types.specs.declared.steps.fault.CheckFault.TheVariants.{Fault}
use Rattle.check_types.specs.TypeMeaning.{type_shape}
use Rattle.check_types.specs.names.Meaning.{place_of, narrowings_before}
use Rattle.check_types.specs.names.Worlds.{table_of, strings_of, world_of}
use Rattle.check_operands.specs.Operands.{texts_of}
use Rattle.check_statements.specs.cases.Selecting.{selecting_meant}
use Rattle.check_statements.proofs.assignments.Assigning.{missing_so}
use Rattle.check_expressions.proofs.Walking.{walk_on, walk_stops, walk_ends}
use Rattle.check_statements.specs.Standing.{ArePut, ArePutBranches, SoFar, ArePutParts}
use Rattle.check_statements.proofs.Joining.{none_put, one_put, all_put, made_put, no_branch_put, branch_put, for_made}
use Rattle.check_statements.proofs.Filling.{value_put, type_put, narrowed_answers}
use Rattle.check_statements.proofs.walk.+walk.Goals as goal

pub statements-returns-in_err-first : goal.statements-returns-in_err-first
statements-returns-in_err-first t c = let s = c.args.scope.now in let p = s.source.now in let w = world_of s in
    exit _ c.from_residual-in_err-first.ensures.1 (as_judged (statements_is p w c.args.tree.now) (stop _ _ (c.in_err-first.ensures (λ rest. rest) (none_put s c.in_ok-room.room c.in_ok-room.ensures.items))))

pub statements-returns : goal.statements-returns
statements-returns t c = let s = c.args.scope.now in let p = s.source.now in let w = world_of s in
    as_judged (statements_is p w c.args.tree.now) (goes_on _ _ (c.in_ok-first.ensures (λ rest. rest) (none_put s c.in_ok-room.room c.in_ok-room.ensures.items)) (λ a h. as_judged (ap (put_more p w a) (sym c.deref.ensures.value)) (c.further.ensures a h)))

pub further-returns-in_err-all : goal.further-returns-in_err-all
further-returns-in_err-all t c = let s = c.args.scope.now in let p = s.source.now in let w = world_of s in
    λ a h. exit _ c.from_residual.ensures.1 (walk_stops (put_more p w) (λ (b : I.Statements → I.Statements) (x : NextStat). put_one p w b x.stat) (put_law p w) c.args.more.now c.loop-next.next-index c.next-item.result c.loop-next-test.true (c.loop-next.invariant a h)
    (λ b k. as_judged (ap (λ x. (λ (b : I.Statements → I.Statements) (x : NextStat). put_one p w b x.stat) b x) (sym c.next-item.is)) (c.in_err-all.ensures b k)))

pub further-loop-next-preserved : goal.further-loop-next-preserved
further-loop-next-preserved t c = let s = c.args.scope.now in let p = s.source.now in let w = world_of s in
    λ a h. walk_on (put_more p w) (λ (b : I.Statements → I.Statements) (x : NextStat). put_one p w b x.stat) (put_law p w) c.args.more.now c.loop-next.next-index c.next-item.result c.loop-next-test.true (c.loop-next.invariant a h)
    (λ b k. as_judged (ap (λ x. (λ (b : I.Statements → I.Statements) (x : NextStat). put_one p w b x.stat) b x) (sym c.next-item.is)) (c.in_ok-all.ensures b k))

pub further-returns : goal.further-returns
further-returns t c = let s = c.args.scope.now in let p = s.source.now in let w = world_of s in
    λ a h. walk_ends (ArePut s) (put_more p w) c.args.more.now c.loop-next.next-index (omega (arith, c.loop-next-test.false)) (c.loop-next.invariant a h)
    (λ b k. record { by = all_put s c.loop-next.all b k })

pub elsifs-returns-in_err-all : goal.elsifs-returns-in_err-all
elsifs-returns-in_err-all t c = let s = c.args.scope.now in let p = s.source.now in let w = world_of s in
    λ a h. exit _ c.from_residual.ensures.1 (walk_stops (branches_more p w) (λ (b : I.Branches → I.Branches) (x : Elsif). branch_one p w b (plain_expression (out-Elsif x).guard) (plain_stats (out-Elsif x).body)) (elsif_law p w) c.args.more.now c.loop-next.next-index c.next-item.result c.loop-next-test.true (c.loop-next.invariant a h)
    (λ b k. as_judged (ap (λ x. (λ (b : I.Branches → I.Branches) (x : Elsif). branch_one p w b (plain_expression (out-Elsif x).guard) (plain_stats (out-Elsif x).body)) b x) (sym c.next-item.is)) (c.in_err-all.ensures b k)))

pub elsifs-loop-next-preserved : goal.elsifs-loop-next-preserved
elsifs-loop-next-preserved t c = let s = c.args.scope.now in let p = s.source.now in let w = world_of s in
    λ a h. walk_on (branches_more p w) (λ (b : I.Branches → I.Branches) (x : Elsif). branch_one p w b (plain_expression (out-Elsif x).guard) (plain_stats (out-Elsif x).body)) (elsif_law p w) c.args.more.now c.loop-next.next-index c.next-item.result c.loop-next-test.true (c.loop-next.invariant a h)
    (λ b k. as_judged (ap (λ x. (λ (b : I.Branches → I.Branches) (x : Elsif). branch_one p w b (plain_expression (out-Elsif x).guard) (plain_stats (out-Elsif x).body)) b x) (sym c.next-item.is)) (c.in_ok-all.ensures b k))

pub elsifs-returns : goal.elsifs-returns
elsifs-returns t c = let s = c.args.scope.now in let p = s.source.now in let w = world_of s in
    λ a h. walk_ends (ArePutBranches s) (branches_more p w) c.args.more.now c.loop-next.next-index (omega (arith, c.loop-next-test.false)) (c.loop-next.invariant a h)
    (λ b k. record { by = k I.no_branch })

pub elsif_dos-returns-in_err-all : goal.elsif_dos-returns-in_err-all
elsif_dos-returns-in_err-all t c = let s = c.args.scope.now in let p = s.source.now in let w = world_of s in
    λ a h. exit _ c.from_residual.ensures.1 (walk_stops (branches_more_do p w) (λ (b : I.Branches → I.Branches) (x : ElsifDo). branch_one p w b (plain_expression (out-ElsifDo x).guard) (plain_stats (out-ElsifDo x).body)) (elsif_do_law p w) c.args.more.now c.loop-next.next-index c.next-item.result c.loop-next-test.true (c.loop-next.invariant a h)
    (λ b k. as_judged (ap (λ x. (λ (b : I.Branches → I.Branches) (x : ElsifDo). branch_one p w b (plain_expression (out-ElsifDo x).guard) (plain_stats (out-ElsifDo x).body)) b x) (sym c.next-item.is)) (c.in_err-all.ensures b k)))

pub elsif_dos-loop-next-preserved : goal.elsif_dos-loop-next-preserved
elsif_dos-loop-next-preserved t c = let s = c.args.scope.now in let p = s.source.now in let w = world_of s in
    λ a h. walk_on (branches_more_do p w) (λ (b : I.Branches → I.Branches) (x : ElsifDo). branch_one p w b (plain_expression (out-ElsifDo x).guard) (plain_stats (out-ElsifDo x).body)) (elsif_do_law p w) c.args.more.now c.loop-next.next-index c.next-item.result c.loop-next-test.true (c.loop-next.invariant a h)
    (λ b k. as_judged (ap (λ x. (λ (b : I.Branches → I.Branches) (x : ElsifDo). branch_one p w b (plain_expression (out-ElsifDo x).guard) (plain_stats (out-ElsifDo x).body)) b x) (sym c.next-item.is)) (c.in_ok-all.ensures b k))

pub elsif_dos-returns : goal.elsif_dos-returns
elsif_dos-returns t c = let s = c.args.scope.now in let p = s.source.now in let w = world_of s in
    λ a h. walk_ends (ArePutBranches s) (branches_more_do p w) c.args.more.now c.loop-next.next-index (omega (arith, c.loop-next-test.false)) (c.loop-next.invariant a h)
    (λ b k. record { by = k I.no_branch })

pub case_parts-returns-in_err-all : goal.case_parts-returns-in_err-all
case_parts-returns-in_err-all t c = let s = c.args.scope.now in let p = s.source.now in let w = world_of s in
    λ on a h. exit _ c.from_residual.ensures.1 (walk_stops (part_more p w on) (λ (b : SoFar) (x : NextCase). part_one p w on b (plain_case (out-NextCase x).case)) (part_law p w on) c.args.more.now c.loop-next.next-index c.next-item.result c.loop-next-test.true (c.loop-next.invariant on a h)
    (λ b k. as_judged (ap (λ x. (λ (b : SoFar) (x : NextCase). part_one p w on b (plain_case (out-NextCase x).case)) b x) (sym c.next-item.is)) (c.in_err-all.ensures on b k)))

pub case_parts-loop-next-preserved : goal.case_parts-loop-next-preserved
case_parts-loop-next-preserved t c = let s = c.args.scope.now in let p = s.source.now in let w = world_of s in
    λ on a h. walk_on (part_more p w on) (λ (b : SoFar) (x : NextCase). part_one p w on b (plain_case (out-NextCase x).case)) (part_law p w on) c.args.more.now c.loop-next.next-index c.next-item.result c.loop-next-test.true (c.loop-next.invariant on a h)
    (λ b k. as_judged (ap (λ x. (λ (b : SoFar) (x : NextCase). part_one p w on b (plain_case (out-NextCase x).case)) b x) (sym c.next-item.is)) (c.in_ok-all.ensures on b k))

pub case_parts-returns : goal.case_parts-returns
case_parts-returns t c = let s = c.args.scope.now in let p = s.source.now in let w = world_of s in
    λ on a h. walk_ends (ArePutParts s on) (part_more p w on) c.args.more.now c.loop-next.next-index (omega (arith, c.loop-next-test.false)) (c.loop-next.invariant on a h)
    (λ b k. record { by = record { selector = k.selector; all = k.parts I.no_part } })

pub put-returns : goal.put-returns
put-returns t c = let s = c.args.scope.now in let p = s.source.now in let w = world_of s in
    λ a h. goes_on _ _ c.in_ok-made.ensures (λ f k. record { by = one_put s c.in_ok-all.all c.args.so_far a f c.in_ok-made.made h k c.in_ok-all.ensures })

pub put-returns-in_err-made : goal.put-returns-in_err-made
put-returns-in_err-made t c = let s = c.args.scope.now in let p = s.source.now in let w = world_of s in
    λ a h. exit _ c.from_residual.ensures.1 (stop _ _ c.in_err-made.ensures)

pub statement-returns-in_err-made-in-If : goal.statement-returns-in_err-made-in-If
statement-returns-in_err-made-in-If t c = let s = c.args.scope.now in let p = s.source.now in let w = world_of s in
    exit _ c.from_residual-in_err-made-in-If.ensures.1 (as_judged (ap (λ z. statement p w (plain_stat z)) c.in-If.is ∙ if_is p w c.in-If.inner ∙ ap (λ z. if_of p w z >>= λ d. Keeps (I.next_statement d)) (sym c.deref-in-If.ensures)) (stop _ _ c.in_err-made-in-If.ensures))

pub statement-returns-in_ok-made-in-If : goal.statement-returns-in_ok-made-in-If
statement-returns-in_ok-made-in-If t c = let s = c.args.scope.now in let p = s.source.now in let w = world_of s in
    as_judged (ap (λ z. statement p w (plain_stat z)) c.in-If.is ∙ if_is p w c.in-If.inner ∙ ap (λ z. if_of p w z >>= λ d. Keeps (I.next_statement d)) (sym c.deref-in-If.ensures)) (made_put s _ _ c.in_ok-made-in-If.ensures)

pub statement-returns-in_err-made-in-Case : goal.statement-returns-in_err-made-in-Case
statement-returns-in_err-made-in-Case t c = let s = c.args.scope.now in let p = s.source.now in let w = world_of s in
    exit _ c.from_residual-in_err-made-in-Case.ensures.1 (as_judged (ap (λ z. statement p w (plain_stat z)) c.in-Case.is ∙ case_is p w c.in-Case.inner ∙ ap (λ z. case_stat_of p w z >>= λ d. Keeps (I.next_statement d)) (sym c.deref-in-Case.ensures)) (stop _ _ c.in_err-made-in-Case.ensures))

pub statement-returns-in_ok-made-in-Case : goal.statement-returns-in_ok-made-in-Case
statement-returns-in_ok-made-in-Case t c = let s = c.args.scope.now in let p = s.source.now in let w = world_of s in
    as_judged (ap (λ z. statement p w (plain_stat z)) c.in-Case.is ∙ case_is p w c.in-Case.inner ∙ ap (λ z. case_stat_of p w z >>= λ d. Keeps (I.next_statement d)) (sym c.deref-in-Case.ensures)) (made_put s _ _ c.in_ok-made-in-Case.ensures)

pub statement-returns-in_err-made-in-While : goal.statement-returns-in_err-made-in-While
statement-returns-in_err-made-in-While t c = let s = c.args.scope.now in let p = s.source.now in let w = world_of s in
    exit _ c.from_residual-in_err-made-in-While.ensures.1 (as_judged (ap (λ z. statement p w (plain_stat z)) c.in-While.is ∙ while_is p w c.in-While.inner ∙ ap (λ z. while_of p w z >>= λ d. Keeps (I.next_statement d)) (sym c.deref-in-While.ensures)) (stop _ _ c.in_err-made-in-While.ensures))

pub statement-returns-in_ok-made-in-While : goal.statement-returns-in_ok-made-in-While
statement-returns-in_ok-made-in-While t c = let s = c.args.scope.now in let p = s.source.now in let w = world_of s in
    as_judged (ap (λ z. statement p w (plain_stat z)) c.in-While.is ∙ while_is p w c.in-While.inner ∙ ap (λ z. while_of p w z >>= λ d. Keeps (I.next_statement d)) (sym c.deref-in-While.ensures)) (made_put s _ _ c.in_ok-made-in-While.ensures)

pub statement-returns-in_err-made-in-Repeat : goal.statement-returns-in_err-made-in-Repeat
statement-returns-in_err-made-in-Repeat t c = let s = c.args.scope.now in let p = s.source.now in let w = world_of s in
    exit _ c.from_residual-in_err-made-in-Repeat.ensures.1 (as_judged (ap (λ z. statement p w (plain_stat z)) c.in-Repeat.is ∙ repeat_is p w c.in-Repeat.inner ∙ ap (λ z. repeat_of p w z >>= λ d. Keeps (I.next_statement d)) (sym c.deref-in-Repeat.ensures)) (stop _ _ c.in_err-made-in-Repeat.ensures))

pub statement-returns-in_ok-made-in-Repeat : goal.statement-returns-in_ok-made-in-Repeat
statement-returns-in_ok-made-in-Repeat t c = let s = c.args.scope.now in let p = s.source.now in let w = world_of s in
    as_judged (ap (λ z. statement p w (plain_stat z)) c.in-Repeat.is ∙ repeat_is p w c.in-Repeat.inner ∙ ap (λ z. repeat_of p w z >>= λ d. Keeps (I.next_statement d)) (sym c.deref-in-Repeat.ensures)) (made_put s _ _ c.in_ok-made-in-Repeat.ensures)

pub statement-returns-in_err-made-in-For : goal.statement-returns-in_err-made-in-For
statement-returns-in_err-made-in-For t c = let s = c.args.scope.now in let p = s.source.now in let w = world_of s in
    exit _ c.from_residual-in_err-made-in-For.ensures.1 (as_judged (ap (λ z. statement p w (plain_stat z)) c.in-For.is ∙ for_is p w c.in-For.inner ∙ ap (λ z. for_of p w z >>= λ d. Keeps (I.next_statement d)) (sym c.deref-in-For.ensures)) (stop _ _ c.in_err-made-in-For.ensures))

pub statement-returns-in_ok-made-in-For : goal.statement-returns-in_ok-made-in-For
statement-returns-in_ok-made-in-For t c = let s = c.args.scope.now in let p = s.source.now in let w = world_of s in
    as_judged (ap (λ z. statement p w (plain_stat z)) c.in-For.is ∙ for_is p w c.in-For.inner ∙ ap (λ z. for_of p w z >>= λ d. Keeps (I.next_statement d)) (sym c.deref-in-For.ensures)) (made_put s _ _ c.in_ok-made-in-For.ensures)

pub statement-returns-in_err-made-in-AssignOrCall : goal.statement-returns-in_err-made-in-AssignOrCall
statement-returns-in_err-made-in-AssignOrCall t c = let s = c.args.scope.now in let p = s.source.now in let w = world_of s in
    exit _ c.from_residual.ensures.1 (as_judged (ap (λ z. statement p w (plain_stat z)) c.in-AssignOrCall.is ∙ ap (λ (z : AssignOrCall). assign_or_call p w (plain_designator z.designator) (plain_option plain_assigned z.assigned) >>= λ d. Keeps (I.next_statement d)) (sym c.deref.ensures)) (stop _ _ c.in_err-made-in-AssignOrCall.ensures))

pub statement-returns-in_ok-made-in-AssignOrCall : goal.statement-returns-in_ok-made-in-AssignOrCall
statement-returns-in_ok-made-in-AssignOrCall t c = let s = c.args.scope.now in let p = s.source.now in let w = world_of s in
    as_judged (ap (λ z. statement p w (plain_stat z)) c.in-AssignOrCall.is ∙ ap (λ (z : AssignOrCall). assign_or_call p w (plain_designator z.designator) (plain_option plain_assigned z.assigned) >>= λ d. Keeps (I.next_statement d)) (sym c.deref.ensures)) (made_put s _ _ c.in_ok-made-in-AssignOrCall.ensures)

pub if_branches-returns-in_err-guard : goal.if_branches-returns-in_err-guard
if_branches-returns-in_err-guard t c = let s = c.args.scope.now in let p = s.source.now in let w = world_of s in
    exit _ c.from_residual.ensures.1 (stop {B = Unit {0}} {R = λ u a. Unit {0}} _ _ (stop _ _ c.in_err-guard.ensures))

pub if_branches-returns-in_err-first : goal.if_branches-returns-in_err-first
if_branches-returns-in_err-first t c = let s = c.args.scope.now in let p = s.source.now in let w = world_of s in
    exit _ c.from_residual-in_err-first.ensures.1 (stop _ _ (goes_on _ _ c.in_ok-guard.ensures (λ g k. c.in_err-first.ensures (λ rest. rest) g (no_branch_put s c.in_ok-room.room c.in_ok-room.ensures.items) k)))

pub if_branches-returns-in_err-branches : goal.if_branches-returns-in_err-branches
if_branches-returns-in_err-branches t c = let s = c.args.scope.now in let p = s.source.now in let w = world_of s in
    exit _ c.from_residual-in_err-branches.ensures.1 (goes_on _ _ (goes_on _ _ c.in_ok-guard.ensures (λ g k. c.in_ok-first.ensures (λ rest. rest) g (no_branch_put s c.in_ok-room.room c.in_ok-room.ensures.items) k)) (λ a h. stop _ _ (as_judged (ap (branches_more p w a) (sym c.deref.ensures.value)) (c.in_err-branches.ensures a h))))

pub if_branches-returns-in_err-other : goal.if_branches-returns-in_err-other
if_branches-returns-in_err-other t c = let s = c.args.scope.now in let p = s.source.now in let w = world_of s in
    exit _ c.from_residual-in_err-other.ensures.1 (goes_on _ _ (goes_on _ _ c.in_ok-guard.ensures (λ g k. c.in_ok-first.ensures (λ rest. rest) g (no_branch_put s c.in_ok-room.room c.in_ok-room.ensures.items) k)) (λ a h. goes_on _ _ (as_judged (ap (branches_more p w a) (sym c.deref.ensures.value)) (c.in_ok-branches.ensures a h)) (λ bs k. stop _ _ c.in_err-other.ensures)))

pub if_branches-returns : goal.if_branches-returns
if_branches-returns t c = let s = c.args.scope.now in let p = s.source.now in let w = world_of s in
    goes_on _ _ (goes_on _ _ c.in_ok-guard.ensures (λ g k. c.in_ok-first.ensures (λ rest. rest) g (no_branch_put s c.in_ok-room.room c.in_ok-room.ensures.items) k)) (λ a h. goes_on _ _ (as_judged (ap (branches_more p w a) (sym c.deref.ensures.value)) (c.in_ok-branches.ensures a h)) (λ bs k. goes_on _ _ c.in_ok-other.ensures (λ o l. record { by = c.if_statement.ensures (table_of s) (texts_of s) ∙ ap₂ I.If k l })))

pub while_branches-returns-in_err-guard : goal.while_branches-returns-in_err-guard
while_branches-returns-in_err-guard t c = let s = c.args.scope.now in let p = s.source.now in let w = world_of s in
    exit _ c.from_residual.ensures.1 (stop {B = Unit {0}} {R = λ u a. Unit {0}} _ _ (stop _ _ c.in_err-guard.ensures))

pub while_branches-returns-in_err-first : goal.while_branches-returns-in_err-first
while_branches-returns-in_err-first t c = let s = c.args.scope.now in let p = s.source.now in let w = world_of s in
    exit _ c.from_residual-in_err-first.ensures.1 (stop _ _ (goes_on _ _ c.in_ok-guard.ensures (λ g k. c.in_err-first.ensures (λ rest. rest) g (no_branch_put s c.in_ok-room.room c.in_ok-room.ensures.items) k)))

pub while_branches-returns-in_err-branches : goal.while_branches-returns-in_err-branches
while_branches-returns-in_err-branches t c = let s = c.args.scope.now in let p = s.source.now in let w = world_of s in
    exit _ c.from_residual-in_err-branches.ensures.1 (goes_on _ _ (goes_on _ _ c.in_ok-guard.ensures (λ g k. c.in_ok-first.ensures (λ rest. rest) g (no_branch_put s c.in_ok-room.room c.in_ok-room.ensures.items) k)) (λ a h. stop _ _ (as_judged (ap (branches_more_do p w a) (sym c.deref.ensures.value)) (c.in_err-branches.ensures a h))))

pub while_branches-returns : goal.while_branches-returns
while_branches-returns t c = let s = c.args.scope.now in let p = s.source.now in let w = world_of s in
    goes_on _ _ (goes_on _ _ c.in_ok-guard.ensures (λ g k. c.in_ok-first.ensures (λ rest. rest) g (no_branch_put s c.in_ok-room.room c.in_ok-room.ensures.items) k)) (λ a h. goes_on _ _ (as_judged (ap (branches_more_do p w a) (sym c.deref.ensures.value)) (c.in_ok-branches.ensures a h)) (λ bs k. record { by = c.while_statement.ensures (table_of s) (texts_of s) ∙ ap I.While k }))

pub guarded_branch-returns-in_err-done : goal.guarded_branch-returns-in_err-done
guarded_branch-returns-in_err-done t c = let s = c.args.scope.now in let p = s.source.now in let w = world_of s in
    λ a g h k. exit _ c.from_residual.ensures.1 (stop _ _ c.in_err-done.ensures)

pub guarded_branch-returns : goal.guarded_branch-returns
guarded_branch-returns t c = let s = c.args.scope.now in let p = s.source.now in let w = world_of s in
    λ a g h k. goes_on _ _ c.in_ok-done.ensures (λ b l. record { by = branch_put s c.in_ok-all.all c.args.so_far a c.args.guard g c.in_ok-done.done b h k l c.in_ok-all.ensures })

pub elsif-returns-in_err-guard : goal.elsif-returns-in_err-guard
elsif-returns-in_err-guard t c = let s = c.args.scope.now in let p = s.source.now in let w = world_of s in
    λ a h. exit _ c.from_residual.ensures.1 (stop _ _ c.in_err-guard.ensures)

pub elsif-returns : goal.elsif-returns
elsif-returns t c = let s = c.args.scope.now in let p = s.source.now in let w = world_of s in
    λ a h. goes_on _ _ c.in_ok-guard.ensures (λ g k. c.guarded_branch.ensures a g h k)

pub elsif_do-returns-in_err-guard : goal.elsif_do-returns-in_err-guard
elsif_do-returns-in_err-guard t c = let s = c.args.scope.now in let p = s.source.now in let w = world_of s in
    λ a h. exit _ c.from_residual.ensures.1 (stop _ _ c.in_err-guard.ensures)

pub elsif_do-returns : goal.elsif_do-returns
elsif_do-returns t c = let s = c.args.scope.now in let p = s.source.now in let w = world_of s in
    λ a h. goes_on _ _ c.in_ok-guard.ensures (λ g k. c.guarded_branch.ensures a g h k)

pub otherwise-returns-in-Some : goal.otherwise-returns-in-Some
otherwise-returns-in-Some t c = let s = c.args.scope.now in let p = s.source.now in let w = world_of s in
    as_judged (ap (λ o. else_part p w (plain_maybe_else o)) c.in-Some.is ∙ ap (else_part p w) (else_parts c.in-Some.inner)) c.statements.ensures

pub repeat-returns-in_err-guard : goal.repeat-returns-in_err-guard
repeat-returns-in_err-guard t c = let s = c.args.scope.now in let p = s.source.now in let w = world_of s in
    exit _ c.from_residual-in_err-guard.ensures.1 (goes_on _ _ c.in_ok-body.ensures (λ b k. stop _ _ c.in_err-guard.ensures))

pub repeat-returns : goal.repeat-returns
repeat-returns t c = let s = c.args.scope.now in let p = s.source.now in let w = world_of s in
    goes_on _ _ c.in_ok-body.ensures (λ b k. goes_on _ _ c.in_ok-guard.ensures (λ g l. record { by = c.repeat_statement.ensures (table_of s) (texts_of s) ∙ ap₂ I.Repeat k l }))

pub for_loop-returns-in_err-body : goal.for_loop-returns-in_err-body
for_loop-returns-in_err-body t c = let s = c.args.scope.now in let p = s.source.now in let w = world_of s in
    exit _ c.from_residual-in_err-body.ensures.1 (goes_on _ _ c.in_ok-head.ensures (λ h k. stop _ _ c.in_err-body.ensures))

pub for_loop-returns : goal.for_loop-returns
for_loop-returns t c = let s = c.args.scope.now in
    let f : SFits w64 c.in_ok-head.head.step = search rules in
    goes_on _ _ c.in_ok-head.ensures (λ h k. goes_on _ _ c.in_ok-body.ensures (λ b l. record { by = for_made s c.in_ok-made.made c.in_ok-head.head h c.in_ok-body.body b (to_z w64 (of_z w64 c.in_ok-head.head.step)) (to_z-of_z w64 c.in_ok-head.head.step f) k l c.in_ok-made.ensures }))

pub for_loop-returns-in_err-head : goal.for_loop-returns-in_err-head
for_loop-returns-in_err-head t c = exit _ c.from_residual.ensures.1 (stop _ _ c.in_err-head.ensures)

pub case-returns-in-None : goal.case-returns-in-None
case-returns-in-None t c = let s = c.args.scope.now in let p = s.source.now in let w = world_of s in
    goes_on _ _ c.in_ok-x.ensures (λ o h. missing_so 31 _ _ (sym (c.in-None.ensures ∙ (ap (selector_of (case_variable (named_alone p w (bare (plain_expression (out-CaseStat c.args.tree.now).selector))))) h.shape))) (c.fault.ensures ∙ ap (λ n. Fault 31 (place p n)) c.expression_first.ensures))

pub case-returns-in_err-first-in-Some : goal.case-returns-in_err-first-in-Some
case-returns-in_err-first-in-Some t c = let s = c.args.scope.now in let p = s.source.now in let w = world_of s in
    exit _ c.from_residual-in_err-first-in-Some.ensures.1 (goes_on _ _ c.in_ok-x.ensures (λ o h. there 31 _ _ (sym (c.in-Some.ensures ∙ (ap (selector_of (case_variable (named_alone p w (bare (plain_expression (out-CaseStat c.args.tree.now).selector))))) h.shape))) (stop _ _ (c.in_err-first-in-Some.ensures (selecting_meant (table_of s) c.in-Some.on) ((λ rest. rest), []) (c.no_parts.ensures s)))))

pub case-returns-in_err-all-in-Some : goal.case-returns-in_err-all-in-Some
case-returns-in_err-all-in-Some t c = let s = c.args.scope.now in let p = s.source.now in let w = world_of s in
    exit _ c.from_residual-in_err-all-in-Some.ensures.1 (goes_on _ _ c.in_ok-x.ensures (λ o h. there 31 _ _ (sym (c.in-Some.ensures ∙ (ap (selector_of (case_variable (named_alone p w (bare (plain_expression (out-CaseStat c.args.tree.now).selector))))) h.shape))) (goes_on _ _ (c.in_ok-first-in-Some.ensures (selecting_meant (table_of s) c.in-Some.on) ((λ rest. rest), []) (c.no_parts.ensures s)) (λ b m. stop _ _ (as_judged (ap (part_more p w (selecting_meant (table_of s) c.in-Some.on) b) (sym c.deref.ensures.value)) (c.in_err-all-in-Some.ensures (selecting_meant (table_of s) c.in-Some.on) b m))))))

pub case-returns-in_ok-all-in-Some : goal.case-returns-in_ok-all-in-Some
case-returns-in_ok-all-in-Some t c = let s = c.args.scope.now in let p = s.source.now in let w = world_of s in
    goes_on _ _ c.in_ok-x.ensures (λ o h. there 31 _ _ (sym (c.in-Some.ensures ∙ (ap (selector_of (case_variable (named_alone p w (bare (plain_expression (out-CaseStat c.args.tree.now).selector))))) h.shape))) (goes_on _ _ (c.in_ok-first-in-Some.ensures (selecting_meant (table_of s) c.in-Some.on) ((λ rest. rest), []) (c.no_parts.ensures s)) (λ b m. goes_on _ _ (as_judged (ap (part_more p w (selecting_meant (table_of s) c.in-Some.on) b) (sym c.deref.ensures.value)) (c.in_ok-all-in-Some.ensures (selecting_meant (table_of s) c.in-Some.on) b m)) (λ ps n. record { by = c.case_made.ensures (selecting_meant (table_of s) c.in-Some.on) o ps h n }))))

pub case_part-returns-in-None : goal.case_part-returns-in-None
case_part-returns-in-None t c = let s = c.args.scope.now in let p = s.source.now in let w = world_of s in
    λ on a h. as_judged (ap (part_one p w on a) (case_parts c.args.tree.now ∙ ap plain_maybe_case c.in-None.is)) (record { by = record { selector = h.selector; parts = h.parts; taken = h.taken } })

pub case_part-returns-in-Values : goal.case_part-returns-in-Values
case_part-returns-in-Values t c = let s = c.args.scope.now in let p = s.source.now in let w = world_of s in
    λ on a h. as_judged (ap (part_one p w on a) (case_parts c.args.tree.now ∙ ap plain_maybe_case c.in-Some.is ∙ case_part_parts c.in-Some.inner.value) ∙ ap (filled p w on a) (sym c.deref.ensures)) (c.value_part.ensures on a (subst (λ z. ArePutParts s on z a) c.in-Values.is h))

pub case_part-returns-in-Types : goal.case_part-returns-in-Types
case_part-returns-in-Types t c = let s = c.args.scope.now in let p = s.source.now in let w = world_of s in
    λ on a h. as_judged (ap (part_one p w on a) (case_parts c.args.tree.now ∙ ap plain_maybe_case c.in-Some.is ∙ case_part_parts c.in-Some.inner.value) ∙ ap (filled p w on a) (sym c.deref-in-Types.ensures)) (c.type_part.ensures on a (subst (λ z. ArePutParts s on z a) c.in-Types.is h))

pub value_part-returns-in_err-labelled : goal.value_part-returns-in_err-labelled
value_part-returns-in_err-labelled t c = let s = c.args.scope.now in let p = s.source.now in let w = world_of s in
    λ on a h. exit _ c.from_residual.ensures.1 (as_judged (ap (λ z. filled p w z a c.args.tree.now) (sym h.selector) ∙ value_filled_is p w c.args.of_char a c.args.tree.now) (stop _ _ (as_judged (ap (λ rs. ranges p w c.args.of_char (as_list (out-CasePart c.args.tree.now).first rs) a.1) (sym c.deref.ensures.value)) (c.in_err-labelled.ensures a.1 h.taken))))

pub value_part-returns-in_err-body : goal.value_part-returns-in_err-body
value_part-returns-in_err-body t c = let s = c.args.scope.now in let p = s.source.now in let w = world_of s in
    λ on a h. exit _ c.from_residual-in_err-body.ensures.1 (as_judged (ap (λ z. filled p w z a c.args.tree.now) (sym h.selector) ∙ value_filled_is p w c.args.of_char a c.args.tree.now) (goes_on _ _ (as_judged (ap (λ rs. ranges p w c.args.of_char (as_list (out-CasePart c.args.tree.now).first rs) a.1) (sym c.deref.ensures.value)) (c.in_ok-labelled.ensures a.1 h.taken)) (λ l k. stop _ _ c.in_err-body.ensures)))

pub value_part-returns : goal.value_part-returns
value_part-returns t c = let s = c.args.scope.now in let p = s.source.now in let w = world_of s in
    λ on a h. as_judged (ap (λ z. filled p w z a c.args.tree.now) (sym h.selector) ∙ value_filled_is p w c.args.of_char a c.args.tree.now) (goes_on _ _ (as_judged (ap (λ rs. ranges p w c.args.of_char (as_list (out-CasePart c.args.tree.now).first rs) a.1) (sym c.deref.ensures.value)) (c.in_ok-labelled.ensures a.1 h.taken)) (λ l k. goes_on _ _ c.in_ok-body.ensures (λ b m. record { by = value_put s on c.args.of_char c.args.parts c.in_ok-all.all c.args.taken c.in_ok-labelled.labelled.taken a c.in_ok-labelled.labelled.labels c.in_ok-body.body l b h k.labels k.taken m c.in_ok-all.ensures })))

pub type_part-returns-in_err-to : goal.type_part-returns-in_err-to
type_part-returns-in_err-to t c = let s = c.args.scope.now in let p = s.source.now in let w = world_of s in
    λ on a h. exit _ c.from_residual.ensures.1 (as_judged (ap (λ z. filled p w z a c.args.tree.now) (sym h.selector) ∙ type_filled_is p w (place_of c.args.variable) (type_shape (table_of s) c.args.of) a c.args.tree.now) (stop _ _ (as_judged (ap (λ rs. type_labels p w (type_shape (table_of s) c.args.of) (out-CasePart c.args.tree.now).first rs) (sym c.deref.ensures.value)) c.in_err-to.ensures)))

pub type_part-returns-in_err-body : goal.type_part-returns-in_err-body
type_part-returns-in_err-body t c = let s = c.args.scope.now in let p = s.source.now in let w = world_of s in
    λ on a h. exit _ c.from_residual-in_err-body.ensures.1 (as_judged (ap (λ z. filled p w z a c.args.tree.now) (sym h.selector) ∙ type_filled_is p w (place_of c.args.variable) (type_shape (table_of s) c.args.of) a c.args.tree.now) (goes_on _ _ (as_judged (ap (λ rs. type_labels p w (type_shape (table_of s) c.args.of) (out-CasePart c.args.tree.now).first rs) (sym c.deref.ensures.value)) c.in_ok-to.ensures) (λ shape k. stop _ _ (narrowed_answers s c.in_part-inner.result c.args.variable c.in_ok-to.to shape (plain_stats (out-CasePart c.args.tree.now).body) (Err _) c.in_part-inner.ensures.same k (ap (narrowings_before (table_of s) (strings_of s) []) (c.in_part-inner.ensures.narrowed ∙ c.as_slice.ensures.value) ∙ c.in_ok-narrowings.ensures.ok) c.in_err-body.ensures))))

pub type_part-returns : goal.type_part-returns
type_part-returns t c = let s = c.args.scope.now in let p = s.source.now in let w = world_of s in
    λ on a h. as_judged (ap (λ z. filled p w z a c.args.tree.now) (sym h.selector) ∙ type_filled_is p w (place_of c.args.variable) (type_shape (table_of s) c.args.of) a c.args.tree.now) (goes_on _ _ (as_judged (ap (λ rs. type_labels p w (type_shape (table_of s) c.args.of) (out-CasePart c.args.tree.now).first rs) (sym c.deref.ensures.value)) c.in_ok-to.ensures) (λ shape k. goes_on _ _ (narrowed_answers s c.in_part-inner.result c.args.variable c.in_ok-to.to shape (plain_stats (out-CasePart c.args.tree.now).body) (Ok _) c.in_part-inner.ensures.same k (ap (narrowings_before (table_of s) (strings_of s) []) (c.in_part-inner.ensures.narrowed ∙ c.as_slice.ensures.value) ∙ c.in_ok-narrowings.ensures.ok) c.in_ok-body.ensures) (λ b m. record { by = type_put s on c.args.variable c.args.of c.args.parts c.in_ok-all.all a c.tag_of.result _ c.in_ok-body.body b h (c.tag_of.ensures ∙ ap (tag_of w.known) k) m c.in_ok-all.ensures })))
