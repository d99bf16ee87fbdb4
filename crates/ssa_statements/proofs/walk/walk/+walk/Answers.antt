use Rattle.std.proofs.Common.{rules, ◌≡◌, ℕ, ◌+◌, ◌||◌, drop, take, length, List, ◌∷◌, Some, None, to_z, of_z, w64, refl, sym, ap, ap₂, ◌∙◌, subst, arith}
use Rattle.std.specs.Prelude.{is_some}
use Rattle.std.proofs.lemmas.Int.{to_z-of_z}
use Rattle.std.proofs.lemmas.List.{drop_more, length-drop, length-map}
use Rattle.std.proofs.Math.Seq.{take-length}
use Rattle.std.proofs.Math.ListN.{drop_of_length-le}
use Rattle.std.proofs.lemmas.Result.{on_ok_weaker}
use Rattle.block_runs.specs.declared.end.End.TheVariants.{Jump, Trap}
use Rattle.ob_types.specs.declared.statements.CasePart.{CasePart}
use Rattle.ob_types.specs.declared.statements.TypePart.{TypePart}
use Rattle.ssa_lowered.specs.Pieces.{◌>>=◌, picked}
use Rattle.ssa_lowered.specs.Variables.{either, itself, none}
use Rattle.ssa_exprs.specs.Changes.{chosen, values_of}
use Rattle.ssa_exprs.specs.Making.{View, Known, asked, bound}
use Rattle.ssa_exprs.proofs.Chains.{tests_at}
use Rattle.ssa_exprs.proofs.Changes.{picked_is}
use Rattle.ssa_exprs.proofs.Forks.{tests_as}
use Rattle.ssa_exprs.proofs.Parts.{gives_tag_of}
use Rattle.ssa_assigned.specs.Assigned.{has, assigned_list, assigned_parts, assigned_cases, assigned_types}
use Rattle.ssa_assigned.specs.Registers.{registers_in}
use Rattle.ssa_assigned.proofs.Noting.{or_assoc, or_false}
use Rattle.ssa_statements.specs.declared.control.Frame.{Frame}
use Rattle.ssa_statements.specs.Cases.{OpensCase}
use Rattle.ssa_statements.specs.Meeting.{Jumps, Heads, FinishesAll, reached_in, advance_in}
use Rattle.ssa_statements.specs.Rungs.{rungs_in}
use Rattle.ssa_statements.specs.Steps.{Steps, Rounds, deed_in}
use Rattle.ssa_statements.proofs.Finishing.{finishes_split}
use Rattle.ssa_statements.proofs.Joining.{steps_as, steps_on, steps_from, steps_to}
use Rattle.ssa_statements.proofs.Loops.{rounds_none}
use Rattle.ssa_statements.specs.declared.walk.rungs.Dynamic.TheVariants.{Pointer, Parameter}
use Rattle.ssa_statements.specs.walk.Frames.{Takes}
use Rattle.ssa_statements.specs.walk.Joins.{AreJoined}
use Rattle.ssa_statements.specs.walk.Lists.{deeds_in, alternatives_in, rounds_in, loop_in, repeat_in, count_in, case_in, types_in, case_bodies_in, type_bodies_in}
use Rattle.ssa_statements.proofs.walk.Joined.{or_turned}
use Rattle.ssa_statements.proofs.walk.Making.{doing_more, doing_end, steps_any, steps_passed, opens_all, alternatives_step, turns_all, turning_more, headed_many, looped_all, one_round, repeated_all, takes_end, takes_next, case_all, below_cases, below_types, finishes_none}
use Rattle.ssa_statements.proofs.walk.Rows.{deed_if, deed_while, deed_repeat, steps_count, steps_case_on, steps_case_pointer, steps_case_parameter}
use Rattle.ssa_statements.proofs.walk.walk.+walk.Goals as goal

pub statements-loop-s-init : goal.statements-loop-s-init
statements-loop-s-init t c = λ p here s w d. d

pub statements-loop-s-preserved : goal.statements-loop-s-preserved
statements-loop-s-preserved t c = λ p here s w d. c.loop-s.invariant p here s w (doing_more p here c.args.list.now c.loop-s.s-index c.s-item.result c.loop-s-test.true c.s-item.is (c.in_ok-statement.ensures p here s) d)

pub statements-returns : goal.statements-returns
statements-returns t c = λ p here s. (c.loop-s.invariant p here s _ (doing_end p here c.args.list.now c.loop-s.s-index _ c.loop-s-test.false)).by

pub statement-returns-in-Assign : goal.statement-returns-in-Assign
statement-returns-in-Assign t c = on_ok_weaker c.assign.result (λ g p here s. steps_as (ap (deed_in p here) c.in-Assign.is) (g p here s)) c.assign.ensures

pub statement-returns-in-CopyArray : goal.statement-returns-in-CopyArray
statement-returns-in-CopyArray t c = on_ok_weaker c.copy_array.result (λ g p here s. steps_as (ap (deed_in p here) c.in-CopyArray.is) (g p here s)) c.copy_array.ensures

pub statement-returns-in-CopyRecord : goal.statement-returns-in-CopyRecord
statement-returns-in-CopyRecord t c = on_ok_weaker c.copy_record.result (λ g p here s. steps_as (ap (deed_in p here) c.in-CopyRecord.is) (g p here s)) c.copy_record.ensures

pub statement-returns-in-Increase : goal.statement-returns-in-Increase
statement-returns-in-Increase t c = on_ok_weaker c.step.result (λ g p here s. steps_as (ap (deed_in p here) c.in-Increase.is) (g p here s)) c.step.ensures

pub statement-returns-in-Decrease : goal.statement-returns-in-Decrease
statement-returns-in-Decrease t c = on_ok_weaker c.step-in-Decrease.result (λ g p here s. steps_as (ap (deed_in p here) c.in-Decrease.is) (g p here s)) c.step-in-Decrease.ensures

pub statement-returns-in-Include : goal.statement-returns-in-Include
statement-returns-in-Include t c = on_ok_weaker c.alter.result (λ g p here s. steps_as (ap (deed_in p here) c.in-Include.is) (g p here s)) c.alter.ensures

pub statement-returns-in-Exclude : goal.statement-returns-in-Exclude
statement-returns-in-Exclude t c = on_ok_weaker c.alter-in-Exclude.result (λ g p here s. steps_as (ap (deed_in p here) c.in-Exclude.is) (g p here s)) c.alter-in-Exclude.ensures

pub statement-returns-in-New : goal.statement-returns-in-New
statement-returns-in-New t c = on_ok_weaker c.make.result (λ g p here s. steps_as (ap (deed_in p here) c.in-New.is) (g p here s)) c.make.ensures

pub statement-returns-in-Assert : goal.statement-returns-in-Assert
statement-returns-in-Assert t c = on_ok_weaker c.assert.result (λ g p here s. steps_as (ap (deed_in p here) c.in-Assert.is) (g p here s)) c.assert.ensures

pub statement-returns-in-OutChar : goal.statement-returns-in-OutChar
statement-returns-in-OutChar t c = on_ok_weaker c.out_char.result (λ g p here s. steps_as (ap (deed_in p here) c.in-OutChar.is) (g p here s)) c.out_char.ensures

pub statement-returns-in-OutInt : goal.statement-returns-in-OutInt
statement-returns-in-OutInt t c = on_ok_weaker c.out_int.result (λ g p here s. steps_as (ap (deed_in p here) c.in-OutInt.is) (g p here s)) c.out_int.ensures

pub statement-returns-in-OutString : goal.statement-returns-in-OutString
statement-returns-in-OutString t c = on_ok_weaker c.out_string.result (λ g p here s. steps_as (ap (deed_in p here) c.in-OutString.is) (g p here s)) c.out_string.ensures

pub statement-returns-in-InChar : goal.statement-returns-in-InChar
statement-returns-in-InChar t c = on_ok_weaker c.in_char.result (λ g p here s. steps_as (ap (deed_in p here) c.in-InChar.is) (g p here s)) c.in_char.ensures

pub statement-returns-in-Call : goal.statement-returns-in-Call
statement-returns-in-Call t c = on_ok_weaker c.invoke.result (λ g p here s. steps_as (ap (deed_in p here) c.in-Call.is) (g p here s)) c.invoke.ensures

pub statement-returns-in-OutLn : goal.statement-returns-in-OutLn
statement-returns-in-OutLn t c = on_ok_weaker c.out_line.result (λ g p here s. steps_as (ap (deed_in p here) c.in-OutLn.is) (g p here)) c.out_line.ensures

pub statement-returns-then-is_some : goal.statement-returns-then-is_some
statement-returns-then-is_some t c = λ p here s. steps_passed c.args.b.now _ (sym (c.is_some.ensures ∙ ap is_some c.over.ensures) ∙ c.if-is_some.true)

pub statement-returns-in_ok-statements-in-If : goal.statement-returns-in_ok-statements-in-If
statement-returns-in_ok-statements-in-If t c = on_ok_weaker c.finish.result (λ f p here s.
    steps_as (ap (deed_in p here) c.in-If.is ∙ deed_if p here c.in-If.parts c.in-If.other ∙ ap₂ (λ l o. alternatives_in p here l o (deeds_in p here c.in-If.other.items)) (sym c.deref.ensures.value) (sym c.deref-in-If.ensures.value))
    (c.in_ok-frames-in-If.ensures p here s (deeds_in p here c.in-If.other.items) _ _ (steps_as (ap (deeds_in p here) (sym c.deref-in-If-2.ensures.value)) (c.in_ok-statements-in-If.ensures p here s)) f)) c.finish.ensures

pub statement-returns-in-While : goal.statement-returns-in-While
statement-returns-in-While t c = on_ok_weaker c.looped.result (λ g p here s. steps_as (ap (deed_in p here) c.in-While.is ∙ deed_while p here c.in-While.parts ∙ ap (loop_in p here) (sym c.deref-in-While.ensures.value)) (g p here s)) c.looped.ensures

pub statement-returns-in-Repeat : goal.statement-returns-in-Repeat
statement-returns-in-Repeat t c = on_ok_weaker c.repeated.result (λ g p here s. steps_as (ap (deed_in p here) c.in-Repeat.is ∙ deed_repeat p here c.in-Repeat.body c.in-Repeat.x ∙ ap (λ l. repeat_in p here l c.in-Repeat.x) (sym c.deref-in-Repeat.ensures.value)) (g p here s)) c.repeated.ensures

pub statement-returns-in_ok-last-in-For : goal.statement-returns-in_ok-last-in-For
statement-returns-in_ok-last-in-For t c =
    let turns = c.deref-for_loop.result.now in
    let same : to_z w64 (of_z w64 turns.step) ≡ turns.step = search (rules, to_z-of_z) in
    on_ok_weaker c.counted.result (λ g p here s. steps_as (ap (deed_in p here) c.in-For.is)
    (steps_count p here c.in-For.inner turns c.deref-for_loop.ensures (c.in_ok-assign-in-For.ensures p here s) (c.in_ok-last-in-For.ensures p here s)
    (steps_as (ap₂ (λ k l. count_in p here turns.variable k l c.in_ok-last-in-For.last) (sym same) (sym c.as_slice.ensures.value)) (g p here s)))) c.counted.ensures

pub statement-returns-in_ok-v-in-Case : goal.statement-returns-in_ok-v-in-Case
statement-returns-in_ok-v-in-Case t c = on_ok_weaker c.case.result (λ g p here s. steps_as (ap (deed_in p here) c.in-Case.is)
    (steps_case_on p here c.in-Case.x c.in-Case.parts (c.in_ok-v-in-Case.ensures p here s) (steps_as (ap (λ l. case_in p here l c.in_ok-v-in-Case.v) (sym c.deref-in-Case.ensures.value)) (g p here s)))) c.case.ensures

pub statement-returns-in_ok-v-in-CasePointer : goal.statement-returns-in_ok-v-in-CasePointer
statement-returns-in_ok-v-in-CasePointer t c = on_ok_weaker c.case_types.result (λ g p here s. steps_as (ap (deed_in p here) c.in-CasePointer.is)
    (steps_case_pointer p here c.in-CasePointer.x c.in-CasePointer.parts (c.in_ok-v-in-CasePointer.ensures p here s) (steps_as (ap (λ l. types_in p here Pointer l c.in_ok-v-in-CasePointer.v) (sym c.deref-in-CasePointer.ensures.value)) (g p here s)))) c.case_types.ensures

pub statement-returns-in_ok-v-in-CaseParameter : goal.statement-returns-in_ok-v-in-CaseParameter
statement-returns-in_ok-v-in-CaseParameter t c = on_ok_weaker c.case_types-in-CaseParameter.result (λ g p here s. steps_as (ap (deed_in p here) c.in-CaseParameter.is)
    (steps_case_parameter p here c.in-CaseParameter.d c.in-CaseParameter.parts (gives_tag_of (c.in_ok-h-in-CaseParameter.ensures p here s) c.in_ok-v-in-CaseParameter.ensures) (steps_as (ap (λ l. types_in p here Parameter l c.in_ok-v-in-CaseParameter.v) (sym c.deref-in-CaseParameter.ensures.value)) (g p here s)))) c.case_types-in-CaseParameter.ensures

pub alternatives-loop-i-init : goal.alternatives-loop-i-init
alternatives-loop-i-init t c = λ p here s. (refl, λ g w z st f. steps_to (finishes_none c.new-frames.result.items c.new-frames.ensures.items f) st)

pub alternatives-loop-i-preserved : goal.alternatives-loop-i-preserved
alternatives-loop-i-preserved t c = λ p here s.
    let all = c.args.parts.now in
    let i = c.loop-i.i in
    let part = c.index-parts-i.result in
    let other = c.args.other.now in
    let more = drop (i + 1) all in
    let lt = c.loop-i-test.true in
    let before = c.loop-i.invariant p here s in
    let opens = c.in_ok-frame.ensures.opens p here s in
    let list_is : drop i all ≡ part ∷ more = drop_more all i part lt ∙ ap (λ k. k ∷ more) (sym c.index-parts-i.is) in
    let mask = either (assigned_list part.body.items) (either (assigned_parts more) (assigned_list other)) in
    let joined_by : AreJoined p here mask c.loop-i.b c.in_ok-vars.vars.items = λ env len.
    c.in_ok-vars.ensures ∙ c.in_ok-all.ensures p here s i mask lt (λ x. ap (λ l. assigned_parts l x || assigned_list other x) list_is ∙ or_assoc (assigned_list part.body.items x) (assigned_parts more x) (assigned_list other x)) env (len ∙ before.0) in (
      ap (λ (k : Known). length k.env) opens.known ∙ before.0,
      λ g w z st f.
          let rest = finishes_split c.loop-i.frames.items c.in_ok-frame.frame w z (subst (λ l. FinishesAll l w z) c.in_ok-push.ensures.items f) in
          before.1 g rest.middle z
          (alternatives_step p here all i part other g c.in_ok-frame.frame w rest.middle c.in_ok-vars.vars.items lt c.index-parts-i.is opens c.in_ok-frame.ensures.vars joined_by st rest.first) rest.others,
    )

pub alternatives-returns-then-is_some : goal.alternatives-returns-then-is_some
alternatives-returns-then-is_some t c = λ p here s g w z st f.
    (c.loop-i.invariant p here s).1 g w z
    (steps_any g (alternatives_in p here (drop c.loop-i.i c.args.parts.now) c.args.other.now g) (sym (c.is_some.ensures ∙ ap is_some c.over.ensures) ∙ c.if-is_some.true) st) f

pub alternatives-returns : goal.alternatives-returns
alternatives-returns t c = λ p here s g w z st f.
    (c.loop-i.invariant p here s).1 g w z (subst (λ l. Steps c.loop-i.b w (alternatives_in p here l c.args.other.now g)) (sym (drop_of_length-le c.args.parts.now c.loop-i-test.false)) st) f

pub alternative-returns : goal.alternative-returns
alternative-returns t c =
    let frame : Frame = record { out = c.in_ok-out.out; vars = c.args.vars; moment = c.moment-moment.result; freq = c.freq-freq.result } in
    let two = c.in_ok-no.ensures.given ∙ ap asked c.in_ok-yes.ensures.given in
    let three = c.in_ok-out.ensures.given ∙ ap asked two in
    record {
      opens = λ p here s.
          opens_all frame c.in_ok-yes.yes c.in_ok-no.no c.freq-freq.result c.half-each.result c.freq-freq.ensures c.half-each.ensures c.moment-moment.ensures refl
          c.in_ok-yes.ensures.number (c.in_ok-no.ensures.number ∙ ap (λ (v : View). v.labels) c.in_ok-yes.ensures.given) (c.in_ok-out.ensures.number ∙ ap (λ (v : View). v.labels) two)
          (tests_at three refl refl refl (c.in_ok-cond.ensures p here s))
          (steps_from c.in_ok-bind.ensures (steps_as (ap (deeds_in p here) (sym c.deref.ensures.value)) (c.in_ok-statements.ensures p here s)))
          (subst (λ xs. Jumps c.statements.new.b c.jump.new.b c.in_ok-out.out xs c.half-each.result) c.as_slice.ensures.value c.in_ok-jump.ensures)
          (c.in_ok-bind-2.ensures ∙ ap (λ k. bound k c.in_ok-no.no) c.back.ensures);
      vars = refl;
    }

pub looped-loop-i-init : goal.looped-loop-i-init
looped-loop-i-init t c = λ p here s mask vars. (λ lt. sym c.freq-inside.ensures, refl, λ z r. r)

pub looped-loop-i-preserved : goal.looped-loop-i-preserved
looped-loop-i-preserved t c = λ p here s mask vars.
    let before = c.loop-i.invariant p here s mask vars in
    let turned = c.in_ok-turn.ensures p here s in (
      λ lt. turned.freq ∙ c.freq_behind-next.ensures.inside lt,
      turned.known ∙ before.1,
      λ z r. before.2 z
          (turning_more p here c.args.parts.now c.loop-i.i c.index-parts-i.result z mask c.in_ok-header.header c.freq-outside.result c.freq_behind-next.result c.freq-inside.result c.as_slice-in-loop-i.result.now c.loop-i-test.true c.index-parts-i.is turned
          (c.as_slice-in-loop-i.ensures.value ∙ vars ∙ ap (λ (k : Known). chosen mask 0 k.env) (sym before.1)) c.freq_behind-next.ensures.inside c.freq_behind-next.ensures.last (before.0 c.loop-i-test.true) r),
    )

pub looped-returns : goal.looped-returns
looped-returns t c = λ p here s.
    let all = c.args.parts.now in
    let mask = registers_in p here (assigned_parts all) in
    let joined_by = c.in_ok-vars.ensures p here s none (assigned_parts all) (λ x. refl) (λ x. or_false (assigned_parts all x)) in
    let xs = c.in_ok-vars.vars.items in
    let heads = subst (λ l. Heads c.args.b.now c.head.new.b c.in_ok-header.header l) c.as_slice.ensures.value c.in_ok-header.ensures in
    let before = c.loop-i.invariant p here s mask (joined_by c.head.new.b.known.env (headed_many c.in_ok-header.header xs heads)) in
    looped_all mask c.in_ok-header.header c.freq-outside.result xs (rounds_in p here all) heads (joined_by c.args.b.now.known.env refl) c.freq-outside.ensures
    (before.2 c.loop-i.b (subst (λ l. Rounds c.loop-i.b c.loop-i.b mask c.in_ok-header.header c.freq-outside.result (rounds_in p here l)) (sym (drop_of_length-le all c.loop-i-test.false)) (rounds_none c.loop-i.b mask c.in_ok-header.header c.freq-outside.result)))

pub turn-returns : goal.turn-returns
turn-returns t c = λ p here s.
    let two = c.in_ok-no.ensures.given ∙ ap asked c.in_ok-yes.ensures.given in
    turns_all c.args.header c.args.vars.now c.args.next c.in_ok-yes.yes c.in_ok-no.no c.freq-freq.result c.moment-moment.result c.freq-freq.ensures c.moment-moment.ensures
    c.in_ok-yes.ensures.number (c.in_ok-no.ensures.number ∙ ap (λ (v : View). v.labels) c.in_ok-yes.ensures.given)
    (tests_at two refl refl refl (c.in_ok-cond.ensures p here s))
    (steps_from c.in_ok-bind.ensures (steps_as (ap (deeds_in p here) (sym c.deref.ensures.value)) (c.in_ok-statements.ensures p here s)))
    c.in_ok-jump.ensures (c.in_ok-bind-2.ensures ∙ ap (λ k. bound k c.in_ok-no.no) c.back.ensures)

pub repeated-returns : goal.repeated-returns
repeated-returns t c = λ p here s.
    let two = c.in_ok-no.ensures.given ∙ ap asked c.in_ok-yes.ensures.given in
    let xs = c.in_ok-vars.vars.items in
    let heads = subst (λ l. Heads c.args.b.now c.head.new.b c.in_ok-header.header l) c.as_slice.ensures.value c.in_ok-header.ensures in
    repeated_all (registers_in p here (assigned_list c.args.body.now)) c.in_ok-header.header c.freq-outside.result c.freq-inside.result c.in_ok-yes.yes c.in_ok-no.no xs heads (c.in_ok-vars.ensures p here s none (assigned_list c.args.body.now) (λ x. refl) (λ x. or_false (assigned_list c.args.body.now x)) c.args.b.now.known.env refl)
    c.freq-outside.ensures c.freq-inside.ensures (c.in_ok-statements.ensures p here s) c.in_ok-yes.ensures.number (c.in_ok-no.ensures.number ∙ ap (λ (v : View). v.labels) c.in_ok-yes.ensures.given)
    (tests_at two refl refl refl (c.in_ok-cond.ensures p here s))
    (subst (λ v. Jumps v c.jump.new.b c.in_ok-header.header xs c.freq-outside.result) c.in_ok-bind.ensures (subst (λ l. Jumps c.bind.new.self c.jump.new.b c.in_ok-header.header l c.freq-outside.result) c.as_slice-2.ensures.value c.in_ok-jump.ensures))
    c.in_ok-bind-2.ensures

pub counted-returns : goal.counted-returns
counted-returns t c = λ p here s.
    let same = to_z-of_z w64 c.args.step c.ranges.step in
    let d = c.args.variable.now in
    let body = c.args.body.now in
    let mask = registers_in p here (either (itself d) (assigned_list body)) in
    let xs = c.in_ok-vars.vars.items in
    let joined_by = c.in_ok-vars.ensures p here s (itself d) (either (itself d) (assigned_list body))
    (λ x. ap (λ l. has l x) c.as_slice.ensures.value ∙ c.in_ok-note_whole.ensures x ∙ ap (λ l. has l x || itself d x) c.new-assigned.ensures.items) (λ x. or_turned (assigned_list body x) (itself d x)) in
    let two = c.in_ok-no.ensures.given ∙ ap asked c.in_ok-yes.ensures.given in
    let heads = subst (λ l. Heads c.args.b.now c.head.new.b c.in_ok-header.header l) c.as_slice-2.ensures.value c.in_ok-header.ensures in
    let test = tests_at two refl refl (ap (λ (v : View). v.freq) two) (tests_as (ap (reached_in p here d c.args.last) (sym same)) (c.in_ok-reached.ensures p here s)) in
    let done = steps_on (c.in_ok-statements.ensures p here s) (steps_as (ap (advance_in p here d) (sym same)) (c.in_ok-advance.ensures p here s)) in
    let turned = turns_all c.in_ok-header.header xs c.freq-outside.result c.in_ok-yes.yes c.in_ok-no.no c.head.new.b.freq c.moment-moment.result refl c.moment-moment.ensures
    c.in_ok-yes.ensures.number (c.in_ok-no.ensures.number ∙ ap (λ (v : View). v.labels) c.in_ok-yes.ensures.given) test (steps_from c.in_ok-bind.ensures done)
    (subst (λ l. Jumps c.advance.new.b c.jump.new.b c.in_ok-header.header l c.freq-outside.result) c.as_slice-3.ensures.value c.in_ok-jump.ensures) (c.in_ok-bind-2.ensures ∙ ap (λ k. bound k c.in_ok-no.no) c.back.ensures) in
    looped_all mask c.in_ok-header.header c.freq-outside.result xs _ heads (joined_by c.args.b.now.known.env refl) c.freq-outside.ensures
    (one_round mask c.in_ok-header.header c.freq-outside.result xs (record { test = reached_in p here d c.args.last c.args.step; body = deeds_in p here body >>= λ _. advance_in p here d c.args.step }) turned (joined_by c.head.new.b.known.env (headed_many c.in_ok-header.header xs heads)))

pub case-returns : goal.case-returns
case-returns t c = on_ok_weaker c.leave_parts.result (λ fin p here s.
    let all = c.args.parts.now in
    let v = c.args.b.now in
    let mask = registers_in p here (assigned_cases all) in
    let o = c.in_ok-opened.opened in
    let many = length-map all (λ x. deeds_in p here x.body.items) in
    let opens = subst (λ l. OpensCase v c.open_parts.new.b o c.in_ok-vars.vars.items (length all) (rungs_in p here c.args.v l)) (c.as_slice.ensures.value ∙ c.in_ok-tests.ensures) (c.in_ok-opened.ensures p here s) in
    let taken = subst (λ l. Takes c.open_parts.new.b c.case_parts.new.b o.frame None c.in_ok-leave.leave l 0 (case_bodies_in p here all)) c.as_slice-starts.ensures.value (c.in_ok-leave.ensures p here s) in
    case_all mask (λ out args. Trap 6) o None c.in_ok-leave.leave None (sym many) opens (c.in_ok-vars.ensures p here s v.known.env refl)
    (below_cases p here c.args.v (length (case_bodies_in p here all)) 0 all (omega (arith, many))) taken fin refl (λ h. refl)) c.leave_parts.ensures

pub case_parts-loop-i-init : goal.case_parts-loop-i-init
case_parts-loop-i-init t c = λ p here s last w d. d

pub case_parts-loop-i-preserved : goal.case_parts-loop-i-preserved
case_parts-loop-i-preserved t c = λ p here s last w d. c.loop-i.invariant p here s last w
    (takes_next (λ (x : CasePart). deeds_in p here x.body.items) c.args.parts.now c.loop-i.i c.index-parts-i.result w c.args.frame.now c.loop-i.leave last c.args.starts.now c.label_at.result c.loop-i-test.true c.index-parts-i.is c.in_ok-enter_part.ensures c.label_at.ensures
    (steps_as (ap (λ (x : CasePart). deeds_in p here x.body.items) c.index-parts-i.is ∙ ap (deeds_in p here) (sym c.deref.ensures.value)) (c.in_ok-statements.ensures p here s)) (λ h. c.in_ok-picked.ensures h ∙ ap (values_of c.statements.new.b.known.env) c.as_slice.ensures.value) d)

pub case_parts-returns : goal.case_parts-returns
case_parts-returns t c = λ p here s. c.loop-i.invariant p here s c.loop-i.leave c.loop-i.b (takes_end (λ (x : CasePart). deeds_in p here x.body.items) c.args.parts.now c.loop-i.i c.loop-i.b c.args.frame.now c.loop-i.leave c.args.starts.now c.loop-i-test.false)

pub case_types-returns : goal.case_types-returns
case_types-returns t c = on_ok_weaker c.leave_parts.result (λ fin p here s.
    let all = c.args.parts.now in
    let v = c.args.b.now in
    let mask = registers_in p here (assigned_types all) in
    let o = c.in_ok-opened.opened in
    let many = length-map all (λ x. deeds_in p here x.body.items) in
    let vars = c.in_ok-vars.ensures p here s v.known.env refl in
    let opens = subst (λ l. OpensCase v c.open_parts.new.b o c.in_ok-vars.vars.items (length all) (rungs_in p here c.args.v l)) (c.as_slice.ensures.value ∙ c.in_ok-tests.ensures) (c.in_ok-opened.ensures p here s) in
    let taken = subst (λ l. Takes c.open_parts.new.b c.type_parts.new.b o.frame (Some c.in_ok-unmatched.unmatched) c.in_ok-leave.leave l 0 (type_bodies_in p here all)) c.as_slice-starts.ensures.value (c.in_ok-leave.ensures p here s) in
    case_all mask (λ out args. Jump out args) o (Some c.in_ok-unmatched.unmatched) c.in_ok-leave.leave (Some (picked mask v.known.env)) (sym many) opens vars
    (below_types p here c.args.v c.args.kind (length (type_bodies_in p here all)) 0 all (omega (arith, many))) taken fin refl
    (λ h. ap Some (c.in_ok-unmatched.ensures h ∙ ap₂ (λ (k : Known) (l : List ℕ). values_of k.env l) opens.climbs.known (c.as_slice-2.ensures.value ∙ opens.vars ∙ vars) ∙ picked_is mask v.known.env))) c.leave_parts.ensures

pub type_parts-loop-i-init : goal.type_parts-loop-i-init
type_parts-loop-i-init t c = λ p here s last w d. d

pub type_parts-loop-i-preserved : goal.type_parts-loop-i-preserved
type_parts-loop-i-preserved t c = λ p here s last w d. c.loop-i.invariant p here s last w
    (takes_next (λ (x : TypePart). deeds_in p here x.body.items) c.args.parts.now c.loop-i.i c.index-parts-i.result w c.args.frame.now c.loop-i.leave last c.args.starts.now c.label_at.result c.loop-i-test.true c.index-parts-i.is c.in_ok-enter_part.ensures c.label_at.ensures
    (steps_as (ap (λ (x : TypePart). deeds_in p here x.body.items) c.index-parts-i.is ∙ ap (deeds_in p here) (sym c.deref.ensures.value)) (c.in_ok-statements.ensures p here s)) (λ h. c.in_ok-picked.ensures h ∙ ap (values_of c.statements.new.b.known.env) c.as_slice.ensures.value) d)

pub type_parts-returns : goal.type_parts-returns
type_parts-returns t c = λ p here s. c.loop-i.invariant p here s c.loop-i.leave c.loop-i.b (takes_end (λ (x : TypePart). deeds_in p here x.body.items) c.args.parts.now c.loop-i.i c.loop-i.b c.args.frame.now c.loop-i.leave c.args.starts.now c.loop-i-test.false)
