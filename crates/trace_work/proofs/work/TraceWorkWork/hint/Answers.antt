use Rattle.std.proofs.Common.{◌≡◌, ◌<◌, ℕ, Some, None, Option, length, sym, ap, ◌∙◌, arith}
use Rattle.std.proofs.lemmas.Option.{slice_get_within}
use mathlib.Core.Option.{some}
use Rattle.std.specs.Prelude.{slice_get}
use Rattle.linear_scan.specs.Linear.{Hint}
use Rattle.trace_work.specs.Finals.{plain_hint}
use Rattle.trace_work.specs.Lent.{hints}
use Rattle.trace_work.proofs.Entered.{above_within, entry_is, entry_of_plan, entry_there, flow_known, parent_at, plan_is}
use Rattle.trace_work.proofs.Ready.{hint_of_child}
use Rattle.trace_work.proofs.work.TraceWorkWork.hint.Goals as goal

abbrev row_length : Option Hint → ℕ
row_length None = 0
row_length (Some h) = length h.places.regs

pub index-entry-requires : goal.index-entry-requires
index-entry-requires c =
    let w = c.args.self.now in
    let e = entry_there w.entries.items c.args.child (Some c.requires.0) c.requires.1 in
    omega (arith, slice_get_within w.entries.items c.args.child e.0 e.1, w.entries.ok)

pub returns-in_default : goal.returns-in_default
returns-in_default c =
    let w = c.args.self.now in
    let x = entry_there w.entries.items c.args.child (Some c.requires.0) c.requires.1 in
    let lt = slice_get_within w.entries.items c.args.child x.0 x.1 in
    let there = entry_is w.plans.items w.entries.items w.entered c.args.child c.index-entry.result.now c.index-entry.ensures lt in
    let z : some c.index-entry.result.now.parent ≡ some (Some c.requires.0) = sym (parent_at w.entries.items c.args.child c.index-entry.result.now there) ∙ c.requires.1 in
    let n = c.in_default.is in
    absurd (let y : None ≡ Some c.requires.0 = sym n ∙ (let q : c.index-entry.result.now.parent ≡ Some c.requires.0 = cc in q) in cc)

pub overflow_cast-parent : goal.overflow_cast-parent
overflow_cast-parent c =
    let w = c.args.self.now in
    let x = entry_there w.entries.items c.args.child (Some c.requires.0) c.requires.1 in
    let lt = slice_get_within w.entries.items c.args.child x.0 x.1 in
    let there = entry_is w.plans.items w.entries.items w.entered c.args.child c.index-entry.result.now c.index-entry.ensures lt in
    let z : some (Some c.in-Some.parent) ≡ some (Some c.requires.0) = ap some (sym c.in-Some.is) ∙ sym (parent_at w.entries.items c.args.child c.index-entry.result.now there) ∙ c.requires.1 in
    let q : c.in-Some.parent ≡ c.requires.0 = cc in
    omega (arith, q, w.tree c.args.child c.requires.0 c.requires.1, lt, w.small)

pub index-requires : goal.index-requires
index-requires c =
    let w = c.args.self.now in
    let x = entry_there w.entries.items c.args.child (Some c.requires.0) c.requires.1 in
    let lt = slice_get_within w.entries.items c.args.child x.0 x.1 in
    let there = entry_is w.plans.items w.entries.items w.entered c.args.child c.index-entry.result.now c.index-entry.ensures lt in
    let z : some (Some c.in-Some.parent) ≡ some (Some c.requires.0) = ap some (sym c.in-Some.is) ∙ sym (parent_at w.entries.items c.args.child c.index-entry.result.now there) ∙ c.requires.1 in
    let q : c.in-Some.parent ≡ c.requires.0 = cc in
    omega (arith, q, w.tree c.args.child c.requires.0 c.requires.1, lt, w.entries.ok)

pub index-plan-requires : goal.index-plan-requires
index-plan-requires c =
    let w = c.args.self.now in
    let x = entry_there w.entries.items c.args.child (Some c.requires.0) c.requires.1 in
    let lt = slice_get_within w.entries.items c.args.child x.0 x.1 in
    omega (arith, flow_known w.plans.items w.entries.items w.entered c.args.child c.index-entry.result.now c.index-entry.ensures lt, w.plans.ok)

pub taken_hint-requires-clause-above : goal.taken_hint-requires-clause-above
taken_hint-requires-clause-above c =
    let w = c.args.self.now in
    let x = entry_there w.entries.items c.args.child (Some c.requires.0) c.requires.1 in
    let lt = slice_get_within w.entries.items c.args.child x.0 x.1 in
    let there = entry_is w.plans.items w.entries.items w.entered c.args.child c.index-entry.result.now c.index-entry.ensures lt in
    let of = plan_is w.plans.items w.entries.items w.entered c.args.child c.index-entry.result.now c.index-entry.ensures lt c.index-plan.result.now c.index-plan.ensures in
    let z : some (Some c.in-Some.parent) ≡ some (Some c.requires.0) = ap some (sym c.in-Some.is) ∙ sym (parent_at w.entries.items c.args.child c.index-entry.result.now there) ∙ c.requires.1 in
    let q : c.in-Some.parent ≡ c.requires.0 = cc in
    let over : c.in-Some.parent < length w.entries.items = let l = w.tree c.args.child c.requires.0 c.requires.1 in omega (arith, q, l, lt) in
    above_within w.plans.items w.entries.items c.args.child c.requires.0 w.entered c.requires.1 c.index-entry.result.now c.index-plan.result.now there of c.index.result.now
    (ap (slice_get w.entries.items) (sym q) ∙ entry_is w.plans.items w.entries.items w.entered c.in-Some.parent c.index.result.now c.index.ensures over)

pub taken_hint-requires-clause-below : goal.taken_hint-requires-clause-below
taken_hint-requires-clause-below c =
    let w = c.args.self.now in
    let x = entry_there w.entries.items c.args.child (Some c.requires.0) c.requires.1 in
    let lt = slice_get_within w.entries.items c.args.child x.0 x.1 in
    (entry_of_plan w.plans.items w.entries.items w.entered c.args.child c.index-entry.result.now c.index-entry.ensures lt c.index-plan.result.now c.index-plan.ensures).within

pub returns-in_ok-copied-in-Some-taken_hint : goal.returns-in_ok-copied-in-Some-taken_hint
returns-in_ok-copied-in-Some-taken_hint c =
    let w = c.args.self.now in
    let x = entry_there w.entries.items c.args.child (Some c.requires.0) c.requires.1 in
    let lt = slice_get_within w.entries.items c.args.child x.0 x.1 in
    let there = entry_is w.plans.items w.entries.items w.entered c.args.child c.index-entry.result.now c.index-entry.ensures lt in
    let of = plan_is w.plans.items w.entries.items w.entered c.args.child c.index-entry.result.now c.index-entry.ensures lt c.index-plan.result.now c.index-plan.ensures in
    let z : some (Some c.in-Some.parent) ≡ some (Some c.requires.0) = ap some (sym c.in-Some.is) ∙ sym (parent_at w.entries.items c.args.child c.index-entry.result.now there) ∙ c.requires.1 in
    let q : c.in-Some.parent ≡ c.requires.0 = cc in
    let over : c.in-Some.parent < length w.entries.items = let l = w.tree c.args.child c.requires.0 c.requires.1 in omega (arith, q, l, lt) in
    let copy : plain_hint (Some c.in_ok-copied-in-Some-taken_hint.field-0) ≡ hints (Some c.in-Some-taken_hint.hint) = c.in_ok-copied-in-Some-taken_hint.ensures in (
      ap row_length copy ∙ c.in-Some-taken_hint.ensures.row,
      hint_of_child w.choice w.fit w.plans.items w.entries.items w.entered c.args.child c.requires.0 c.args.done.now c.requires.1 c.requires.2 c.index-entry.result.now c.index-plan.result.now there of c.index.result.now
          (ap (slice_get w.entries.items) (sym q) ∙ entry_is w.plans.items w.entries.items w.entered c.in-Some.parent c.index.result.now c.index.ensures over)
          (plain_hint (Some c.in_ok-copied-in-Some-taken_hint.field-0)) (copy ∙ c.in-Some-taken_hint.ensures.hint),
    )

pub returns-in-None : goal.returns-in-None
returns-in-None c =
    let w = c.args.self.now in
    let x = entry_there w.entries.items c.args.child (Some c.requires.0) c.requires.1 in
    let lt = slice_get_within w.entries.items c.args.child x.0 x.1 in
    let there = entry_is w.plans.items w.entries.items w.entered c.args.child c.index-entry.result.now c.index-entry.ensures lt in
    let of = plan_is w.plans.items w.entries.items w.entered c.args.child c.index-entry.result.now c.index-entry.ensures lt c.index-plan.result.now c.index-plan.ensures in
    let z : some (Some c.in-Some.parent) ≡ some (Some c.requires.0) = ap some (sym c.in-Some.is) ∙ sym (parent_at w.entries.items c.args.child c.index-entry.result.now there) ∙ c.requires.1 in
    let q : c.in-Some.parent ≡ c.requires.0 = cc in
    let over : c.in-Some.parent < length w.entries.items = let l = w.tree c.args.child c.requires.0 c.requires.1 in omega (arith, q, l, lt) in (
      tt,
      hint_of_child w.choice w.fit w.plans.items w.entries.items w.entered c.args.child c.requires.0 c.args.done.now c.requires.1 c.requires.2 c.index-entry.result.now c.index-plan.result.now there of c.index.result.now
          (ap (slice_get w.entries.items) (sym q) ∙ entry_is w.plans.items w.entries.items w.entered c.in-Some.parent c.index.result.now c.index.ensures over)
          None c.in-None.ensures.hint,
    )
