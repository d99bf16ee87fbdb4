use Rattle.std.proofs.Common.{◌≡◌, List, ◌∷◌, ◌+◌, ℕ, suc, Option, length, refl, sym, ap, subst, ◌∙◌, arith}
use Rattle.run_laws.specs.Turns.{Ending, Gives, give}
use Rattle.ob_types.specs.Table.{Table}
use Rattle.ob_types.specs.Layout.{cells, extends}
use Rattle.ob_types.specs.Store.{Store, Trap}
use Rattle.ob_types.specs.Expressions.{by_open, object_of, narrowed, all_guarded, load}
use Rattle.ob_types.specs.declared.tree.Selector.{Selector}
use Rattle.ob_types.specs.declared.tree.Selector.TheVariants as selector
use Rattle.eval_store.specs.Did.{Stopped}
use Rattle.eval_tasks.specs.declared.task.Act.TheVariants.{ElementOf}
use Rattle.eval_tasks.specs.Tasks.{Next, evaluates, selects, acts}
use Rattle.eval_tasks.specs.Weights.{all_selectors}
use Rattle.ob_eval.specs.Steps.{before, Went, with_handed}
use Rattle.ob_eval.proofs.Steps.{push_one}
use Rattle.ob_eval.proofs.Values.{select_stops, select_goes, index_stops, index_goes}
use Rattle.ob_eval.proofs.Falling.{falls_less}
use Rattle.ob_eval.proofs.machine.Machine.select_from.Goals as goal

-- an element

pub returns-in-Err-clause-went : goal.returns-in-Err-clause-went
returns-in-Err-clause-went c =
    let p = c.args.laid.now in
    let m = c.args.self.now in
    let ls = c.args.rest.now in
    let N : Option ℕ → Type 0 = λ n. Stopped (by_open (give c.args.handed) n m.world) c.in-Err.stop m.world.out in
    let D : Selector → Type 0 = λ l. Stopped (before p (selects p (l ∷ ls)) (with_handed c.args.handed m)) c.in-Err.stop m.world.out in
    subst D (sym c.in-Index.is) (index_stops p m c.in-Index.length c.in-Index.element c.in-Index.index ls c.args.handed c.in-Err.stop m.world.out (subst N c.known.ensures c.in-Err.ensures))

pub returns-in_ok-add-in-Some-3-clause-went : goal.returns-in_ok-add-in-Some-3-clause-went
returns-in_ok-add-in-Some-3-clause-went c =
    let p = c.args.laid.now in
    let m = c.args.self.now in
    let ls = c.args.rest.now in
    let y = c.in-Index.index in
    let el = c.in-Index.element in
    let N : Option ℕ → Type 0 = λ n. by_open (give c.args.handed) n m.world ≡ Gives c.in-Ok.array m.world in
    let E : ℕ → Next → Next = λ n. acts p (ElementOf n) in
    let V : Next → Next = λ k. evaluates p y k in
    let W : Next → Next = λ k. V (acts p (ElementOf (cells p.types el)) k) in
    let G : Next → Next = λ k. W (selects p ls k) in
    push_one p (λ k. k) c.add-in-Some.new.self c.add-in-Some-2.new.self _ V c.in_ok-add-in-Some-3.ensures.ok refl
    ∙ push_one p V c.add.new.self c.add-in-Some.new.self _ (acts p (ElementOf (cells p.types el))) c.in_ok-add-in-Some-2.ensures.ok (ap E c.in-Some.ensures)
    ∙ push_one p W c.hand.new.self c.add.new.self _ (selects p ls) c.in_ok-add-in-Some.ensures.ok refl
    ∙ ap (before p G) c.in_ok-hand-in-Some.ensures.ok
    ∙ index_goes p m c.in-Index.length el y ls c.args.handed c.in-Ok.array (subst N c.known.ensures c.in-Ok.ensures)
    ∙ ap (λ l. before p (selects p (l ∷ ls)) (with_handed c.args.handed m)) (sym c.in-Index.is)

-- a field

pub returns-in-Err-member-clause-went : goal.returns-in-Err-member-clause-went
returns-in-Err-member-clause-went c =
    let p = c.args.laid.now in
    let m = c.args.self.now in
    let ls = c.args.rest.now in
    let D : Selector → Type 0 = λ l. Stopped (before p (selects p (l ∷ ls)) (with_handed c.args.handed m)) c.in-Err-member.stop m.world.out in
    subst D (sym c.in-Field.is) (select_stops p m (selector.Field c.in-Field.«record» c.in-Field.field) ls c.args.handed c.in-Err-member.stop m.world.out c.in-Err-member.ensures)

pub returns-in-Ok-member-clause-went : goal.returns-in-Ok-member-clause-went
returns-in-Ok-member-clause-went c =
    let p = c.args.laid.now in
    let m = c.args.self.now in
    let ls = c.args.rest.now in
    let Z : Ending Store Trap (Unit {0}) → Type 0 = λ e. Went p e c.select_on.result c.select_on.new.self in
    let D : Selector → Type 0 = λ l. Went p (before p (selects p (l ∷ ls)) (with_handed c.args.handed m)) c.select_on.result c.select_on.new.self in
    subst D (sym c.in-Field.is) (subst Z (select_goes p m (selector.Field c.in-Field.«record» c.in-Field.field) ls c.args.handed c.in-Ok-member.next c.in-Ok-member.ensures) c.select_on.ensures.went)

pub returns-in-Ok-member-clause-falls : goal.returns-in-Ok-member-clause-falls
returns-in-Ok-member-clause-falls c =
    let ls = c.args.rest.now in
    let W : Selector → ℕ = λ l. all_selectors (l ∷ ls) in
    let e : all_selectors (c.args.first.now ∷ ls) ≡ 1 + all_selectors ls = ap W c.in-Field.is in
    falls_less (suc (all_selectors ls)) (all_selectors (c.args.first.now ∷ ls)) c.args.self.now c.select_on.new.self c.select_on.result (omega (arith, e)) c.select_on.ensures.falls

-- an object

pub returns-in-Err-dereferenced-clause-went : goal.returns-in-Err-dereferenced-clause-went
returns-in-Err-dereferenced-clause-went c =
    let p = c.args.laid.now in
    let m = c.args.self.now in
    let ls = c.args.rest.now in
    let G : List ℕ → Type 0 = λ rs. Stopped (object_of m.active.procedure (all_guarded m.active.procedure (extends p.types) (load (give c.args.handed)) rs) m.world) c.in-Err-dereferenced.stop m.world.out in
    let D : Selector → Type 0 = λ l. Stopped (before p (selects p (l ∷ ls)) (with_handed c.args.handed m)) c.in-Err-dereferenced.stop m.world.out in
    subst D (sym c.in-Dereference.is) (select_stops p m (selector.Dereference c.in-Dereference.guards) ls c.args.handed c.in-Err-dereferenced.stop m.world.out (subst G c.as_slice.ensures c.in-Err-dereferenced.ensures))

pub returns-in-Ok-dereferenced-clause-went : goal.returns-in-Ok-dereferenced-clause-went
returns-in-Ok-dereferenced-clause-went c =
    let p = c.args.laid.now in
    let m = c.args.self.now in
    let ls = c.args.rest.now in
    let G : List ℕ → Type 0 = λ rs. object_of m.active.procedure (all_guarded m.active.procedure (extends p.types) (load (give c.args.handed)) rs) m.world ≡ Gives c.in-Ok-dereferenced.next m.world in
    let Z : Ending Store Trap (Unit {0}) → Type 0 = λ e. Went p e c.select_on-in-Ok-dereferenced.result c.select_on-in-Ok-dereferenced.new.self in
    let D : Selector → Type 0 = λ l. Went p (before p (selects p (l ∷ ls)) (with_handed c.args.handed m)) c.select_on-in-Ok-dereferenced.result c.select_on-in-Ok-dereferenced.new.self in
    subst D (sym c.in-Dereference.is) (subst Z (select_goes p m (selector.Dereference c.in-Dereference.guards) ls c.args.handed c.in-Ok-dereferenced.next (subst G c.as_slice.ensures c.in-Ok-dereferenced.ensures)) c.select_on-in-Ok-dereferenced.ensures.went)

pub returns-in-Ok-dereferenced-clause-falls : goal.returns-in-Ok-dereferenced-clause-falls
returns-in-Ok-dereferenced-clause-falls c =
    let ls = c.args.rest.now in
    let W : Selector → ℕ = λ l. all_selectors (l ∷ ls) in
    let e : all_selectors (c.args.first.now ∷ ls) ≡ (4 + length c.in-Dereference.guards) + all_selectors ls = ap W c.in-Dereference.is in
    falls_less (suc (all_selectors ls)) (all_selectors (c.args.first.now ∷ ls)) c.args.self.now c.select_on-in-Ok-dereferenced.new.self c.select_on-in-Ok-dereferenced.result (omega (arith, e)) c.select_on-in-Ok-dereferenced.ensures.falls

-- a guard

pub returns-in-Err-narrowed-clause-went : goal.returns-in-Err-narrowed-clause-went
returns-in-Err-narrowed-clause-went c =
    let p = c.args.laid.now in
    let m = c.args.self.now in
    let ls = c.args.rest.now in
    let T : Table → Type 0 = λ t. Stopped (narrowed m.active.procedure (extends t) (give c.args.handed) c.in-Narrow.r m.world) c.in-Err-narrowed.stop m.world.out in
    let D : Selector → Type 0 = λ l. Stopped (before p (selects p (l ∷ ls)) (with_handed c.args.handed m)) c.in-Err-narrowed.stop m.world.out in
    subst D (sym c.in-Narrow.is) (select_stops p m (selector.Narrow c.in-Narrow.r) ls c.args.handed c.in-Err-narrowed.stop m.world.out (subst T c.types.ensures c.in-Err-narrowed.ensures))

pub returns-in-Ok-narrowed-clause-went : goal.returns-in-Ok-narrowed-clause-went
returns-in-Ok-narrowed-clause-went c =
    let p = c.args.laid.now in
    let m = c.args.self.now in
    let ls = c.args.rest.now in
    let T : Table → Type 0 = λ t. narrowed m.active.procedure (extends t) (give c.args.handed) c.in-Narrow.r m.world ≡ Gives c.in-Ok-narrowed.next m.world in
    let Z : Ending Store Trap (Unit {0}) → Type 0 = λ e. Went p e c.select_on-in-Ok-narrowed.result c.select_on-in-Ok-narrowed.new.self in
    let D : Selector → Type 0 = λ l. Went p (before p (selects p (l ∷ ls)) (with_handed c.args.handed m)) c.select_on-in-Ok-narrowed.result c.select_on-in-Ok-narrowed.new.self in
    subst D (sym c.in-Narrow.is) (subst Z (select_goes p m (selector.Narrow c.in-Narrow.r) ls c.args.handed c.in-Ok-narrowed.next (subst T c.types.ensures c.in-Ok-narrowed.ensures)) c.select_on-in-Ok-narrowed.ensures.went)

pub returns-in-Ok-narrowed-clause-falls : goal.returns-in-Ok-narrowed-clause-falls
returns-in-Ok-narrowed-clause-falls c =
    let ls = c.args.rest.now in
    let W : Selector → ℕ = λ l. all_selectors (l ∷ ls) in
    let e : all_selectors (c.args.first.now ∷ ls) ≡ 1 + all_selectors ls = ap W c.in-Narrow.is in
    falls_less (suc (all_selectors ls)) (all_selectors (c.args.first.now ∷ ls)) c.args.self.now c.select_on-in-Ok-narrowed.new.self c.select_on-in-Ok-narrowed.result (omega (arith, e)) c.select_on-in-Ok-narrowed.ensures.falls
