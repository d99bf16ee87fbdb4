use Rattle.std.proofs.Common.{◌≡◌, ℕ, List, ◌+◌, drop, sym, ap, subst, ◌∙◌}
use Rattle.run_laws.specs.Turns.{Ending, Gives, after, give}
use Rattle.ob_types.specs.Store.{Store, Trap, Cell, Handed}
use Rattle.ob_types.specs.Meaning.{value, designated, base_of, select, at_most}
use Rattle.ob_types.specs.Table.{Table}
use Rattle.ob_types.specs.Layout.{extends}
use Rattle.ob_types.specs.Expressions.{load, all_guarded, object_of}
use Rattle.ob_types.specs.declared.tree.Expr.{Expr, Chain}
use Rattle.ob_types.specs.declared.tree.Designator.{Designator, Part}
use Rattle.ob_types.specs.declared.tree.Access.{Access}
use Rattle.ob_types.specs.declared.tree.Link.{Link}
use Rattle.ob_types.specs.declared.tree.Selector.{Selector}
use Rattle.eval_store.specs.Did.{Stopped, AtOnce}
use Rattle.eval_at_once.specs.Here.{here_of}
use Rattle.eval_at_once.specs.Lists.{linked_by, selected_by}
use Rattle.eval_at_once.proofs.Going.{at_item, no_item, stops_first, linked_more, linked_stops, selected_more, selected_stops, guards_on, guards_stop, none_there, no_number_link, chain_is, part_is}
use Rattle.eval_at_once.proofs.values.+at_once.Goals as goal

pub linked-returns-in-Err : goal.linked-returns-in-Err
linked-returns-in-Err t c =
    let p = c.args.laid.now in
    let x = c.args.active.now in
    let s = c.args.world.now in
    let ls = c.args.links.now in
    let i = c.loop-l.l-index in
    let l = c.l-item.result in
    let B : List Link → Ending Store Trap Cell = λ k. linked_by p (at_most p x.fuel) (here_of x) k (give c.loop-l.c) s in
    let P : Ending Store Trap Cell → Type 0 = λ e. Stopped e c.in-Err.stop s.out in
    subst P (sym (c.loop-l.invariant ∙ ap B (at_item ls i l c.loop-l-test.true c.l-item.is))) (linked_stops p (at_most p x.fuel) (here_of x) l (drop (i + 1) ls) c.loop-l.c s c.in-Err.stop s.out c.in-Err.ensures)

pub linked-loop-l-preserved : goal.linked-loop-l-preserved
linked-loop-l-preserved t c =
    let p = c.args.laid.now in
    let x = c.args.active.now in
    let s = c.args.world.now in
    let ls = c.args.links.now in
    let i = c.loop-l.l-index in
    let l = c.l-item.result in
    let B : List Link → Ending Store Trap Cell = λ k. linked_by p (at_most p x.fuel) (here_of x) k (give c.loop-l.c) s in
    let known = rw c.in-Ok-Some.field-0-is at c.in-Ok-Some.ensures in
    c.loop-l.invariant ∙ ap B (at_item ls i l c.loop-l-test.true c.l-item.is) ∙ linked_more p (at_most p x.fuel) (here_of x) l (drop (i + 1) ls) c.loop-l.c c.in-Ok-Some.d s known

pub linked-returns : goal.linked-returns
linked-returns t c =
    let p = c.args.laid.now in
    let x = c.args.active.now in
    let s = c.args.world.now in
    let B : List Link → Ending Store Trap Cell = λ k. linked_by p (at_most p x.fuel) (here_of x) k (give c.loop-l.c) s in
    c.loop-l.invariant ∙ ap B (no_item c.args.links.now c.loop-l.l-index c.loop-l-test.false)

pub selected-returns-in-Err : goal.selected-returns-in-Err
selected-returns-in-Err t c =
    let p = c.args.laid.now in
    let x = c.args.active.now in
    let s = c.args.world.now in
    let ls = c.args.selectors.now in
    let i = c.loop-s.s-index in
    let l = c.s-item.result in
    let B : List Selector → Ending Store Trap Handed = λ k. selected_by p (at_most p x.fuel) (here_of x) k (give c.loop-s.handed) s in
    let P : Ending Store Trap Handed → Type 0 = λ e. Stopped e c.in-Err.stop s.out in
    subst P (sym (c.loop-s.invariant ∙ ap B (at_item ls i l c.loop-s-test.true c.s-item.is))) (selected_stops p (at_most p x.fuel) (here_of x) l (drop (i + 1) ls) c.loop-s.handed s c.in-Err.stop s.out c.in-Err.ensures)

pub selected-loop-s-preserved : goal.selected-loop-s-preserved
selected-loop-s-preserved t c =
    let p = c.args.laid.now in
    let x = c.args.active.now in
    let s = c.args.world.now in
    let ls = c.args.selectors.now in
    let i = c.loop-s.s-index in
    let l = c.s-item.result in
    let B : List Selector → Ending Store Trap Handed = λ k. selected_by p (at_most p x.fuel) (here_of x) k (give c.loop-s.handed) s in
    let known = rw c.in-Ok-Some.field-0-is at c.in-Ok-Some.ensures in
    c.loop-s.invariant ∙ ap B (at_item ls i l c.loop-s-test.true c.s-item.is) ∙ selected_more p (at_most p x.fuel) (here_of x) l (drop (i + 1) ls) c.loop-s.handed c.in-Ok-Some.next s known

pub selected-returns : goal.selected-returns
selected-returns t c =
    let p = c.args.laid.now in
    let x = c.args.active.now in
    let s = c.args.world.now in
    let B : List Selector → Ending Store Trap Handed = λ k. selected_by p (at_most p x.fuel) (here_of x) k (give c.loop-s.handed) s in
    c.loop-s.invariant ∙ ap B (no_item c.args.selectors.now c.loop-s.s-index c.loop-s-test.false)

pub link-returns-in_default : goal.link-returns-in_default
link-returns-in_default t c = no_number_link c.args.laid.now (at_most c.args.laid.now c.args.active.now.fuel) (here_of c.args.active.now) c.args.l.now c.args.c c.args.world.now (none_there c.number.result c.args.c c.number.ensures c.in_default.not-Some)

pub located-returns-in-Err-base : goal.located-returns-in-Err-base
located-returns-in-Err-base t c =
    let p = c.args.laid.now in
    let x = c.args.active.now in
    let s = c.args.world.now in
    let a = c.in-Part.access in
    let D : Designator → Ending Store Trap Handed = λ d. designated p (at_most p x.fuel) (here_of x) d s in
    let P : Ending Store Trap Handed → Type 0 = λ e. Stopped e c.in-Err-base.stop s.out in
    let B : Access → Type 0 = λ k. Stopped (base_of p (at_most p x.fuel) (here_of x) k.base s) c.in-Err-base.stop s.out in
    subst P (sym (ap D c.in-Part.is)) (stops_first (base_of p (at_most p x.fuel) (here_of x) a.value.base s) (λ h. selected_by p (at_most p x.fuel) (here_of x) a.value.selectors.items (give h)) (D (Part a)) c.in-Err-base.stop s.out (part_is p (at_most p x.fuel) (here_of x) a s) (subst B c.deref.ensures c.in-Err-base.ensures))

pub located-returns-in-Ok-base : goal.located-returns-in-Ok-base
located-returns-in-Ok-base t c =
    let p = c.args.laid.now in
    let x = c.args.active.now in
    let s = c.args.world.now in
    let a = c.in-Part.access in
    let h = c.in-Ok-base.handed in
    let D : Designator → Ending Store Trap Handed = λ d. designated p (at_most p x.fuel) (here_of x) d s in
    let P : Ending Store Trap Handed → Type 0 = λ e. AtOnce e c.selected.result s in
    let B : Access → Type 0 = λ k. base_of p (at_most p x.fuel) (here_of x) k.base s ≡ Gives h s in
    let S : List Selector → Ending Store Trap Handed = λ l. selected_by p (at_most p x.fuel) (here_of x) l (give h) s in
    let F : Access → List Selector = λ k. k.selectors.items in
    let G : Ending Store Trap Handed → Ending Store Trap Handed = λ e. after e (λ h. selected_by p (at_most p x.fuel) (here_of x) a.value.selectors.items (give h)) in
    subst P (sym (ap D c.in-Part.is ∙ part_is p (at_most p x.fuel) (here_of x) a s ∙ ap G (subst B c.deref.ensures c.in-Ok-base.ensures) ∙ ap S (sym (c.as_slice.ensures.value ∙ ap F c.deref-in-Ok-base.ensures)))) c.selected.ensures

pub select-returns-in-Err-dereferenced : goal.select-returns-in-Err-dereferenced
select-returns-in-Err-dereferenced t c =
    let p = c.args.laid.now in
    let x = c.args.active.now in
    let s = c.args.world.now in
    let D : Selector → Ending Store Trap Handed = λ l. select p (at_most p x.fuel) (here_of x) l (give c.args.handed) s in
    let P : Ending Store Trap Handed → Type 0 = λ e. Stopped e c.in-Err-dereferenced.stop s.out in
    let R : List ℕ → Type 0 = λ rs. Stopped (object_of x.procedure (all_guarded x.procedure (extends p.types) (load (give c.args.handed)) rs) s) c.in-Err-dereferenced.stop s.out in
    subst P (sym (ap D c.in-Dereference.is)) (subst R c.as_slice.ensures c.in-Err-dereferenced.ensures)

pub select-returns-in-Ok-dereferenced : goal.select-returns-in-Ok-dereferenced
select-returns-in-Ok-dereferenced t c =
    let p = c.args.laid.now in
    let x = c.args.active.now in
    let s = c.args.world.now in
    let D : Selector → Ending Store Trap Handed = λ l. select p (at_most p x.fuel) (here_of x) l (give c.args.handed) s in
    let R : List ℕ → Type 0 = λ rs. object_of x.procedure (all_guarded x.procedure (extends p.types) (load (give c.args.handed)) rs) s ≡ Gives c.in-Ok-dereferenced.next s in
    ap D c.in-Dereference.is ∙ subst R c.as_slice.ensures c.in-Ok-dereferenced.ensures

pub value-returns-in-Guard : goal.value-returns-in-Guard
value-returns-in-Guard t c =
    let p = c.args.laid.now in
    let x = c.args.active.now in
    let s = c.args.world.now in
    let V : Expr → Ending Store Trap Cell = λ e. value p (at_most p x.fuel) (here_of x) e s in
    let P : Ending Store Trap Cell → Type 0 = λ e. AtOnce e c.guarded.result s in
    let Q : Designator → Type 0 = λ d. AtOnce (all_guarded x.procedure (extends p.types) (load (designated p (at_most p x.fuel) (here_of x) d)) c.in-Guard.guards s) c.guarded.result s in
    let R : List ℕ → Type 0 = λ rs. AtOnce (all_guarded x.procedure (extends p.types) (load (designated p (at_most p x.fuel) (here_of x) c.deref.result.now)) rs s) c.guarded.result s in
    subst P (sym (ap V c.in-Guard.is)) (subst Q c.deref.ensures (subst R c.as_slice.ensures c.guarded.ensures))

pub guarded-returns-in-Err : goal.guarded-returns-in-Err
guarded-returns-in-Err t c =
    let p = c.args.laid.now in
    let x = c.args.active.now in
    guards_stop x.procedure (extends p.types) (load (designated p (at_most p x.fuel) (here_of x) c.args.d.now)) c.args.guards.now c.args.world.now c.in-Err.stop c.args.world.now.out c.in-Err.ensures

pub guarded-returns-in-Err-all_guarded : goal.guarded-returns-in-Err-all_guarded
guarded-returns-in-Err-all_guarded t c =
    let p = c.args.laid.now in
    let x = c.args.active.now in
    let s = c.args.world.now in
    let P : Ending Store Trap Cell → Type 0 = λ e. Stopped e c.in-Err-all_guarded.stop s.out in
    let m = load (designated p (at_most p x.fuel) (here_of x) c.args.d.now) in
    let known = rw c.in-Ok-Some.field-0-is at c.in-Ok-Some.ensures in
    let T : Table → Type 0 = λ k. Stopped (all_guarded x.procedure (extends k) (give c.in-Ok-Some.c) c.args.guards.now s) c.in-Err-all_guarded.stop s.out in
    subst P (sym (guards_on x.procedure (extends p.types) m c.args.guards.now c.in-Ok-Some.c s known)) (subst T c.types.ensures c.in-Err-all_guarded.ensures)

pub guarded-returns-in-Ok : goal.guarded-returns-in-Ok
guarded-returns-in-Ok t c =
    let p = c.args.laid.now in
    let x = c.args.active.now in
    let s = c.args.world.now in
    let m = load (designated p (at_most p x.fuel) (here_of x) c.args.d.now) in
    let known = rw c.in-Ok-Some.field-0-is at c.in-Ok-Some.ensures in
    let T : Table → Type 0 = λ k. all_guarded x.procedure (extends k) (give c.in-Ok-Some.c) c.args.guards.now s ≡ Gives c.in-Ok.c s in
    guards_on x.procedure (extends p.types) m c.args.guards.now c.in-Ok-Some.c s known ∙ subst T c.types.ensures c.in-Ok.ensures

pub value-returns-in-Err-value : goal.value-returns-in-Err-value
value-returns-in-Err-value t c =
    let p = c.args.laid.now in
    let x = c.args.active.now in
    let s = c.args.world.now in
    let V : Expr → Ending Store Trap Cell = λ e. value p (at_most p x.fuel) (here_of x) e s in
    let P : Ending Store Trap Cell → Type 0 = λ e. Stopped e c.in-Err-value.stop s.out in
    let Q : Expr → Type 0 = λ e. Stopped (V e) c.in-Err-value.stop s.out in
    let ls = c.in-Chain.links.items in
    subst P (sym (ap V c.in-Chain.is)) (stops_first (V c.in-Chain.x.value) (λ d. linked_by p (at_most p x.fuel) (here_of x) ls (give d)) (V (Chain c.in-Chain.x c.in-Chain.links)) c.in-Err-value.stop s.out (chain_is p (at_most p x.fuel) (here_of x) c.in-Chain.x c.in-Chain.links s) (subst Q c.deref-in-Chain.ensures c.in-Err-value.ensures))

pub value-returns-in-Ok-Some-value : goal.value-returns-in-Ok-Some-value
value-returns-in-Ok-Some-value t c =
    let p = c.args.laid.now in
    let x = c.args.active.now in
    let s = c.args.world.now in
    let d = c.in-Ok-Some-value.c in
    let V : Expr → Ending Store Trap Cell = λ e. value p (at_most p x.fuel) (here_of x) e s in
    let P : Ending Store Trap Cell → Type 0 = λ e. AtOnce e c.linked.result s in
    let Q : Expr → Type 0 = λ e. V e ≡ Gives d s in
    let L : List Link → Ending Store Trap Cell = λ l. linked_by p (at_most p x.fuel) (here_of x) l (give d) s in
    let G : Ending Store Trap Cell → Ending Store Trap Cell = λ e. after e (λ d. linked_by p (at_most p x.fuel) (here_of x) c.in-Chain.links.items (give d)) in
    let known = rw c.in-Ok-Some-value.field-0-is at c.in-Ok-Some-value.ensures in
    subst P (sym (ap V c.in-Chain.is ∙ chain_is p (at_most p x.fuel) (here_of x) c.in-Chain.x c.in-Chain.links s ∙ ap G (subst Q c.deref-in-Chain.ensures known) ∙ ap L (sym c.deref-in-Ok-Some-value.ensures.value))) c.linked.ensures
