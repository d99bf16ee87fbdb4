use Rattle.std.proofs.Common.{◌≡◌, ℕ, ◌<◌, ◌||◌, ◌&&◌, Bool, true, false, drop, length, sym, refl, ap, ap₂, ◌∙◌, subst, arith}
use Rattle.std.specs.Prelude.{nat_lt, slice_index}
use Rattle.std.specs.List.{filter}
use Rattle.ssa_lowered.specs.Data.{layout}
use Rattle.ssa_lowered.specs.Lowered.{variable_of, in_register}
use Rattle.ssa_lowered.specs.Variables.{either}
use Rattle.ssa_assigned.specs.Assigned.{has, assigned_list, assigned_parts}
use Rattle.ssa_assigned.specs.Registers.{registers_in}
use Rattle.ssa_assigned.proofs.Suffixes.{chosen_kept, lasts_one}
use Rattle.ssa_statements.proofs.walk.joins.of_suffixes.Goals as goal

and_between : (r a k m : Bool) → m ≡ (a && k) → (r && m) ≡ ((r && a) && k)
and_between true a k m e = e
and_between false a k m e = refl

pub returns : goal.returns
returns c = λ p here s i mask lt e env len.
    let parts = c.args.parts.now in
    let other = c.args.other.now in
    let all = either (assigned_parts parts) (assigned_list other) in
    let many = λ (x : ℕ). slice_index c.in_ok-lasting.lasting.items x in
    let noted : (x : ℕ) → has c.note_all.new.found.items x ≡ assigned_list other x = λ x.
    c.in_ok-note_all.ensures x ∙ ap (λ l. has l x || assigned_list other x) c.new-assigned.ensures.items in
    let lasts : (k : ℕ) → k < length parts → (j : ℕ) → j < length env → nat_lt k (many j) ≡ either (assigned_parts (drop k parts)) (assigned_list other) j = λ k below j inside.
    c.in_ok-lasting.ensures j k (subst (λ n. j < n) (len ∙ sym c.variables.ensures) inside) below
    ∙ ap (λ b. assigned_parts (drop k parts) j || b) (ap (λ l. has l j) c.as_slice-2.ensures.value ∙ noted j) in
    ap (filter (λ x. nat_lt i (many x))) (c.in_ok-variables.ensures p here s (assigned_list other) all (λ x. ap (λ l. has l x) c.as_slice.ensures.value ∙ noted x) (λ x. refl) env len)
    ∙ chosen_kept (λ x. nat_lt i (many x)) env (registers_in p here mask) (registers_in p here all) (λ j inside.
    and_between (in_register p (layout p.types) here (variable_of p (layout p.types) here j).site) (all j) (nat_lt i (many j)) (mask j)
    (sym (e j) ∙ sym (lasts i lt j inside) ∙ lasts_one i (many j) ∙ ap (λ b. b && nat_lt i (many j)) (lasts 0 (omega (arith, lt)) j inside)))
