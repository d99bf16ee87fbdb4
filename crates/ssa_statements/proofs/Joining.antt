-- Where lowering stands behind joins, and steps one after the other.
use Rattle.std.proofs.Common.{◌≡◌, ℕ, zero, suc, List, [], ◌∷◌, cond, length, Option, Some, None, refl, sym, ap, ◌∙◌, subst, arith}
use Rattle.std.specs.Prelude.{slice_set}
use Rattle.block_runs.specs.declared.end.End.{End}
use Rattle.ssa_lowered.specs.Pieces.{Cursor, Low, give, ◌>>=◌, Mask, rest, merged, beyond, picked}
use Rattle.ssa_lowered.specs.Statements.{Deed}
use Rattle.ssa_exprs.specs.declared.making.Undo.{Undo}
use Rattle.ssa_exprs.specs.Making.{View, Known, Gives, cursor_at, within, closed}
use Rattle.ssa_exprs.specs.Changes.{undone, Undoes, numbered_from, chosen, values_of, joined}
use Rattle.ssa_exprs.proofs.Giving.{follows_bind, once_on, gives_give}
use Rattle.ssa_exprs.proofs.Forks.{at_closed}
use Rattle.ssa_exprs.proofs.Changes.{undoes_on, undoes_same, undoes_numbered, picked_is, merged_is, beyond_is}
use Rattle.ssa_statements.specs.Steps.{Steps}

---- How many variables there are

length_set : (env : List ℕ) (x n : ℕ) → length (slice_set env x n) ≡ length env
length_set [] x n = refl
length_set (u ∷ env) zero n = refl
length_set (u ∷ env) (suc x) n = ap suc (length_set env x n)

length_undone : (us : List Undo) (env : List ℕ) → length (undone us env) ≡ length env
length_undone [] env = refl
length_undone (u ∷ us) env = length_set (undone us env) u.variable u.value ∙ length_undone us env

pub as_many : {k l : Known} → Undoes k l → length l.env ≡ length k.env
as_many {k = k} {l = l} x = sym (length_undone x.more l.env) ∙ ap length x.env

pub chosen_same : (mask : Mask) (i : ℕ) (xs ys : List ℕ) → length xs ≡ length ys → chosen mask i xs ≡ chosen mask i ys
chosen_same mask i [] [] e = refl
chosen_same mask i [] (y ∷ ys) e = absurd (cc)
chosen_same mask i (x ∷ xs) [] e = absurd (cc)
chosen_same mask i (x ∷ xs) (y ∷ ys) e = ap (λ l. cond (mask 0) (i ∷ l) l) (chosen_same (rest mask) (suc i) xs ys (omega (arith, e)))

-- what a jump gives, by the variables that were chosen before
pub picked_later : (mask : Mask) {k l : Known} → Undoes k l → values_of l.env (chosen mask 0 k.env) ≡ picked mask l.env
picked_later mask {k = k} {l = l} x = ap (values_of l.env) (chosen_same mask 0 k.env l.env (sym (as_many x))) ∙ picked_is mask l.env

---- Behind a join

pub joined_before : (u : View) (end : End) (xs : List ℕ) (freq : ℕ) (enter : Option ℕ) → (joined u end xs freq enter).over ≡ None → (closed u end (length xs) freq enter).over ≡ None
joined_before u end xs freq enter h = h

pub at_joined : (mask : Mask) (u : View) (k : Known) (end : End) (freq : ℕ) (enter : Option ℕ) (op : ℕ) (seen : List ℕ) → u.known ≡ k → (joined u end (chosen mask 0 k.env) freq enter).over ≡ None
    → cursor_at (joined u end (chosen mask 0 k.env) freq enter) op seen ≡ record { block = suc u.block; op = op; freq = freq; values = beyond mask u.values k.env; env = merged mask u.values k.env; seen = seen }
at_joined mask u k end freq enter op seen same h =
    let xs = chosen mask 0 k.env in
    let w = joined u end xs freq enter in
    ap (λ (c : Cursor). record c { env = w.known.env }) (at_closed u end (length xs) freq enter op seen h)
    ∙ ap (λ (n : ℕ). record (cursor_at u op seen) { block = suc u.block; freq = freq; values = n; env = w.known.env }) (sym (beyond_is mask 0 u.values k.env))
    ∙ ap (λ (e : List ℕ). record (cursor_at u op seen) { block = suc u.block; freq = freq; values = beyond mask u.values k.env; env = e })
    (ap (λ o. (within o (numbered_from u.known xs u.values) u.known).env) h ∙ ap (λ z. (numbered_from z xs u.values).env) same ∙ merged_is mask k u.values)

by_limit : (o : Option ℕ) (u : View) (xs : List ℕ) → Undoes u.known (within o (numbered_from u.known xs u.values) u.known)
by_limit None u xs = undoes_numbered u.known xs u.values
by_limit (Some n) u xs = undoes_same refl

pub undoes_joined : (u : View) (end : End) (xs : List ℕ) (freq : ℕ) (enter : Option ℕ) → Undoes u.known (joined u end xs freq enter).known
undoes_joined u end xs freq enter = by_limit (joined u end xs freq enter).over u xs

---- Steps

pub steps_of : {v w : View} {m : Deed} → Gives v w m tt → Steps v w m
steps_of g = record { follows = g.follows; once = g.once; undoes = undoes_same g.known }

pub steps_none : (v : View) → Steps v v (give tt)
steps_none v = steps_of (gives_give v tt)

pub steps_on : {u v w : View} {m n : Deed} → Steps u v m → Steps v w n → Steps u w (m >>= λ _. n)
steps_on {n = n} x y = record { follows = follows_bind (λ _ _. n) x.follows y.follows; once = once_on x.once y.once; undoes = undoes_on x.undoes y.undoes }

-- a value, and then a step
pub steps_after : {A : Type 0} {u v w : View} {m : Low A} {a : A} (f : A → Deed) → Gives u v m a → Steps v w (f a) → Steps u w (m >>= f)
steps_after f x y = record { follows = follows_bind (λ _. f) x.follows y.follows; once = once_on x.once y.once; undoes = undoes_on (undoes_same x.known) y.undoes }

pub steps_as : {v w : View} {m n : Deed} → n ≡ m → Steps v w m → Steps v w n
steps_as {v = v} {w = w} e x = subst (λ z. Steps v w z) (sym e) x

pub steps_from : {v v1 w : View} {m : Deed} → v1 ≡ v → Steps v1 w m → Steps v w m
steps_from {w = w} {m = m} e x = subst (λ z. Steps z w m) e x

pub steps_to : {v w w1 : View} {m : Deed} → w1 ≡ w → Steps v w m → Steps v w1 m
steps_to {v = v} {m = m} e x = subst (λ z. Steps v z m) (sym e) x
