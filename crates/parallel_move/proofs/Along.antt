-- The loops that make moves.
use Rattle.std.proofs.Common.{◌≡◌, ℕ, ◌+◌, ◌<◌, ◌≤◌, Bool, true, false, ◌&&◌, cond, List, [], ◌∷◌, ◌++◌, length, Option, Some, None, refl, sym, ap, ap₂, ◌∙◌, subst, arith}
use Rattle.std.specs.Prelude.{◌==◌, nat_lt, OnOk, Result, Ok, Err}
use Rattle.std.proofs.lemmas.Bool.{eqb-true, ltb-true}
use Rattle.std.proofs.lemmas.Bool.Decides.{nat_tests}
use Rattle.std.proofs.lemmas.List.{append-nil}
use Rattle.parallel_move.specs.declared.step.Step.{Step}
use Rattle.parallel_move.specs.declared.step.Step.TheVariants.{Save}
use Rattle.parallel_move.specs.declared.entry.Entry.{Entry}
use Rattle.parallel_move.specs.Order.{step_of, ordered}
use Rattle.parallel_move.specs.Entries.{entry_at, pending_in, slot, left, is_free, free_before, made_at, saved_at, Ordering, OnlyFree, NoneFree, AllMade, StayMade, MakesAlong, Breaks}
use Rattle.parallel_move.proofs.Listed.{none_listed}
use Rattle.parallel_move.proofs.Table.{made_step, freed, stay_made, now_made, fewer_left}
use Rattle.parallel_move.proofs.Saving.{not_left, save_step, saved_only, saved_stays}

pub free_is : (es : List Entry) (bound i : ℕ) (next : Option ℕ) → Some i ≡ free_before es bound next → (next ≡ Some i) × (i < bound) × (is_free (entry_at es i) ≡ true)
free_is es bound i None e = cc
free_is es bound i (Some j) e = at_test (nat_lt j bound) refl (is_free (entry_at es j)) refl e
  where
    at_test : (a : Bool) → nat_lt j bound ≡ a → (b : Bool) → is_free (entry_at es j) ≡ b → Some i ≡ cond (a && b) (Some j) None → (Some j ≡ Some i) × (i < bound) × (is_free (entry_at es i) ≡ true)
    at_test true s true t e = let q : j ≡ i = cc in (ap Some q, subst (λ x. x < bound) q (ltb-true j bound s), ap (λ x. is_free (entry_at es x)) (sym q) ∙ t)
    at_test true s false t e = cc
    at_test false s b t e = cc

none_free : (es : List Entry) (bound : ℕ) (next : Option ℕ) → None ≡ free_before es bound next → OnlyFree es bound next → NoneFree es bound
none_free es bound next e only j lt = at_test (is_free (entry_at es j)) refl
  where
    at_test : (b : Bool) → is_free (entry_at es j) ≡ b → b ≡ false
    at_test false f = refl
    at_test true f =
        let s = only j lt f in
        let t : nat_lt j bound ≡ true = lt_test j bound lt in
        let z : None ≡ Some j = e ∙ ap (free_before es bound) s ∙ ap₂ (λ x y. cond (x && y) (Some j) None) t f in
        cc
      where
        lt_test : (j bound : ℕ) → j < bound → nat_lt j bound ≡ true
        lt_test j bound h = grind (arith, nat_tests)

pub record IsAlong (first next : Option ℕ) (bound : ℕ) (before : List Entry) (done : List Step) (es : List Entry) (steps : List Step) : Type 0 where
  pub stay : StayMade before es
  pub goes : (all : List Step) → Ordering all before done → OnlyFree before bound first → Ordering all es steps × OnlyFree es bound next

pub begin_along : (first : Option ℕ) (bound : ℕ) (es : List Entry) (steps : List Step) → IsAlong first first bound es steps es steps
begin_along first bound es steps = record { stay = (refl, λ j e. e); goes = λ all o f. (o, f) }

pub along_step : (first next : Option ℕ) (bound i : ℕ) (before es es' : List Entry) (done steps steps' : List Step) → IsAlong first next bound before done es steps → bound ≤ length before → Some i ≡ free_before es bound next → es' ≡ made_at es i → steps' ≡ steps ++ step_of (pending_in es (entry_at es i)) ∷ [] → IsAlong first (entry_at es' i).writer bound before done es' steps'
along_step first next bound i before es es' done steps steps' a few f is more =
    let n = free_is es bound i next f in
    let b = n.1 in
    let long = a.stay.0 in
    let h : i < length es = omega (arith, b, few, long) in
    let s = stay_made es es' i h is in
    record {
      stay = (s.0 ∙ a.stay.0, λ j e. s.1 j (a.stay.1 j e));
      goes = λ all o free.
          let now = a.goes all o free in
          let only : OnlyFree es bound (Some i) = λ j lt g. sym n.0 ∙ now.1 j lt g in
          (made_step all es es' steps steps' i now.0 h n.2 (λ j lt. earlier es bound i j only lt n.1 n.2) is more, freed es es' i bound h is only);
    }
  where
    earlier : (es : List Entry) (bound i j : ℕ) → OnlyFree es bound (Some i) → j < i → i < bound → is_free (entry_at es i) ≡ true → is_free (entry_at es j) ≡ false
    earlier es bound i j only lt below free = at_test (is_free (entry_at es j)) refl
      where
        at_test : (b : Bool) → is_free (entry_at es j) ≡ b → b ≡ false
        at_test false f = refl
        at_test true f = let s = only j (omega (arith, lt, below)) f in let e : i ≡ j = cc in absurd (omega (arith, e, lt))

pub along_smaller : (first next : Option ℕ) (bound i : ℕ) (before es es' : List Entry) (done steps : List Step) → IsAlong first next bound before done es steps → bound ≤ length before → Some i ≡ free_before es bound next → es' ≡ made_at es i → length (left es') < length (left es)
along_smaller first next bound i before es es' done steps a few f is =
    let n = free_is es bound i next f in
    let b = n.1 in
    let long = a.stay.0 in
    fewer_left es es' i (omega (arith, b, few, long)) n.2 is

pub along_done : (first next : Option ℕ) (bound : ℕ) (before es : List Entry) (done steps : List Step) → IsAlong first next bound before done es steps → None ≡ free_before es bound next → MakesAlong first bound before done es steps
along_done first next bound before es done steps a e all o free = let now = a.goes all o free in (now.0, none_free es bound next e now.1)

---- Free moves

pub record IsFreed (i : ℕ) (before : List Entry) (done : List Step) (es : List Entry) (steps : List Step) : Type 0 where
  pub each : length es ≡ length before
  pub goes : (all : List Step) → Ordering all before done → Ordering all es steps × NoneFree es i

pub begin_freed : (es : List Entry) (steps : List Step) → IsFreed 0 es steps es steps
begin_freed es steps = record { each = refl; goes = λ all o. (o, λ j lt. absurd (omega (arith, lt))) }

pub freed_step : (i : ℕ) (before es es' : List Entry) (done steps steps' : List Step) → IsFreed i before done es steps → StayMade es es' → MakesAlong (Some i) (i + 1) es steps es' steps' → IsFreed (i + 1) before done es' steps'
freed_step i before es es' done steps steps' f s m = record { each = s.0 ∙ f.each; goes = λ all o. let now = f.goes all o in m all now.0 (λ j lt g. only j lt g now.1) }
  where
    only : (j : ℕ) → j < i + 1 → is_free (entry_at es j) ≡ true → NoneFree es i → Some i ≡ Some j
    only j lt g none = at_test (j == i) refl
      where
        at_test : (b : Bool) → (j == i) ≡ b → Some i ≡ Some j
        at_test true e = ap Some (sym (eqb-true j i e))
        at_test false e =
            let below : j < i = grind (arith, nat_tests) in
            let never = none j below in
            cc

---- Cycles

pub record IsBroken (i : ℕ) (before : List Entry) (done : List Step) (es : List Entry) (steps : List Step) : Type 0 where
  pub each : length es ≡ length before
  pub goes : (all : List Step) → Ordering all before done → NoneFree before (length before) → Ordering all es steps × NoneFree es (length es) × AllMade es i

pub begin_broken : (es : List Entry) (steps : List Step) → IsBroken 0 es steps es steps
begin_broken es steps = record { each = refl; goes = λ all o n. (o, n, λ j lt. absurd (omega (arith, lt))) }

all_more : (es : List Entry) (i : ℕ) → AllMade es i → (entry_at es i).made ≡ true → AllMade es (i + 1)
all_more es i all here j lt = at_test (j == i) refl
  where
    at_test : (b : Bool) → (j == i) ≡ b → (entry_at es j).made ≡ true
    at_test true e = ap (λ x. (entry_at es x).made) (eqb-true j i e) ∙ here
    at_test false e = let below : j < i = grind (arith, nat_tests) in all j below

pub broken_on : (i : ℕ) (before es : List Entry) (done steps : List Step) → IsBroken i before done es steps → (entry_at es i).made ≡ true → IsBroken (i + 1) before done es steps
broken_on i before es done steps b here = record { each = b.each; goes = λ all o n. let now = b.goes all o n in (now.0, now.1, all_more es i now.2 here) }

pub broken_step : (i : ℕ) (before es es' : List Entry) (done steps steps' : List Step) → IsBroken i before done es steps → (entry_at es i).made ≡ false → StayMade es es' → (entry_at es' i).made ≡ true → Breaks i es steps es' steps' → IsBroken (i + 1) before done es' steps'
broken_step i before es es' done steps steps' b undone s here m = record {
  each = s.0 ∙ b.each;
  goes = λ all o n.
      let now = b.goes all o n in
      let then = m all now.0 now.1 now.2 undone in
      (then.0, then.1, all_more es' i (λ j lt. s.1 j (now.2 j lt)) here);
}

-- behind the branch
pub joined : (i : ℕ) (before es es' : List Entry) (done steps steps' : List Step) → es' ≡ es → steps' ≡ steps → IsBroken i before done es steps → IsBroken i before done es' steps'
joined i before es es' done steps steps' e s b = subst (λ x. IsBroken i before done x steps') (sym e) (subst (IsBroken i before done es) (sym s) b)

pub all_done : (i : ℕ) (before es : List Entry) (done steps : List Step) → IsBroken i before done es steps → length es ≤ i → (all : List Step) → Ordering all before done → NoneFree before (length before) → steps ≡ all
all_done i before es done steps b long all o n =
    let now = b.goes all o n in
    let none : left es ≡ [] = none_listed (slot es) 0 (length es) (λ j a lt. not_left es j (now.2 j (omega (arith, lt, long)))) in
    sym (append-nil steps) ∙ sym (ap (λ x. steps ++ ordered (length x) x) none) ∙ now.0.sequence

pub breaks : (i : ℕ) (es saved made after : List Entry) (steps saved_steps made_steps after_steps : List Step) (writer : Option ℕ) (bound : ℕ) → i < length es → saved ≡ saved_at es i → saved_steps ≡ steps ++ Save (entry_at es i).to ∷ [] → made ≡ made_at saved i → made_steps ≡ saved_steps ++ step_of (pending_in saved (entry_at saved i)) ∷ [] → writer ≡ (entry_at made i).writer → bound ≡ length made → StayMade made after → MakesAlong writer bound made made_steps after after_steps → Breaks i es steps after after_steps
breaks i es saved made after steps saved_steps made_steps after_steps writer bound h is more now then w b stay along all o none before undone =
    let long = (saved_stays es saved i h is).0 in
    let h' : i < length saved = omega (arith, h, long) in
    let first = save_step all es saved steps saved_steps i o h none before undone is more in
    let only = saved_only es saved i h is none undone in
    let second = made_step all saved made saved_steps made_steps i first h' only.0 (λ j lt. earlier j lt h' only.1) now then in
    let size = (stay_made saved made i h' now).0 in
    let rest = along all second (subst (λ n. OnlyFree made n writer) (sym (b ∙ size)) (subst (λ x. OnlyFree made (length saved) x) (sym w) (freed saved made i (length saved) h' now only.1))) in
    (rest.0, subst (λ n. NoneFree after n) (b ∙ sym stay.0) rest.1)
  where
    earlier : (j : ℕ) → j < i → i < length saved → OnlyFree saved (length saved) (Some i) → is_free (entry_at saved j) ≡ false
    earlier j lt below only = at_test (is_free (entry_at saved j)) refl
      where
        at_test : (b : Bool) → is_free (entry_at saved j) ≡ b → b ≡ false
        at_test false f = refl
        at_test true f = let s = only j (omega (arith, lt, below)) f in let e : i ≡ j = cc in absurd (omega (arith, e, lt))

pub breaks_made : (i : ℕ) (es saved made after : List Entry) → i < length es → saved ≡ saved_at es i → made ≡ made_at saved i → StayMade made after → StayMade es after × ((entry_at after i).made ≡ true)
breaks_made i es saved made after h is now stay =
    let s = saved_stays es saved i h is in
    let long = s.0 in
    let h' : i < length saved = omega (arith, h, long) in
    let t = stay_made saved made i h' now in
    ((stay.0 ∙ t.0 ∙ s.0, λ j e. stay.1 j (t.1 j (s.1 j e))), stay.1 i (now_made saved made i h' now))

pub freed_done : (i : ℕ) (before es : List Entry) (done steps : List Step) → IsFreed i before done es steps → length es ≤ i → (all : List Step) → Ordering all before done → Ordering all es steps × NoneFree es (length es)
freed_done i before es done steps f long all o = let now = f.goes all o in (now.0, λ j lt. now.1 j (omega (arith, lt, long)))

pub both : {T E P Q R : Type 0} (r : Result T E) → (P → Q → R) → OnOk r P → OnOk r Q → OnOk r R
both (Ok x) f p q = f p q
both (Err e) f p q = tt
