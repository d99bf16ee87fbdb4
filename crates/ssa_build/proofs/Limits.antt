-- Which limit is passed first.
use Rattle.std.proofs.Common.{◌≡◌, ℕ, suc, ◌+◌, ◌<◌, ◌≤◌, List, [], ◌∷◌, ◌++◌, drop, length, get_or, Option, Some, None, refl, sym, ap, ap₂, ◌∙◌, arith, append_assoc}
use Rattle.std.specs.Prelude.{nat_lt, if◌then◌else◌, Bool, true, false}
use Rattle.std.proofs.lemmas.List.{drop_more}
use Rattle.std.proofs.Math.ListN.{drop_of_length-le}
use Rattle.ob_types.specs.Layout.{cells_of_all}
use Rattle.ob_types.specs.Meaning.{locals_of}
use Rattle.ob_types.specs.declared.program.Procedure.{Procedure}
use Rattle.ob_types.specs.declared.program.Program.{Program}
use Rattle.ssa_core.specs.declared.procedure.Proc.{Proc}
use Rattle.ssa_lowered.specs.Data.{Layout, layout}
use Rattle.ssa_lowered.specs.Limits.{Limit, passed, or_else, at_procedure, passes, global_cells, constant_cells, limit_in, limits_from, limit_of}
use Rattle.ssa_lowered.specs.Lowered.{made_of, proc_of, procs_from}
use Rattle.ssa_tables.specs.declared.fault.LowerFault.{LowerFault}
use Rattle.ssa_tables.specs.declared.fault.LowerFault.TheVariants as TheFault
use Rattle.ssa_tables.specs.Faults.{Tells, first_limit, last_limit}
use Rattle.ssa_tables.specs.Local.{local_limit}

pub tells_as : (e : LowerFault) (a b : Option Limit) → a ≡ b → Tells e a → Tells e b
tells_as (TheFault.Limit n i) a b is h = sym is ∙ h
tells_as TheFault.Memory a b is h = tt

-- a limit that is tried earlier
pub tells_first : (e : LowerFault) (a b : Option Limit) → Tells e a → Tells e (or_else a b)
tells_first (TheFault.Limit n i) a b h = ap (λ o. or_else o b) h
tells_first TheFault.Memory a b h = tt

-- one that is tried later
pub tells_later : (e : LowerFault) (a b : Option Limit) → a ≡ None → Tells e b → Tells e (or_else a b)
tells_later e a b none h = tells_as e b (or_else a b) (sym (ap (λ o. or_else o b) none)) h

or_else_on : (a b c : Option Limit) → or_else (or_else a b) c ≡ or_else a (or_else b c)
or_else_on None b c = refl
or_else_on (Some x) b c = refl

pub limit_parts : (p : Program) → limit_of p ≡ or_else (first_limit p) (or_else (limits_from p (layout p.types) 0 p.procedures) (last_limit p))
limit_parts p = sym (or_else_on (passes 52 (nat_lt 4096 (length p.procedures))) (passes 53 (nat_lt 1048576 (global_cells p))) (or_else (limits_from p (layout p.types) 0 p.procedures) (passes 58 (nat_lt 262144 (constant_cells p)))))

pub all_within : (p : Program) → first_limit p ≡ None → limits_from p (layout p.types) 0 p.procedures ≡ None → last_limit p ≡ None → limit_of p ≡ None
all_within p a b c = limit_parts p ∙ ap₂ (λ x y. or_else x y) a (ap₂ (λ x y. or_else x y) b c)

-- of a procedure

-- the limit of local data, or another
abbrev data_or : ℕ → Option Limit → Bool → Option Limit
data_or f other over = if over then Some (record { number = 59; index = f }) else other

data_none : (f : ℕ) (other : Option Limit) (b : Bool) → data_or f None b ≡ None → data_or f other b ≡ other
data_none f other true h = absurd (cc)
data_none f other false h = refl

data_some : (f : ℕ) (other : Option Limit) (x : Limit) (b : Bool) → data_or f None b ≡ Some x → data_or f other b ≡ Some x
data_some f other x true h = h
data_some f other x false h = absurd (cc)

inside : (p : Program) (f : ℕ) (q : Procedure) → local_limit p f q ≡ None → limit_in p (layout p.types) f q ≡ at_procedure f (passed (made_of p (layout p.types) f q).pieces)
inside p f q none = data_none f (at_procedure f (passed (made_of p (layout p.types) f q).pieces)) (nat_lt 1048576 (cells_of_all p.types (locals_of q))) none

pub limit_passed : (p : Program) (f : ℕ) (q : Procedure) (n : ℕ) → local_limit p f q ≡ None → passed (made_of p (layout p.types) f q).pieces ≡ Some n → limit_in p (layout p.types) f q ≡ Some (record { number = n; index = f })
limit_passed p f q n none is = inside p f q none ∙ ap (at_procedure f) is

pub limit_none : (p : Program) (f : ℕ) (q : Procedure) → local_limit p f q ≡ None → passed (made_of p (layout p.types) f q).pieces ≡ None → limit_in p (layout p.types) f q ≡ None
limit_none p f q none is = inside p f q none ∙ ap (at_procedure f) is

pub tells_local : (e : LowerFault) (p : Program) (f : ℕ) (q : Procedure) → Tells e (local_limit p f q) → Tells e (limit_in p (layout p.types) f q)
tells_local (TheFault.Limit n i) p f q h = data_some f (at_procedure f (passed (made_of p (layout p.types) f q).pieces)) (record { number = n; index = i }) (nat_lt 1048576 (cells_of_all p.types (locals_of q))) h
tells_local TheFault.Memory p f q h = tt

-- procedure by procedure

module _ (p : Program) (l : Layout) where
  next : (qs : List Procedure) (f : ℕ) (q : Procedure) → f < length qs → q ≡ get_or qs f q → drop f qs ≡ q ∷ drop (f + 1) qs
  next qs f q lt is = drop_more qs f q lt ∙ ap (λ y. y ∷ drop (f + 1) qs) (sym is)

  pub procs_more : (qs : List Procedure) (f : ℕ) (q : Procedure) (old new all : List Proc) → f < length qs → q ≡ get_or qs f q → new ≡ old ++ proc_of p l f q ∷ [] → old ++ procs_from p l f (drop f qs) ≡ all → new ++ procs_from p l (f + 1) (drop (f + 1) qs) ≡ all
  procs_more qs f q old new all lt is more before =
      let e : f + 1 ≡ suc f = omega arith in
      ap₂ (λ xs n. xs ++ procs_from p l n (drop (f + 1) qs)) more e
      ∙ append_assoc old (proc_of p l f q ∷ []) (procs_from p l (suc f) (drop (f + 1) qs))
      ∙ sym (ap (λ ys. old ++ procs_from p l f ys) (next qs f q lt is))
      ∙ before

  pub limits_more : (qs : List Procedure) (f : ℕ) (q : Procedure) (all : Option Limit) → f < length qs → q ≡ get_or qs f q → limit_in p l f q ≡ None → limits_from p l f (drop f qs) ≡ all → limits_from p l (f + 1) (drop (f + 1) qs) ≡ all
  limits_more qs f q all lt is none before =
      let e : f + 1 ≡ suc f = omega arith in
      ap (λ n. limits_from p l n (drop (f + 1) qs)) e
      ∙ sym (ap (λ o. or_else o (limits_from p l (suc f) (drop (f + 1) qs))) none)
      ∙ sym (ap (limits_from p l f) (next qs f q lt is))
      ∙ before

  pub limits_told : (e : LowerFault) (qs : List Procedure) (f : ℕ) (q : Procedure) (all : Option Limit) → f < length qs → q ≡ get_or qs f q → limits_from p l f (drop f qs) ≡ all → Tells e (limit_in p l f q) → Tells e all
  limits_told e qs f q all lt is before h =
      tells_as e (or_else (limit_in p l f q) (limits_from p l (suc f) (drop (f + 1) qs))) all (sym (ap (limits_from p l f) (next qs f q lt is)) ∙ before) (tells_first e (limit_in p l f q) (limits_from p l (suc f) (drop (f + 1) qs)) h)

  pub limits_end : (qs : List Procedure) (f : ℕ) (all : Option Limit) → length qs ≤ f → limits_from p l f (drop f qs) ≡ all → all ≡ None
  limits_end qs f all le before = sym before ∙ ap (limits_from p l f) (drop_of_length-le qs le)

  pub procs_end : (qs : List Procedure) (f : ℕ) (old all : List Proc) → length qs ≤ f → old ++ procs_from p l f (drop f qs) ≡ all → old ≡ all
  procs_end qs f old all le before = sym (append_none old) ∙ sym (ap (λ ys. old ++ procs_from p l f ys) (drop_of_length-le qs le)) ∙ before
    where
      append_none : (xs : List Proc) → xs ++ [] ≡ xs
      append_none [] = refl
      append_none (x ∷ xs) = ap (λ ys. x ∷ ys) (append_none xs)
