-- Lowered procedures are valid.
use Rattle.std.proofs.Common.{◌≡◌, ℕ, suc, ◌≤◌, ◌<◌, List, [], ◌∷◌, ◌++◌, map, length, Bool, true, false, ◌&&◌, Option, Some, None, All, refl, sym, ap, ◌∙◌, subst, arith}
use Rattle.std.specs.Prelude.{nat_lt, if◌then◌else◌, slice_index_or}
use Rattle.std.specs.List.{list_all}
use Rattle.std.proofs.lemmas.Bool.{and_from, ltb-false}
use Rattle.std.proofs.lemmas.List.{map-append}
use Rattle.std.proofs.lemmas.List.Elements.{All-cons, All-nil, All-head, All-tail}
use Rattle.std.proofs.lemmas.List.Folds.{list_all-append}
use Rattle.block_runs.specs.Valid.{operation_fits, times, all_below}
use Rattle.block_runs.specs.declared.end.End.{End}
use Rattle.block_runs.specs.declared.end.End.TheVariants.{Return}
use Rattle.ssa_core.specs.declared.procedure.Op.{Op}
use Rattle.ssa_core.specs.declared.procedure.Proc.{Proc}
use Rattle.ssa_core.specs.Procedures.{operation_of, code_blocks}
use Rattle.ssa_core.specs.Validity.{IsValid}
use Rattle.ob_types.specs.Forms.{all}
use Rattle.ob_types.specs.LegalTypes.{formal_legal}
use Rattle.ob_types.specs.Layout.{cells_of_all}
use Rattle.ob_types.specs.Meaning.{procedure_of, no_procedure, locals_of}
use Rattle.ob_types.specs.WellFormed
use Rattle.ob_types.specs.WellFormed.{well_formed}
use Rattle.ob_types.specs.declared.program.Procedure.{Procedure}
use Rattle.ob_types.specs.declared.program.Program.{Program}
use Rattle.ob_types.proofs.Tests.{none_some, and_of}
use Rattle.ob_types.proofs.WellFormedParts.{Parts, parts_of}
use Rattle.ssa_lowered.specs.Data.{Layout, layout}
use Rattle.ssa_lowered.specs.Limits.{Limit, or_else, passes, at_procedure, limit_in, limits_from, limit_by, limit_of, passed, global_cells, constant_cells}
use Rattle.ssa_lowered.specs.Pieces.{Start, Piece, Appends, Closes, blocks_of}
use Rattle.ssa_lowered.specs.Variables.{words_of}
use Rattle.ssa_lowered.specs.Lowered.{here_of, zeroed_bytes, at_entry, entry, made_of, proc_of, procs_from, lowered_by, lowered}
use Rattle.lowered_valid.specs.Claims.{CanBeLowered, IsNarrow, IsWithinLimits, IsShort, HasFittingOperations, TakesFewWords}
use Rattle.lowered_valid.proofs.Fitting.{AllFit}
use Rattle.lowered_valid.proofs.FittingTree.{Numbers, whole_fits}
use Rattle.lowered_valid.proofs.Bounds.{words_same, procedure_words}
use Rattle.lowered_valid.proofs.Bounds.{numbers as small_numbers}
use Rattle.lowered_valid.proofs.Once.{numbers_below, times_once}
use Rattle.lowered_valid.specs.Contents.{IsBare}
use Rattle.lowered_valid.specs.TreeSizes.{IsSmall}
use Rattle.lowered_valid.proofs.Narrow.{packed_narrow}
use Rattle.lowered_valid.proofs.Sizes.{short_all}
use Rattle.lowered_valid.proofs.Bodies.{bodies_bare}
use Rattle.lowered_valid.proofs.Procedures.{in_order, values_placed, values_below, targets_there, conditions_fit, ends_fit, enters_there, begins, first_params}

---- From pieces to blocks

fit_blocks : (args : ℕ) (s : Start) (ops : List Op) (last : End) (ps : List Piece) → list_all (operation_fits args) (map operation_of ops) ≡ true → AllFit args ps → list_all (λ bl. list_all (operation_fits args) bl.ops) (code_blocks (blocks_of s ops last ps)) ≡ true
fit_blocks args s ops last [] e h = and_from (list_all (operation_fits args) (map operation_of ops)) true e refl
fit_blocks args s ops last (Appends b i op ∷ ps) e h =
    fit_blocks args s (ops ++ op ∷ []) last ps
    (ap (list_all (operation_fits args)) (map-append operation_of ops (op ∷ []))
    ∙ list_all-append (operation_fits args) (map operation_of ops) (operation_of op ∷ [])
    ∙ and_from (list_all (operation_fits args) (map operation_of ops)) (operation_fits args (operation_of op) && true) e (and_from (operation_fits args (operation_of op)) true h.0 refl))
    h.1
fit_blocks args s ops last (Closes b i end next ∷ ps) e h =
    and_from (list_all (operation_fits args) (map operation_of ops)) (list_all (λ bl. list_all (operation_fits args) bl.ops) (code_blocks (blocks_of next [] last ps))) e (fit_blocks args next [] last ps refl h)

---- Limits that aren't passed

or_none : (a b : Option Limit) → or_else a b ≡ None → (a ≡ None) × (b ≡ None)
or_none None b h = (refl, h)
or_none (Some a) b h = none_some a (sym h)

passes_none : (n : ℕ) (over : Bool) → passes n over ≡ None → over ≡ false
passes_none n false h = refl
passes_none n true h = none_some (record { number = n; index = 0 }) (sym h)

if_none : (over : Bool) (x : Limit) (o : Option Limit) → (if over then Some x else o) ≡ None → over ≡ false
if_none false x o h = refl
if_none true x o h = none_some x (sym h)

module _ (l : Layout) (p : Program) where
  globals_few : limit_by l p ≡ None → global_cells p ≤ 1048576
  globals_few h =
      let constants = passes 58 (nat_lt 262144 (constant_cells p)) in
      let procedures = or_else (limits_from p l 0 p.procedures) constants in
      let globals = passes 53 (nat_lt 1048576 (global_cells p)) in
      let a = or_none (passes 52 (nat_lt 4096 (length p.procedures))) (or_else globals procedures) h in
      ltb-false 1048576 (global_cells p) (passes_none 53 (nat_lt 1048576 (global_cells p)) (or_none globals procedures a.1).0)

  procedures_few : limit_by l p ≡ None → limits_from p l 0 p.procedures ≡ None
  procedures_few h =
      let constants = passes 58 (nat_lt 262144 (constant_cells p)) in
      let procedures = or_else (limits_from p l 0 p.procedures) constants in
      let globals = passes 53 (nat_lt 1048576 (global_cells p)) in
      let a = or_none (passes 52 (nat_lt 4096 (length p.procedures))) (or_else globals procedures) h in
      (or_none (limits_from p l 0 p.procedures) constants (or_none globals procedures a.1).1).0

  locals_few : (f : ℕ) (q : Procedure) → limit_in p l f q ≡ None → cells_of_all p.types (locals_of q) ≤ 1048576
  locals_few f q h = ltb-false 1048576 (cells_of_all p.types (locals_of q)) (if_none (nat_lt 1048576 (cells_of_all p.types (locals_of q))) (record { number = 59; index = f }) (at_procedure f (passed (made_of p l f q).pieces)) h)

---- A procedure of the program, by its number

pub record IsAt (p : Program) (f : ℕ) (q : Procedure) : Type 0 where
  pub same : procedure_of p f ≡ q
  pub there : f < length p.procedures

few_words : (p : Program) → well_formed p ≡ true → (f : ℕ) (q : Procedure) → IsAt p f q → words_of q.formals ≤ 24
few_words p fine f q at =
    let a = procedure_words p (parts_of p fine) f in
    let b = words_same q.formals in
    let c = ap (λ (z : Procedure). WellFormed.argument_words z.formals) at.same in
    omega (arith, a, b, c)

-- a procedure within its own limits, whatever limits others pass
module _ (l : Layout) (p : Program) (narrow : IsNarrow p.types l) (fine : well_formed p ≡ true) (globals : global_cells p ≤ 1048576) (f : ℕ) (q : Procedure) (at : IsAt p f q) (within : limit_in p l f q ≡ None) where
  parts : Parts p
  parts = parts_of p fine

  fine_here : (all (WellFormed.fine p f) q.body ≡ true) × (WellFormed.answer_fine p f (WellFormed.form_of p q.result) q.answer ≡ true)
  fine_here =
      let g = procedure_of p f in
      let body = all (WellFormed.fine p f) g.body in
      let answer = WellFormed.answer_fine p f (WellFormed.form_of p g.result) g.answer in
      let a = and_of (all (formal_legal p.types) g.formals) (body && answer) (parts.procedures f at.there) in
      let b = and_of body answer a.1 in
      (subst (λ (z : Procedure). all (WellFormed.fine p f) z.body ≡ true) at.same b.0, subst (λ (z : Procedure). WellFormed.answer_fine p f (WellFormed.form_of p z.result) z.answer ≡ true) at.same b.1)

  small : Numbers p l (here_of p l f q)
  small = small_numbers p parts l narrow globals f q (locals_few l p f q within)

  operations : HasFittingOperations (proc_of p l f q)
  operations =
      let words = words_of q.formals in
      let r = (whole_fits words p l (here_of p l f q) small (zeroed_bytes p l q) (WellFormed.form_of p q.result) fine_here.0 fine_here.1).by (at_entry words) in
      fit_blocks words (entry words) [] (Return (made_of p l f q).result) (made_of p l f q).pieces refl r.0.all

  pub valid_here : IsShort (proc_of p l f q) → IsValid (proc_of p l f q)
  valid_here short = record {
    code = record {
      few_args = few_words p fine f q at;
      few = short;
      begins = begins p l f q;
      targets = targets_there p l f q;
      read_below = values_below p l f q;
      made_below = subst (λ z. all_below (proc_of p l f q).values z ≡ true) (sym (in_order p l f q)) (numbers_below 0 (proc_of p l f q).values (proc_of p l f q).values (omega arith));
      made_once = λ v less. ap (λ z. times z v) (in_order p l f q) ∙ times_once 0 (proc_of p l f q).values v (omega arith) (omega (arith, less));
      operations = operations;
      conditions = conditions_fit p l f q;
      arguments = ends_fit p l f q;
      first_params = first_params p l f q;
      placed = values_placed p l f q;
    };
    enters = enters_there p l f q;
  }

---- All procedures

-- what stands behind some items
index_here : (before : List Procedure) (q : Procedure) (qs : List Procedure) → slice_index_or (before ++ q ∷ qs) (length before) no_procedure ≡ q
index_here [] q qs = refl
index_here (x ∷ xs) q qs = index_here xs q qs

index_less : (before : List Procedure) (q : Procedure) (qs : List Procedure) → length before < length (before ++ q ∷ qs)
index_less [] q qs = omega arith
index_less (x ∷ xs) q qs = let a = index_less xs q qs in omega (arith, a)

length_last : (before : List Procedure) (q : Procedure) → length (before ++ q ∷ []) ≡ suc (length before)
length_last [] q = refl
length_last (x ∷ xs) q = ap suc (length_last xs q)

append_one : (before : List Procedure) (q : Procedure) (qs : List Procedure) → (before ++ q ∷ []) ++ qs ≡ before ++ q ∷ qs
append_one [] q qs = refl
append_one (x ∷ xs) q qs = ap (λ z. x ∷ z) (append_one xs q qs)

module _ (l : Layout) (p : Program) (P : Proc → Type 0) where
  -- the procedures of a list are the program's, from number f on
  abbrev From : ℕ → List Procedure → Type 0
  From f [] = Unit {0}
  From f (q ∷ qs) = IsAt p f q × From (suc f) qs

  from_all : (before qs : List Procedure) → before ++ qs ≡ p.procedures → From (length before) qs
  from_all before [] e = tt
  from_all before (q ∷ qs) e =
      let same = ap (λ z. slice_index_or z (length before) no_procedure) (sym e) ∙ index_here before q qs in
      let there = subst (λ z. length before < length z) e (index_less before q qs) in
      (record { same = same; there = there }, subst (λ n. From n qs) (length_last before q) (from_all (before ++ q ∷ []) qs (append_one before q qs ∙ e)))

  -- what holds of each procedure, within its limits or not, holds of all
  each_within : ((f : ℕ) (q : Procedure) → IsAt p f q → limit_in p l f q ≡ None → P (proc_of p l f q)) → (f : ℕ) (qs : List Procedure) → From f qs → limits_from p l f qs ≡ None → All P (procs_from p l f qs)
  each_within each f [] at h = All-nil P
  each_within each f (q ∷ qs) at h =
      let a = or_none (limit_in p l f q) (limits_from p l (suc f) qs) h in
      All-cons P (proc_of p l f q) (procs_from p l (suc f) qs) (each f q at.0 a.0) (each_within each (suc f) qs at.1 a.1)

  each_procedure : ((f : ℕ) (q : Procedure) → IsAt p f q → P (proc_of p l f q)) → (f : ℕ) (qs : List Procedure) → From f qs → All P (procs_from p l f qs)
  each_procedure each f [] at = All-nil P
  each_procedure each f (q ∷ qs) at = All-cons P (proc_of p l f q) (procs_from p l (suc f) qs) (each f q at.0) (each_procedure each (suc f) qs at.1)

  all_within : limit_by l p ≡ None → ((f : ℕ) (q : Procedure) → IsAt p f q → limit_in p l f q ≡ None → P (proc_of p l f q)) → All P (lowered_by l p)
  all_within few each = each_within each 0 p.procedures (from_all [] p.procedures refl) (procedures_few l p few)

  all_procedures : ((f : ℕ) (q : Procedure) → IsAt p f q → P (proc_of p l f q)) → All P (lowered_by l p)
  all_procedures each = each_procedure each 0 p.procedures (from_all [] p.procedures refl)

pub operations_fit_all : (p : Program) (l : Layout) → IsWithinLimits l p → All HasFittingOperations (lowered_by l p)
operations_fit_all p l can = all_within l p HasFittingOperations can.limits (operations l p can.narrow can.fine (globals_few l p can.limits))

pub words_few_all : (p : Program) (l : Layout) → well_formed p ≡ true → All TakesFewWords (lowered_by l p)
words_few_all p l fine = all_procedures l p TakesFewWords (few_words p fine)

pub bare_all : (p : Program) (l : Layout) → well_formed p ≡ true → All IsBare (lowered_by l p)
bare_all p l fine = all_procedures l p IsBare (λ f q at. bodies_bare p (parts_of p fine) l f q at.same at.there)

both_all : (P Q : Proc → Type 0) (xs : List Proc) → All (λ x. P x → Q x) xs → All P xs → All Q xs
both_all P Q [] f a = All-nil Q
both_all P Q (x ∷ xs) f a = All-cons Q x xs (All-head (λ x. P x → Q x) x xs f (All-head P x xs a)) (both_all P Q xs (All-tail (λ x. P x → Q x) x xs f) (All-tail P x xs a))

pub valid_all : (p : Program) (l : Layout) → CanBeLowered l p → All IsValid (lowered_by l p)
valid_all p l can = both_all IsShort IsValid (lowered_by l p) (all_within l p (λ x. IsShort x → IsValid x) can.within.limits (valid_here l p can.within.narrow can.within.fine (globals_few l p can.within.limits))) can.short

pub small_valid : (p : Program) → well_formed p ≡ true → limit_of p ≡ None → All IsSmall p.procedures → All IsValid (lowered p)
small_valid p fine limits small = valid_all p (layout p.types) (record { within = record { narrow = packed_narrow p.types; fine = fine; limits = limits }; short = short_all p (layout p.types) small })
