-- Procedures of a program that passes no limit have few values and few local data.
use Rattle.std.proofs.Common.{◌≡◌, ℕ, zero, suc, ◌+◌, ◌<◌, ◌≤◌, min, List, [], ◌∷◌, ◌++◌, map, length, Bool, true, false, Option, Some, None, All, refl, sym, subst, arith}
use Rattle.std.specs.Prelude.{nat_le, nat_lt, ◌||◌, option_to_list, if◌then◌else◌}
use Rattle.std.proofs.lemmas.Bool.{ltb-false}
use Rattle.std.proofs.lemmas.Bool.Decides.{nat_tests}
use Rattle.std.proofs.lemmas.List.Elements.{All-cons, All-nil}
use Rattle.block_runs.specs.Live.{defs_of}
use Rattle.block_runs.specs.Valid.{made}
use Rattle.block_runs.specs.declared.end.End.{End}
use Rattle.block_runs.specs.declared.end.End.TheVariants.{Return}
use Rattle.ob_types.specs.Layout.{cells_of_all}
use Rattle.ob_types.specs.Meaning.{locals_of}
use Rattle.ob_types.specs.WellFormed.{well_formed}
use Rattle.ob_types.specs.declared.program.Procedure.{Procedure}
use Rattle.ob_types.specs.declared.program.Program.{Program}
use Rattle.ob_types.proofs.Tests.{none_some}
use Rattle.ob_types.proofs.WellFormedParts.{parts_of}
use Rattle.size_limits.specs.Limits.{most_values, most_blocks}
use Rattle.ssa_core.specs.declared.procedure.Op.{Op}
use Rattle.ssa_core.specs.declared.procedure.Proc.{Proc}
use Rattle.ssa_core.specs.Procedures.{operation_of, code_blocks}
use Rattle.ssa_lowered.specs.Data.{layout}
use Rattle.ssa_lowered.specs.Limits.{Limit, too_many, passed, or_else, at_procedure, passes, global_cells, constant_cells, limit_in, limits_from, limit_of}
use Rattle.ssa_lowered.specs.Lowered.{made_of, proc_of, procs_from, entry, lowered}
use Rattle.ssa_lowered.specs.Pieces.{Start, Piece, Appends, Closes, blocks_of, numbers}
use Rattle.ssa_lowered.specs.Variables.{words_of}
use Rattle.lowered_valid.proofs.Bounds.{numbers as small_numbers}
use Rattle.lowered_valid.proofs.Narrow.{packed_narrow}
use Rattle.lowered_valid.proofs.Procedures.{in_order}
use Rattle.lowered_valid.specs.Modest.{HasFewValues, HasSmallData}

---- Limits that aren't passed

pub or_none : (a b : Option Limit) → or_else a b ≡ None → (a ≡ None) × (b ≡ None)
or_none None b h = (refl, h)
or_none (Some a) b h = none_some a (sym h)

passes_none : (n : ℕ) (over : Bool) → passes n over ≡ None → over ≡ false
passes_none n false h = refl
passes_none n true h = none_some (record { number = n; index = 0 }) (sym h)

module _ (p : Program) (none : limit_of p ≡ None) where
  abbrev constants : Option Limit
  constants = passes 58 (nat_lt 262144 (constant_cells p))

  abbrev procedures : Option Limit
  procedures = limits_from p (layout p.types) 0 p.procedures

  abbrev globals : Option Limit
  globals = passes 53 (nat_lt 1048576 (global_cells p))

  behind_count : or_else globals (or_else procedures constants) ≡ None
  behind_count = (or_none (passes 52 (nat_lt 4096 (length p.procedures))) (or_else globals (or_else procedures constants)) none).1

  pub few_globals : global_cells p ≤ 1048576
  few_globals = ltb-false 1048576 (global_cells p) (passes_none 53 (nat_lt 1048576 (global_cells p)) (or_none globals (or_else procedures constants) behind_count).0)

  procedures_within : procedures ≡ None
  procedures_within = (or_none procedures constants (or_none globals (or_else procedures constants) behind_count).1).0

  -- what holds of each procedure within its limits holds of all
  each_within : (P : Proc → Type 0) → ((f : ℕ) (q : Procedure) → limit_in p (layout p.types) f q ≡ None → P (proc_of p (layout p.types) f q))
      → (f : ℕ) (qs : List Procedure) → limits_from p (layout p.types) f qs ≡ None → All P (procs_from p (layout p.types) f qs)
  each_within P each f [] h = All-nil P
  each_within P each f (q ∷ qs) h =
      let a = or_none (limit_in p (layout p.types) f q) (limits_from p (layout p.types) (suc f) qs) h in
      All-cons P (proc_of p (layout p.types) f q) (procs_from p (layout p.types) (suc f) qs) (each f q a.0) (each_within P each (suc f) qs a.1)

  pub all_within : (P : Proc → Type 0) → ((f : ℕ) (q : Procedure) → limit_in p (layout p.types) f q ≡ None → P (proc_of p (layout p.types) f q)) → All P (lowered p)
  all_within P each = each_within P each 0 p.procedures procedures_within

---- Values

abbrev Low : List ℕ → Type 0
Low [] = Unit {0}
Low (v ∷ vs) = (v < most_values) × Low vs

low_append : (xs ys : List ℕ) → Low xs → Low ys → Low (xs ++ ys)
low_append [] ys a b = b
low_append (x ∷ xs) ys a b = (a.0, low_append xs ys a.1 b)

low_numbers : (i n : ℕ) → i + n ≤ most_values → Low (numbers i n)
low_numbers i zero l = tt
low_numbers i (suc n) l = (omega (arith, l), low_numbers (suc i) n (omega (arith, l)))

few_numbers : (i n : ℕ) → i ≤ most_values → Low (numbers i n) → i + n ≤ most_values
few_numbers i zero l h = omega (arith, l)
few_numbers i (suc n) l h = let a = h.0 in let r = few_numbers (suc i) n (omega (arith, a)) h.1 in omega (arith, r)

low_by : (v : ℕ) (vs : List ℕ) (b : Bool) → nat_le most_values v ≡ b → (b || too_many vs) ≡ false → (too_many vs ≡ false → Low vs) → Low (v ∷ vs)
low_by v vs true e h on = cc
low_by v vs false e h on = (grind (arith, nat_tests, e), on h)

few_are_low : (vs : List ℕ) → too_many vs ≡ false → Low vs
few_are_low [] h = tt
few_are_low (v ∷ vs) h = low_by v vs (nat_le most_values v) refl h (few_are_low vs)

low_both : (xs ys zs : List ℕ) → (Low ys → Low zs) → Low (xs ++ ys) → Low (xs ++ zs)
low_both [] ys zs on h = on h
low_both (x ∷ xs) ys zs on h = (h.0, low_both xs ys zs on h.1)

low_defs : (ops : List Op) (op : Op) → Low (option_to_list op.def) → Low (defs_of (map operation_of ops)) → Low (defs_of (map operation_of (ops ++ op ∷ [])))
low_defs [] op b a = low_append (option_to_list op.def) [] b tt
low_defs (o ∷ ops) op b a = low_both (option_to_list o.def) (defs_of (map operation_of ops)) (defs_of (map operation_of (ops ++ op ∷ []))) (low_defs ops op b) a

-- a test that would tell a limit came out false
appends_within : (b : Bool) (o : Option ℕ) (n : ℕ) → (if b then Some n else o) ≡ None → (b ≡ false) × (o ≡ None)
appends_within true o n h = none_some n (sym h)
appends_within false o n h = (refl, h)

low_made : (s : Start) (ops : List Op) (last : End) (ps : List Piece) → Low s.params → Low (defs_of (map operation_of ops)) → passed ps ≡ None → Low (made (code_blocks (blocks_of s ops last ps)))
low_made s ops last [] a b h = low_append (s.params ++ defs_of (map operation_of ops)) [] (low_append s.params (defs_of (map operation_of ops)) a b) tt
low_made s ops last (Appends k i op ∷ ps) a b h =
    let w = appends_within (too_many (option_to_list op.def)) (passed ps) 50 h in
    low_made s (ops ++ op ∷ []) last ps a (low_defs ops op (few_are_low (option_to_list op.def) w.0) b) w.1
low_made s ops last (Closes k i end next ∷ ps) a b h =
    let v = appends_within (nat_le most_blocks (suc k)) (if too_many next.params then Some 50 else passed ps) 51 h in
    let w = appends_within (too_many next.params) (passed ps) 50 v.1 in
    low_append (s.params ++ defs_of (map operation_of ops)) (made (code_blocks (blocks_of next [] last ps))) (low_append s.params (defs_of (map operation_of ops)) a b) (low_made next [] last ps (few_are_low next.params w.0) tt w.1)

---- A procedure

module _ (p : Program) (f : ℕ) (q : Procedure) (none : limit_in p (layout p.types) f q ≡ None) where
  abbrev locals : ℕ
  locals = cells_of_all p.types (locals_of q)

  parts_within : (b : Bool) (o : Option ℕ) → (if b then Some (record { number = 59; index = f }) else at_procedure f o) ≡ None → (b ≡ false) × (o ≡ None)
  parts_within true o h = none_some (record { number = 59; index = f }) (sym h)
  parts_within false None h = (refl, refl)
  parts_within false (Some n) h = none_some (record { number = n; index = f }) (sym h)

  parts_here : (nat_lt 1048576 locals ≡ false) × (passed (made_of p (layout p.types) f q).pieces ≡ None)
  parts_here = parts_within (nat_lt 1048576 locals) (passed (made_of p (layout p.types) f q).pieces) none

  few_locals : locals ≤ 1048576
  few_locals = ltb-false 1048576 locals parts_here.0

  pub few_values : HasFewValues (proc_of p (layout p.types) f q)
  few_values =
      let s = entry (words_of q.formals) in
      let w = made_of p (layout p.types) f q in
      let low = low_made s [] (Return w.result) w.pieces (low_numbers 0 (min (words_of q.formals) 4) (omega arith)) tt parts_here.1 in
      let r = few_numbers 0 (proc_of p (layout p.types) f q).values (omega arith) (subst Low (in_order p (layout p.types) f q) low) in
      omega (arith, r)

  pub small_data : well_formed p ≡ true → global_cells p ≤ 1048576 → HasSmallData (proc_of p (layout p.types) f q)
  small_data fine globals =
      let a = few_locals in
      let b = (small_numbers p (parts_of p fine) (layout p.types) (packed_narrow p.types) globals f q few_locals).frame_small in
      record { cells = omega (arith, a); bytes = omega (arith, b) }

pub all_few : (p : Program) → limit_of p ≡ None → All HasFewValues (lowered p)
all_few p none = all_within p none HasFewValues (λ f q within. few_values p f q within)

pub all_small : (p : Program) → well_formed p ≡ true → limit_of p ≡ None → All HasSmallData (lowered p)
all_small p fine none = all_within p none HasSmallData (λ f q within. small_data p f q within fine (few_globals p none))
