-- From a program's procedures to its image.
use Rattle.std.proofs.Common.{◌≡◌, ℕ, suc, List, [], ◌∷◌, map, length, Some, refl, sym, ap, subst, ◌∙◌, arith}
use Rattle.std.specs.Prelude.{All, ◌≤◌, ◌^◌}
use Rattle.run_laws.specs.Runs.{Keeps}
use Rattle.run_laws.specs.Layers.{Through}
use Rattle.run_laws.proofs.Lowering.{Keeps-down, Keeps-same}
use Rattle.image_form.specs.declared.image.Image.{Image}
use Rattle.image_form.specs.Places.{place_before}
use Rattle.a64_table.specs.Table.{word_of}
use Rattle.a64_machine.specs.Machine.{start, system}
use Rattle.a64_machine.specs.State as why
use Rattle.block_runs.specs.Blocks.{Procedure}
use Rattle.block_runs.specs.States.{Stop, Kind, State}
use Rattle.block_runs.specs.Points.{least, all_points}
use Rattle.block_runs.specs.Steps.{block_system}
use Rattle.ob_types.specs.Meaning.{meaning}
use Rattle.ob_types.specs.Store.{Kind as Trapping}
use Rattle.ob_types.specs.declared.program.Procedure.{Procedure as Source}
use Rattle.ob_types.specs.declared.program.Program.{Program}
use Rattle.ssa_core.specs.declared.procedure.Proc.{Proc}
use Rattle.ssa_core.specs.Procedures.{procedure, procedures}
use Rattle.ssa_core.specs.Validity.{IsValid}
use Rattle.ssa_lowered.specs.Data.{Layout, layout}
use Rattle.ssa_lowered.specs.Lowered.{procs_from, lowered}
use Rattle.lir_core.specs.declared.flow.Flow.{Flow}
use Rattle.lir_core.specs.Flows.{procedure as flow_procedure, procedures as flow_procedures}
use Rattle.a64_select.specs.Selected.{selected}
use Rattle.a64_select.specs.Carrying.{flow_points, SameState}
use Rattle.a64_select.proofs.Selection.{carries_out, fits}
use Rattle.placed_code.specs.Placed.{Placed}
use Rattle.placed_code.specs.Layout.{all_words}
use Rattle.placed_code.specs.Claims.{code_places, breaks_as}
use Rattle.placed_code.specs.Results.{placed, procedures_of, begins_with}
use Rattle.linked_flows.specs.Allocations.{Cut, steps_of, allocated, all_allocated}
use Rattle.link_plan.specs.Linked.{Runs}
use Rattle.lowered_runs.specs.Words.{same_trap}
use Rattle.lowered_runs.specs.Claims.{CanRun, code_of, constants_of}
use Rattle.lowered_runs.proofs.Claimed.{keeps_up}
use Rattle.compiled_runs.specs.Compiled.{flows_of, placed_of, data_of, IsImageOf, CanRunAnywhere, place_of, same_break, Means}
use Rattle.compiled_runs.proofs.Places.{are_code_places}
use Rattle.compiled_runs.proofs.Telling.{told}
use Rattle.compiled_runs.proofs.Traps.{by_reason, keeps_sense, keeps_reason, in_step_back}
use Rattle.placed_code.proofs.Parts.{length_map}

map_map : {A B C : Type 0} (f : B → C) (g : A → B) (xs : List A) → map f (map g xs) ≡ map (λ x. f (g x)) xs
map_map f g [] = refl
map_map f g (x ∷ xs) = ap (λ ys. f (g x) ∷ ys) (map_map f g xs)

-- flows keep up with what their procedures keep up with
flows_keep : (ps : List Proc) (code : ℕ → ℕ) → All IsValid ps → (s : State) → SameState (procedures ps) s s → (n : ℕ) (o : _)
    → Keeps (block_system (procedures ps) code) (least (procedures ps)) (all_points (procedures ps)) same_trap s n o
    → Keeps (block_system (flow_procedures (map selected ps)) code) (least (flow_procedures (map selected ps))) (all_points (flow_procedures (map selected ps))) same_trap s n o
flows_keep ps code v s sim n o k =
    let y = block_system (flow_procedures (map selected ps)) code in
    Keeps-same y (least (flow_procedures (map selected ps))) (all_points (flow_procedures (map selected ps))) (Through same_trap (λ (u w : Stop). u ≡ w)) same_trap (λ u t h. subst (same_trap u) h.2 h.1) s n o
    (Keeps-down (block_system (procedures ps) code) y (least (procedures ps)) (least (flow_procedures (map selected ps))) (flow_points (procedures ps)) (SameState (procedures ps)) (λ (u w : Stop). u ≡ w)
    (carries_out ps code v) (all_points (procedures ps)) (all_points (flow_procedures (map selected ps))) (fits ps) same_trap n o s s sim k)

-- the procedures of cuts are those of their flows
flows_are : (cuts : List Cut) → procedures_of (all_allocated cuts) ≡ flow_procedures (map (λ c. c.flow) cuts)
flows_are [] = refl
flows_are (c ∷ cuts) = ap (λ fs. flow_procedure c.flow ∷ fs) (flows_are cuts)

-- each procedure is lowered to one
pub lowered_each : (p : Program) (l : Layout) (f : ℕ) (qs : List Source) → length (procs_from p l f qs) ≡ length qs
lowered_each p l f [] = refl
lowered_each p l f (q ∷ qs) = ap suc (lowered_each p l (suc f) qs)

module _ (p : Program) (cuts : List Cut) (image : Image) (input : List ℕ)
    (is : IsImageOf p cuts image) (runs : Runs image cuts (data_of p) input) (valid : All IsValid (lowered p)) (can : CanRunAnywhere p input) where
  abbrev ps : List Placed
  ps = placed_of cuts

  abbrev first : State
  first = begins_with (data_of p) input

  few : length (all_words ps) ≤ 2 ^ 18
  few = let a = ap (λ (i : Image). length i.code) is.is in let b = is.form.code in let c = length_map word_of (all_words ps) in omega (arith, a, b, c)

  count : length (code_of p) ≡ length ps
  count =
      let a = length_map procedure (lowered p) in
      let b = length_map selected (lowered p) in
      let c = ap (λ (fs : List Flow). length fs) is.flows in
      let d = length_map (λ (x : Cut). x.flow) cuts in
      let e = length_map allocated cuts in
      let f = length_map (placed steps_of) (all_allocated cuts) in
      omega (arith, a, b, c, d, e, f)

  able : CanRun p input (constants_of p) (code_places ps)
  able = can (code_places ps) (are_code_places ps (length (code_of p)) count few)

  procedures_keep : (n : ℕ) → Keeps (block_system (code_of p) (code_places ps)) (least (code_of p)) (all_points (code_of p)) same_trap first n (meaning p input n)
  procedures_keep n = keeps_up p input (constants_of p) (code_places ps) n able

  flows_same : flow_procedures (flows_of p) ≡ procedures_of (all_allocated cuts)
  flows_same = sym (flows_are cuts ∙ ap flow_procedures is.flows)

  -- in the words of linking
  abbrev KeptBy : List Procedure → (ℕ → Type 0)
  KeptBy fs n = Keeps (block_system fs (code_places ps)) (least fs) (all_points fs) same_trap first n (meaning p input n)

  kept : (n : ℕ) → KeptBy (procedures_of (all_allocated cuts)) n
  kept n = subst (λ fs. KeptBy fs n) flows_same (flows_keep (lowered p) (code_places ps) valid first (record { same = refl; inside = tt }) n (meaning p input n) (procedures_keep n))

  -- as many procedures are placed as the program has
  each : length ps ≡ length p.procedures
  each = let a = lowered_each p (layout p.types) 0 p.procedures in let b = length_map procedure (lowered p) in omega (arith, a, b, count)

  -- the image's places tell the procedure of a BRK
  breaks_in : (k f : ℕ) (trap : why.Trap) → breaks_as ps (Kind k f) trap → same_break p ps image (Trapping k f) trap
  breaks_in k f (why.Broke m place) h = (h, subst (λ (i : Image). place_before i.places place ≡ Some (place_of p ps f)) (sym is.is) (told p ps f place each h.1 h.2 h.3))
  breaks_in k f (why.Undefined word) h = absurd h
  breaks_in k f (why.BadAddress address) h = absurd h
  breaks_in k f (why.BadCall number) h = absurd h

  pub means : Means p cuts image input
  means =
      let fs = procedures_of (all_allocated cuts) in
      let y = block_system fs (code_places ps) in
      in_step_back (breaks_as ps) (same_break p ps image) breaks_in (system image) (length image.code) (start image input) (meaning p input)
      (λ n. keeps_sense y (least fs) (all_points fs) first n (meaning p input n) (kept n))
      (runs (λ n. by_reason (meaning p input n)) (λ n. keeps_reason y (least fs) (all_points fs) first n (meaning p input n) (kept n)))
