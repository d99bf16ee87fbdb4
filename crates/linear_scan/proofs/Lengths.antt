-- How many registers there are.
use Rattle.std.proofs.Common.{◌≡◌, true, ℕ, zero, suc, ◌+◌, ◌<◌, List, [], ◌∷◌, map, length, get_or, drop, arith, Option, Some, None, refl, sym, ap, ap₂, ◌∙◌, length-set}
use Rattle.std.specs.Prelude.{option_to_list, slice_get, is_some}
use Rattle.std.proofs.lemmas.Option.{slice_get-get_or}
use Rattle.std.proofs.lemmas.List.{length-map}
use Rattle.block_runs.specs.Blocks.{Operation}
use Rattle.lir_core.specs.declared.flow.Lir.{Lir}
use Rattle.lir_core.specs.Flows.{operation_of}
use Rattle.loc_state.specs.declared.part.Part.{Part}
use Rattle.loc_state.specs.declared.forward.Forward.{Forward}
use Rattle.loc_state.specs.Steps.{with_result, keeps_all, called, in_part}
use Rattle.loc_state.proofs.Calling.{keeps_regs}
use Rattle.trace_needs.specs.Needs.{first_of}
use Rattle.linear_scan.specs.Policy.{drop_all, needed_in, call_one}
use Rattle.linear_scan.specs.Linear.{Case, behind, position_behind, along}
use Rattle.linear_scan.proofs.Dropping.{drop_join}

length-with_result : (o : Option ℕ) (regs : List (Option ℕ)) → length (with_result o regs) ≡ length regs
length-with_result None regs = refl
length-with_result (Some v) regs = length-set regs 0 (Some v)

pub called_length : (i : ℕ) (op : Operation) (keep : List ℕ) (t : Part) → length (called i op keep t).regs ≡ length t.regs
called_length i op keep t =
    length-with_result op.def (map (λ x. None) (keeps_all keep 0 t.regs t).regs) ∙ length-map {B = Option ℕ} (keeps_all keep 0 t.regs t).regs (λ x. None) ∙ ap length (keeps_regs keep 0 t.regs t)

-- a call, step by step
pub call_is : (need : ℕ → ℕ → Option ℕ) (p i : ℕ) (x : Lir) (f f1 f2 f3 : Forward) (uses keep : List ℕ) → f1 ≡ in_part (called i (operation_of x) keep) f → f2 ≡ in_part (drop_all need p uses) f1 → f3 ≡ in_part (drop_all need p (option_to_list x.def)) f2 → uses ≡ x.uses → keep ≡ needed_in need p f.part.regs → f3 ≡ in_part (call_one need (drop_all need) p i x) f
call_is need p i x f f1 f2 f3 uses keep a b c d e =
    c ∙ ap (in_part (drop_all need p (option_to_list x.def))) (b ∙ ap (in_part (drop_all need p uses)) a)
    ∙ ap₂ (λ us k. in_part (drop_all need p (option_to_list x.def)) (in_part (drop_all need p us) (in_part (called i (operation_of x) k) f))) d e
    ∙ ap (λ t. let g : Forward = record f { part = t } in g) (sym (drop_join need p x.uses (option_to_list x.def) (called i (operation_of x) (needed_in need p f.part.regs) f.part)))

-- a node more of a trace
pub along_step : (x : Case) (need : ℕ → ℕ → Option ℕ) (drops : ℕ → List ℕ → Part → Part) (nodes : List ℕ) (i n p p' : ℕ) (next : Option ℕ) (f f' : Forward) → i < length nodes → n ≡ get_or nodes i 0 → next ≡ slice_get nodes (i + 1) → f' ≡ behind x need drops p (slice_get x.flow.nodes n) next f → p' ≡ position_behind p (slice_get x.flow.nodes n) → along x need drops p' (drop (i + 1) nodes) f' ≡ along x need drops p (drop i nodes) f
along_step x need drops [] i n p p' next f f' lt e g a b = absurd (omega (arith, lt))
along_step x need drops (m ∷ nodes) zero n p p' next f f' lt e g a b =
    ap₂ (λ q h. along x need drops q nodes h) b a
    ∙ ap₂ (λ o k. along x need drops (position_behind p (slice_get x.flow.nodes k)) nodes (behind x need drops p (slice_get x.flow.nodes k) o f)) (g ∙ at_first nodes) e
  where
    at_first : (ms : List ℕ) → slice_get (m ∷ ms) 1 ≡ first_of ms
    at_first [] = refl
    at_first (x ∷ ms) = refl
along_step x need drops (m ∷ nodes) (suc i) n p p' next f f' lt e g a b =
    let z : suc i + 1 ≡ suc (i + 1) = omega arith in
    ap (λ k. along x need drops p' (drop k (m ∷ nodes)) f') z ∙ along_step x need drops nodes i n p p' next f f' (omega (arith, lt)) e (g ∙ ap (slice_get (m ∷ nodes)) z) a b

pub there_is : (nodes : List ℕ) (i : ℕ) → i < length nodes → is_some (slice_get nodes i) ≡ true
there_is nodes i lt = ap is_some (slice_get-get_or nodes i 0 lt)
