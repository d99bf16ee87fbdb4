-- The objects of all modules have the whole program's results.
use Rattle.std.proofs.Common.{◌≡◌, ℕ, zero, suc, ◌<◌, ◌≤◌, List, [], ◌∷◌, ◌++◌, map, length, take, drop, true, refl, sym, ap, ap₂, subst, ◌∙◌, append_assoc, arith}
use Rattle.std.specs.Prelude.{◌-◌}
use Rattle.std.proofs.lemmas.List.{length-map, append-nil}
use Rattle.ob_symbol.specs.declared.symbol.Symbol.{Symbol}
use Rattle.ob_syntax.specs.declared.modules.Module.{Module}
use Rattle.ob_syntax.specs.Plain.{plain_module}
use Rattle.ob_read.specs.Texts.{IsModuleText}
use Rattle.ob_types.specs.WellFormed.{well_formed}
use Rattle.ob_types.specs.declared.program.Program.{Program}
use Rattle.ob_judge.specs.Modules.{checked}
use Rattle.judged_programs.specs.ProgramOf.{IsProgramOf}
use Rattle.ssa_lowered.specs.Data.{layout}
use Rattle.ssa_lowered.specs.Lowered.{lowered}
use Rattle.a64_select.specs.Selected.{selected}
use Rattle.lir_core.specs.declared.flow.Flow.{Flow}
use Rattle.linked_flows.specs.Allocations.{Cut}
use Rattle.module_object.specs.words.alloc_choice.declared.choice.Choice.{Choice}
use Rattle.module_object.specs.audited_allocations.Joined.{joined}
use Rattle.module_object.specs.words.back_end.Images.{AreCutsOf}
use Rattle.module_object.specs.words.compiled_runs.Compiled.{flows_of}
use Rattle.module_object.proofs.words.compiled_runs.Whole.{lowered_each}
use Rattle.module_object.specs.words.source_program.Texts.{IsProgramOfTexts}
use Rattle.one_lowering.proofs.Lists.{take_map}
use Rattle.moved_lowering.specs.Starts.{HasStart}
use Rattle.moved_flows.specs.Flows.{AllAlike, AreAlikeFirst}
use Rattle.start_forms.proofs.Starts.{has_start}
use Rattle.module_object.proofs.words.text_laws.judged_shapes.Programs.{judged_closed, program_closed}
use Rattle.module_object.proofs.words.text_laws.one_program.OneProgram.{uses_in_order}
use Rattle.object_form.specs.declared.object.Object.{Object}
use Rattle.obj_link.specs.Joining.{results_of}
use Rattle.module_object.specs.Objects.{before_module, AreOwnResults, IsObjectOfTexts}
use Rattle.object_laws.specs.Objects.{AreObjectsOfTexts}
use Rattle.object_laws.proofs.Lists.{length_first, all_first, first_and_rest, first_of_append, item_at}
use Rattle.object_laws.proofs.Alike.{flows, results}
use Rattle.object_laws.proofs.Behind.{all_take, alike_length, own_behind, joined_split}
use Rattle.object_laws.proofs.Modules.{procedures_in, procedures_counted, parsed_many, of_first, count, begins}

results_more : (os : List Object) (o : Object) → results_of (os ++ o ∷ []) ≡ results_of os ++ o.outs
results_more [] o = append-nil o.outs
results_more (x ∷ os) o = ap (λ ts. x.outs ++ ts) (results_more os o) ∙ sym (append_assoc x.outs (results_of os) o.outs)

length_lowered : (p : Program) → length (flows_of p) ≡ length p.procedures
length_lowered p = length-map (lowered p) selected ∙ lowered_each p (layout p.types) 0 p.procedures

-- flows that are alike the first ones of cuts' flows are alike those of the first cuts
first_cuts : (fs : List Flow) (cs : List Cut) → AreAlikeFirst fs (flows cs) → AllAlike fs (flows (take (length fs) cs))
first_cuts fs cs h =
    let long = alike_length fs h.first h.alike in
    let is : h.first ≡ flows (take (length fs) cs) =
    sym (first_of_append h.first h.rest) ∙ (ap (λ gs. take (length h.first) gs) (sym h.is) ∙ (take_map (λ (c : Cut). c.flow) (length h.first) cs ∙ ap (λ n. flows (take n cs)) (sym long))) in
    subst (AllAlike fs) is h.alike

-- where a text has one reading, and flows of a start are alike the first ones
module _ (read_once : (w : List ℕ) (a b : List Symbol) (m n : Module) → IsModuleText w a m → IsModuleText w b n → (a ≡ b) × (plain_module m ≡ plain_module n))
    (alike : (p q : Program) → well_formed p ≡ true → well_formed q ≡ true → HasStart p q → AreAlikeFirst (map selected (lowered p)) (map selected (lowered q)))
    (a b : Choice) (policy : a.policy ≡ b.policy) (builder : a.builder ≡ b.builder) (regs : a.regs ≡ b.regs)
    (texts : List (List ℕ)) (q : Program) (y : IsProgramOfTexts texts q) (well : well_formed q ≡ true) (cs : List Cut) (are : AreCutsOf b (lowered q) cs) where
  -- how many procedures the first so many modules have
  abbrev many : ℕ → ℕ
  many i = count read_once texts q y i

  starts_alike : (i : ℕ) (p : Program) → IsProgramOfTexts (take i texts) p → well_formed p ≡ true → AreAlikeFirst (flows_of p) (flows cs)
  starts_alike i p x good =
      let ms = take i y.modules in
      let ns = drop i y.modules in
      let z = of_first read_once texts q y i p x in
      let w : IsProgramOf (ms ++ ns) q = subst (λ l. IsProgramOf l q) (sym (first_and_rest i y.modules)) y.program in
      let start = has_start ms ns p q z w good well (uses_in_order (take i texts) p x) (uses_in_order texts q y)
      (program_closed p z.sources z.image z.same (judged_closed ms z.image z.legal) z.sources)
      (program_closed q w.sources w.image w.same (judged_closed (ms ++ ns) w.image w.legal) w.sources) in
      subst (AreAlikeFirst (flows_of p)) (sym are.flows) (alike p q good well start)

  -- an object has the results of the whole program's procedures of its module
  record HasItsOwn (i : ℕ) (o : Object) : Type 0 where
    pub outs : o.outs ≡ joined (results (drop (many i) (take (many (suc i)) cs)))
    pub more : many i < many (suc i)

  own : (i : ℕ) (o : Object) → i < length texts → IsObjectOfTexts a (take (suc i) texts) o → HasItsOwn i o
  own i o l x =
      let p = x.program in
      let b_ = begins read_once texts q y i p l x.of_texts in
      let long : length (flows_of p) ≡ many (suc i) = length_lowered p ∙ b_.all in
      let alike_flows : AllAlike (flows_of p) (flows (take (many (suc i)) cs)) = subst (λ n. AllAlike (flows_of p) (flows (take n cs))) long (first_cuts (flows_of p) cs (starts_alike (suc i) p x.of_texts x.well_formed)) in
      let texts_long = length_first (suc i) texts (omega (arith, l)) in
      let number : length (take (suc i) texts) - 1 ≡ i = omega (arith, texts_long) in
      let here : AreOwnResults a i p o.outs = subst (λ n. AreOwnResults a n p o.outs) number x.is.results in
      record {
        outs =
            own_behind a b policy builder regs (flows_of p) (before_module i p.procedures) (take (many (suc i)) cs) o.outs (all_take b 0 (many (suc i)) cs are.each) alike_flows here
            ∙ ap (λ k. joined (results (drop k (take (many (suc i)) cs)))) b_.before;
        more = b_.more;
      }

  -- the results of the first objects
  first_results : (os : List Object) → AreObjectsOfTexts a texts os → (i : ℕ) → i ≤ length os → results_of (take i os) ≡ joined (results (take (many i) cs))
  first_results os h zero l = refl
  first_results os h (suc i) l =
      let last = item_at i os (omega (arith, l)) in
      let o = last.item in
      let count_ = h.count in
      let it = own i o (omega (arith, l, count_)) (h.each i o last.there) in
      let more = it.more in
      ap results_of last.first
      ∙ (results_more (take i os) o
      ∙ (ap₂ (λ xs ys. xs ++ ys) (first_results os h i (omega (arith, l))) it.outs
      ∙ sym (joined_split (many i) (many (suc i)) (omega (arith, more)) cs)))

  pub whole_results : (os : List Object) → AreObjectsOfTexts a texts os → results_of os ≡ joined (results cs)
  whole_results os h =
      let modules = parsed_many texts y.modules y.are_parsed in
      let all : take (length os) y.modules ≡ y.modules = ap (λ n. take n y.modules) (h.count ∙ sym modules) ∙ all_first y.modules in
      let flows_long : length cs ≡ length (flows_of q) = sym (length-map cs (λ (c : Cut). c.flow)) ∙ ap length are.flows in
      let long : many (length os) ≡ length cs =
      ap (λ ms. procedures_in (checked ms)) all ∙ (sym (procedures_counted y.modules q y.program) ∙ (sym (length_lowered q) ∙ sym flows_long)) in
      sym (ap results_of (all_first os)) ∙ (first_results os h (length os) (omega arith) ∙ ap (λ n. joined (results (take n cs))) long ∙ ap (λ ds. joined (results ds)) (all_first cs))
