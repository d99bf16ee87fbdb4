-- The scope in which each module begins is sound, and all procedures and bodies are well-formed.
use Rattle.std.proofs.Common.{◌≡◌, ℕ, ◌+◌, ◌<◌, ◌≤◌, List, [], ◌∷◌, map, length, true, Option, Some, refl, ap, sym, ◌∙◌, subst, arith, inl, inr}
use Rattle.std.specs.Prelude.{slice_get}
use Rattle.ob_types.specs.declared.program.Procedure.{Procedure as ProcedureOf}
use Rattle.ob_types.specs.declared.program.Program.{Program}
use Rattle.ob_types.specs.Meaning.{globals_of, texts_of}
use Rattle.ob_types.specs.Forms.{all_below, types_fine}
use Rattle.ob_types.specs.WellFormed.{procedure_fine}
use Rattle.ob_types.proofs.Tests.{none_some, some_same, less_or_past, below_from}
use Rattle.ob_judge.specs.Judged.{Keeps}
use Rattle.ob_judge.specs.Shapes.{Shape, Integer, Boolean, Char, Byte, Set}
use Rattle.ob_judge.specs.Image as I
use Rattle.ob_judge.specs.Scopes.{Object, AConstant, AVariable, Entry, Source, no_names, or_of_module, spelled}
use Rattle.ob_judge.specs.Standards.{predeclared}
use Rattle.ob_judge.specs.Making.{Making, last_names}
use Rattle.ob_judge.specs.Modules.{SoFar, no_modules, first_making, offered_by, module_part, with_module, Parsed, Legal, program_of, checked_after, checked}
use Rattle.judged_tree.specs.TypeShapes.{shape_of, pointer_bases}
use Rattle.judged_tree.specs.Plain.{plain_module, plain_procedure, plain_program}
use Rattle.judged_tree.specs.Outline.{outlined_procedure, outlined_program}
use Rattle.judged_well.specs.Standing.{IsRead}
use Rattle.judged_well.specs.OfProgram.{IsFaithful, IsInside}
use Rattle.judged_well.proofs.FirstWorld.{of_predeclared}
use Rattle.judged_well.proofs.Whole.{order_of}
use Rattle.judged_modules.specs.Final.{Final, final_of}
use Rattle.judged_modules.specs.Agrees.{Agrees, IsVariable}
use Rattle.judged_modules.specs.Sound.{IsKept, IsEarlier, IsOffered, AllNames, Sound}
use Rattle.judged_modules.specs.Made.{IsWell}
use Rattle.judged_modules.proofs.Lists.{get_append, get_last, get_within, append_length}
use Rattle.judged_modules.proofs.Growing.{bound, kept_same}
use Rattle.judged_modules.proofs.Righting.{agrees_back}
use Rattle.judged_modules.proofs.Keeping.{given}
use Rattle.judged_modules.proofs.ModulesStand.{kept_type, first_sound, ModuleDone, k_module}
use Rattle.judged_modules.proofs.Agreement.{map_get, from_map, two_maps, index_at, IsEnd, agrees_end}
use Rattle.judged_modules.proofs.Fine.{procedure_well}
use Rattle.judged_modules.proofs.OneModule.{there_at, AreBytes, well_bytes, texts_bytes}
use Rattle.judged_programs.specs.ProgramOf.{AreRead}
use Rattle.judged_programs.proofs.Tidy.{last_of}
use Rattle.judged_programs.proofs.ModulesTidy.{ModuleTidy, s_module, none_tidy, first_tidy, offered_is, each_module, with_one, with_one_tidy, legal_same, accepted}
use Rattle.judged_programs.specs.Tidy.{IsNested, IsOfModule}
use Rattle.judged_programs.specs.TidyModules.{TidySoFar}

module _ (w : Final) where
  -- ---- what a module offers

  earlier_later : (n m : ℕ) → n ≤ m → (o : Object) → IsEarlier n o → IsEarlier m o
  earlier_later n m l (AVariable v) h = (h.0, h.1, h.2, let k = h.3 in omega (arith, k, l))
  earlier_later n m l (AConstant c) h = tt
  earlier_later n m l _ h = tt

  offered_by_module : (n m : ℕ) → n < m → (o : Object) → IsKept w n o → IsOfModule n o → IsOffered w m o
  offered_by_module n m l (AVariable v) kept own = ((λ f. (kept f (ap (λ q. or_of_module q (Some f)) own.0)).0), (n, own.1, own.2, l))
  offered_by_module n m l (AConstant c) kept own = ((λ f. (kept f refl).0), tt)
  offered_by_module n m l o kept own = ((λ f. (kept f refl).0), tt)

  -- the names of a module itself, where no procedure is open
  of_module : (n : ℕ) (ls : List (List ℕ → Option Entry)) (o : Option ℕ) → length ls ≡ 2 → IsNested ls o n → (q : List ℕ) (x : Entry) → last_names ls q ≡ Some x → IsOfModule n x.object
  of_module n [] o e h q x at = absurd h
  of_module n (l ∷ []) o e h q x at = absurd h
  of_module n (l ∷ k ∷ []) o e h q x at = h.1 q x at
  of_module n (l ∷ k ∷ m ∷ ls) o e h q x at = absurd (omega (arith, e))

  first_names : (n : ℕ) → AllNames (IsKept w n) (predeclared ∷ no_names ∷ [])
  first_names n = (
    of_predeclared (IsKept w n) (kept_type w n Integer (λ f. (refl, refl))) (kept_type w n Boolean (λ f. (refl, refl))) (kept_type w n Char (λ f. (refl, refl))) (kept_type w n Byte (λ f. (refl, refl))) (kept_type w n Set (λ f. (refl, refl))) (λ s f seen. (tt, tt)),
    ((λ q x at. none_some x at), tt),
  )

  -- the scope in which the next module begins
  next_sound : (p : Source) (m : _) (c : SoFar) (r : I.Module × Making) → ModuleTidy (length c.procedures) (first_making c) r → TidySoFar c → Sound w (first_making c).world → Sound w (r.1).world → Sound w (first_making (with_one p m c r)).world
  next_sound p m c r h tidy start end =
      let number : (r.1).world.module_number ≡ length c.modules = h.grown.module_number in
      let one = append_length c.modules (record { name = spelled p m.name; names = offered_by (r.1).world.levels } ∷ []) in
      record {
        names = first_names (length (with_one p m c r).modules);
        members = each_module (λ n k. (q : List ℕ) (x : Entry) → k.names q ≡ Some x → IsOffered w (length (with_one p m c r).modules) x.object) c.modules (record { name = spelled p m.name; names = offered_by (r.1).world.levels })
            (λ n k at q x is. let o = start.members n k at q x is in (o.0, earlier_later (length c.modules) (length (with_one p m c r).modules) (omega (arith, one)) x.object o.1))
            (λ q x is.
            let there = offered_is (last_names (r.1).world.levels q) x is in
            let kept = last_of (IsKept w (r.1).world.module_number) (r.1).world.levels end.names q x there in
            let own = of_module (r.1).world.module_number (r.1).world.levels (r.1).world.procedure h.depth (h.tidy (first_tidy c tidy)).nested q x there in
            offered_by_module (length c.modules) (length (with_one p m c r).modules) (omega (arith, one)) x.object (subst (λ n. IsKept w n x.object) number kept) (subst (λ n. IsOfModule n x.object) number own));
        fields = end.fields;
        narrowed = refl;
      }

module _ (p : Program) (ok : IsFaithful p.types) (inside : IsInside p) (fine : types_fine p.types ≡ true) (sources : List (List ℕ)) where
  abbrev w : Final
  w = final_of p

  -- from a module's beginning on: all is in the whole program, and the procedures that are judged from here on are well-formed
  pub record After (c : SoFar) (q : I.Program) : Type 0 where
    pub agrees : Agrees w (first_making c)
    pub modules : (n : ℕ) (m : I.Module) → slice_get c.program_modules n ≡ Some m → slice_get q.modules n ≡ Some m
    pub procedures : (f : ℕ) (x : I.Procedure) → slice_get c.procedures f ≡ Some x → slice_get q.procedures f ≡ Some x
    pub made : Sound w (first_making c).world → (f : ℕ) (x : I.Procedure) → length c.procedures ≤ f → slice_get q.procedures f ≡ Some x → IsWell w f x

  -- at the end of all modules
  at_end : (c : SoFar) → TidySoFar c → plain_program sources p ≡ outlined_program (program_of c) → After c (program_of c)
  at_end c tidy same = record {
    agrees = agrees_end p fine (first_making c) end;
    modules = λ n m at. at;
    procedures = λ f x at. at;
    made = λ sound f x past at. let l = get_within c.procedures f x at in absurd (omega (arith, past, l));
  }
    where
      end : IsEnd p (first_making c)
      end = record { records = ap (λ z. z.records) same; bases = ap (λ z. z.pointers) same; procedures = ap (λ z. z.procedures) same; variables = λ v x at. none_some x at; lines = tidy.lines }

  -- a variable of a module, by the module's number
  global_at : (n v : ℕ) (x : Shape) (own : I.Module) (q : I.Program) → plain_program sources p ≡ outlined_program q → slice_get q.modules n ≡ Some own → slice_get own.variables v ≡ Some x → w.global n v ≡ Some x
  global_at n v x own q same at here =
      let m = from_map (plain_module p.types sources) (slice_get p.modules n) own (sym (map_get (plain_module p.types sources) p.modules n) ∙ ap (λ zs. slice_get zs n) (ap (λ z. z.modules) same) ∙ at) in
      let there : globals_of p n ≡ (m.0).variables = ap (λ z. z.variables) (index_at p.modules n m.0 _ m.1) in
      sym (map_get (shape_of p.types) (globals_of p n) v) ∙ ap (λ zs. slice_get (map (shape_of p.types) zs) v) there ∙ ap (λ zs. slice_get zs v) (ap (λ z. z.variables) m.2) ∙ here

  -- what agrees at the next module's beginning agreed at this one's end
  agrees_before : (s : Source) (m : _) (c : SoFar) (r : I.Module × Making) (q : I.Program) → plain_program sources p ≡ outlined_program q → TidySoFar c → ModuleTidy (length c.procedures) (first_making c) r → (r.1).values ≡ 0 → After (with_one s m c r) q → Agrees w r.1
  agrees_before s m c r q same tidy h values after = record {
    there = after.agrees.there;
    extends = after.agrees.extends;
    field = after.agrees.field;
    target = after.agrees.target;
    pointer = after.agrees.pointer;
    procedure = after.agrees.procedure;
    variable = λ v x at.
        let here = after.modules (length c.program_modules) r.0 (get_last c.program_modules r.0) in
        let is = global_at (length c.modules) v x r.0 q same (ap (slice_get q.modules) (sym tidy.many) ∙ here) (ap (λ zs. slice_get zs v) h.variables ∙ at) in
        subst (λ o. IsVariable w o (r.1).world.module_number (r.1).values v x) (sym h.grown.procedure)
        (subst (λ n. w.global n ((r.1).values + v) ≡ Some x) (sym h.grown.module_number)
        (subst (λ n. w.global (length c.modules) (n + v) ≡ Some x) (sym values)
        (let e : 0 + v ≡ v = omega arith in ap (w.global (length c.modules)) e ∙ is)));
  }

  one_module : (s : Source) (m : _) (c : SoFar) (r : I.Module × Making) (q : I.Program) (read : IsRead s) → plain_program sources p ≡ outlined_program q → TidySoFar c → ModuleTidy (length c.procedures) (first_making c) r
      → ModuleDone w s (λ f. order_of p ok fine f) read (first_making c) r → After (with_one s m c r) q → After c q
  one_module s m c r q read same tidy h done after =
      let agrees = agrees_before s m c r q same tidy h done.values after in
      record {
        agrees = agrees_back w (first_making c) r.1 h.grown agrees;
        modules = λ n k at. after.modules n k (get_append c.program_modules (r.0 ∷ []) n (get_within c.program_modules n k at) ∙ at);
        procedures = λ f x at. after.procedures f x (h.grown.procedures f (get_within c.procedures f x at) ∙ at);
        made = λ sound f x from at.
            let here = done.sound refl agrees sound in
            elim (less_or_past f (length (r.1).procedures)) as (λ _. IsWell w f x) [
              | inl less ↦
                  let y = there_at (r.1).procedures f less in
                  subst (IsWell w f) (some_same y.0 x (sym (after.procedures f y.0 y.1) ∙ at)) ((here.1).each f y.0 from y.1)
              | inr past ↦ after.made (next_sound w s m c r h tidy sound here.0) f x past at
            ];
      }

  all_after : (ms : List Parsed) → AreRead ms → (c : SoFar) (q : I.Program) → TidySoFar c → checked_after c ms ≡ Legal q → plain_program sources p ≡ outlined_program q → After c q
  all_after [] read c q tidy is same =
      let e = legal_same (program_of c) q is in
      subst (After c) e (at_end c tidy (subst (λ z. plain_program sources p ≡ outlined_program z) (sym e) same))
  all_after (m ∷ ms) read c q tidy is same =
      let k = accepted (with_module m.source m.tree c) (length c.modules) (λ d. checked_after d ms) q is in
      let b = bound (module_part m.source m.tree (first_making c)) (λ r. Keeps (with_one m.source m.tree c r)) k.0 k.1 in
      let e = kept_same (with_one m.source m.tree c b.0) k.0 b.2 in
      let h = given b.0 (s_module (length c.procedures) m.source m.tree (first_making c)) b.1 in
      let done = given b.0 (k_module w m.source (λ f. order_of p ok fine f) read.0 m.tree (first_making c)) b.1 in
      one_module m.source m.tree c b.0 q read.0 same tidy h done
      (all_after ms read.1 (with_one m.source m.tree c b.0) q (with_one_tidy m.source m.tree c b.0 h tidy) (ap (λ d. checked_after d ms) e ∙ k.2) same)

  module _ (ms : List Parsed) (read : AreRead ms) (q : I.Program) (is : checked ms ≡ Legal q) (same : plain_program sources p ≡ outlined_program q) where
    well : (f : ℕ) (x : I.Procedure) → slice_get q.procedures f ≡ Some x → IsWell w f x
    well f x at = (all_after ms read no_modules q none_tidy is same).made (first_sound w) f x (omega arith) at

    -- a procedure's image, which is well-formed
    image : (f : ℕ) (r : ProcedureOf) → slice_get p.procedures f ≡ Some r → (k : I.Procedure) × IsWell w f k × (plain_procedure p.types r ≡ outlined_procedure (pointer_bases p.types.kinds) k)
    image f r at =
        let k = two_maps (outlined_procedure q.pointers) (plain_procedure p.types) q.procedures p.procedures f r (sym (ap (λ z. z.procedures) same)) at in
        (k.0, well f k.0 k.1, sym k.2 ∙ ap (λ bs. outlined_procedure bs k.0) (sym (ap (λ z. z.pointers) same)))

    pub procedures_fine : all_below (length p.procedures) (procedure_fine p) ≡ true
    procedures_fine = below_from (length p.procedures) (procedure_fine p) (λ f l.
        let r = there_at p.procedures f l in
        let k = image f r.0 r.1 in
        procedure_well p ok inside f k.0 k.1 (ap (plain_procedure p.types) (index_at p.procedures f r.0 _ r.1) ∙ k.2))

    pub strings_bytes : AreBytes p ok inside fine (texts_of p.procedures)
    strings_bytes = texts_bytes p ok inside fine p.procedures (λ f r at. let k = image f r at in subst (AreBytes p ok inside fine) (sym (ap (λ z. z.texts) k.2)) (well_bytes p ok inside fine f k.0 k.1))
