-- A program of one module: its procedures and its body are well-formed.
use Rattle.std.proofs.Common.{◌≡◌, ℕ, zero, suc, ◌+◌, ◌<◌, List, [], ◌∷◌, ◌++◌, map, length, true, Some, refl, ap, ap₂, sym, ◌∙◌, subst, arith}
use Rattle.std.specs.Prelude.{slice_get, slice_index_or, nat_lt}
use Rattle.ob_types.specs.declared.program.Module.{Module as ModuleOf}
use Rattle.ob_types.specs.declared.program.Procedure.{Procedure as ProcedureOf}
use Rattle.ob_types.specs.declared.program.Program.{Program}
use Rattle.ob_types.specs.Meaning.{globals_of}
use Rattle.ob_types.specs.Meaning.{texts_of as texts_of_all}
use Rattle.ob_types.specs.Forms.{all_below, types_fine, all}
use Rattle.ob_types.specs.WellFormed.{procedure_fine}
use Rattle.ob_types.proofs.Tests.{none_some, below_from, and_of, and_from}
use Rattle.ob_judge.specs.Judged.{Judged, Keeps, Breaks, ◌>>=◌}
use Rattle.ob_judge.specs.Shapes.{Shape}
use Rattle.ob_judge.specs.Image.{Procedure}
use Rattle.ob_judge.specs.Image as Tree
use Rattle.ob_judge.specs.Making.{Making}
use Rattle.ob_judge.specs.Modules.{no_modules, offered_by, first_making, module_part, Parsed, Legal, judged_after, checked_after, checked, record_form}
use Rattle.ob_judge.specs.Scopes.{spelled}
use Rattle.judged_tree.specs.TypeShapes.{shape_of, pointer_bases}
use Rattle.judged_tree.specs.Plain.{plain_module, plain_procedure, plain_program}
use Rattle.judged_tree.specs.Outline.{outlined_procedure, outlined_program}
use Rattle.judged_well.specs.Standing.{IsRead}
use Rattle.judged_well.specs.OfProgram.{IsFaithful, IsInside, setting_of}
use Rattle.judged_well.proofs.Whole.{order_of}
use Rattle.judged_modules.specs.Final.{final_of}
use Rattle.judged_modules.specs.Agrees.{IsVariable, records_of, bases_of}
use Rattle.judged_modules.specs.Made.{AllMade, IsWell}
use Rattle.judged_modules.proofs.Keeping.{given}
use Rattle.judged_modules.proofs.ModulesStand.{first_sound, ModuleDone, k_module}
use Rattle.judged_modules.proofs.Agreement.{map_get, index_at, two_maps, IsEnd, agrees_end}
use Rattle.judged_modules.proofs.Fine.{procedure_well}
use Rattle.ob_judge.specs.Texts.{in_statements, in_answer}
use Rattle.judged_well.proofs.Spelled.{b_statements, answer_bytes}
use Rattle.judged_well.specs.Typing.{outline}

kept_same : {A : Type 0} (a b : A) → Keeps a ≡ Keeps b → a ≡ b
kept_same a b h = cc

legal_same : (a b : Tree.Program) → Legal a ≡ Legal b → a ≡ b
legal_same a b h = cc

pub there_at : {A : Type 0} (xs : List A) (n : ℕ) → n < length xs → (x : A) × (slice_get xs n ≡ Some x)
there_at [] n l = absurd (omega (arith, l))
there_at (x ∷ xs) zero l = (x, refl)
there_at (x ∷ xs) (suc n) l = there_at xs n (omega (arith, l))

-- what the judgement of one module went through
pub record Went (m : Parsed) (q : Tree.Program) : Type 0 where
  pub own : Tree.Module
  pub end : Making
  pub is : module_part m.source m.tree (first_making no_modules) ≡ Keeps (own, end)
  pub records : q.records ≡ map record_form (records_of end)
  pub pointers : q.pointers ≡ bases_of end
  pub modules : q.modules ≡ own ∷ []
  pub procedures : q.procedures ≡ end.procedures

legal_went : (m : Parsed) (q : Tree.Program) → checked (m ∷ []) ≡ Legal q → Went m q
legal_went m q is = by (module_part m.source m.tree (first_making no_modules)) refl is
  where
    by : (j : Judged (Tree.Module × Making)) → module_part m.source m.tree (first_making no_modules) ≡ j
        → judged_after (j >>= λ r. Keeps (record {
          imports_in = (r.1).imports_in;
          modules = no_modules.modules ++ record { name = spelled m.source (m.tree).name; names = offered_by (r.1).world.levels } ∷ [];
          known = (r.1).world.known;
          program_modules = no_modules.program_modules ++ r.0 ∷ [];
          procedures = (r.1).procedures;
        })) 0 (λ d. checked_after d []) ≡ Legal q → Went m q
    by (Keeps r) at h =
        let same = legal_same _ q h in
        record { own = r.0; end = r.1; is = at; records = ap (λ z. z.records) (sym same); pointers = ap (λ z. z.pointers) (sym same); modules = ap (λ z. z.modules) (sym same); procedures = ap (λ z. z.procedures) (sym same) }
    by (Breaks n place) at h = absurd (let z = h in cc)

module _ (p : Program) (ok : IsFaithful p.types) (inside : IsInside p) (fine : types_fine p.types ≡ true) where
  -- the program's procedures have images that are well-formed
  abbrev AllWell : Type 0
  AllWell = (f : ℕ) (r : ProcedureOf) → slice_get p.procedures f ≡ Some r → (k : Procedure) × IsWell (final_of p) f k × (plain_procedure p.types r ≡ outlined_procedure (pointer_bases p.types.kinds) k)

  all_well : (m : Parsed) → IsRead m.source → (q : Tree.Program) → checked (m ∷ []) ≡ Legal q → (sources : List (List ℕ)) → plain_program sources p ≡ outlined_program q → AllWell
  all_well m read q is sources same = one
    where
      went : Went m q
      went = legal_went m q is

      done : ModuleDone (final_of p) m.source (λ f. order_of p ok fine f) read (first_making no_modules) (went.own, went.end)
      done = given (went.own, went.end) (k_module (final_of p) m.source (λ f. order_of p ok fine f) read m.tree (first_making no_modules)) went.is

      modules : map (plain_module p.types sources) p.modules ≡ went.own ∷ []
      modules = ap (λ z. z.modules) same ∙ went.modules

      only : (ms : List ModuleOf) → map (plain_module p.types sources) ms ≡ went.own ∷ [] → map (shape_of p.types) (slice_index_or ms 0 (record { name = []; objects = []; variables = []; body = 0 })).variables ≡ (went.own).variables
      only [] h = absurd (let z = h in cc)
      only (x ∷ ms) h = ap (λ z. z.variables) (head_same _ _ _ _ h)
        where
          head_same : (a b : Tree.Module) (xs ys : List Tree.Module) → a ∷ xs ≡ b ∷ ys → a ≡ b
          head_same a b xs ys e = cc

      variable : (v : ℕ) (x : Shape) → slice_get (went.end).variables v ≡ Some x → IsVariable (final_of p) (went.end).world.procedure (went.end).world.module_number (went.end).values v x
      variable v x at =
          subst (λ o. IsVariable (final_of p) o (went.end).world.module_number (went.end).values v x) (sym done.grown.procedure)
          (subst (λ n. (final_of p).global n ((went.end).values + v) ≡ Some x) (sym done.grown.module_number)
          (subst (λ n. (final_of p).global 0 (n + v) ≡ Some x) (sym done.values)
          (let e : 0 + v ≡ v = omega arith in
          ap ((final_of p).global 0) e ∙ sym (map_get (shape_of p.types) (globals_of p 0) v) ∙ ap (λ zs. slice_get zs v) (only p.modules modules ∙ done.variables) ∙ at)))

      end : IsEnd p went.end
      end = record {
        records = ap (λ z. z.records) same ∙ went.records;
        bases = ap (λ z. z.pointers) same ∙ went.pointers;
        procedures = ap (λ z. z.procedures) same ∙ ap₂ (λ bs qs. map (outlined_procedure bs) qs) went.pointers went.procedures;
        variables = variable;
        lines = done.grown.lines (λ r l at. none_some l at);
      }

      made : AllMade (final_of p) 0 went.end
      made = (done.sound refl (agrees_end p fine went.end end) (first_sound (final_of p))).1

      one : AllWell
      one f r at =
          let k = two_maps (outlined_procedure (bases_of went.end)) (plain_procedure p.types) (went.end).procedures p.procedures f r (sym end.procedures) at in
          (k.0, made.each f k.0 (omega arith) k.1, sym k.2 ∙ ap (λ bs. outlined_procedure bs k.0) (sym end.bases))

  pub all_fine : (m : Parsed) → IsRead m.source → (q : Tree.Program) → checked (m ∷ []) ≡ Legal q → (sources : List (List ℕ)) → plain_program sources p ≡ outlined_program q → all_below (length p.procedures) (procedure_fine p) ≡ true
  all_fine m read q is sources same = below_from (length p.procedures) (procedure_fine p) (λ f l.
      let r = there_at p.procedures f l in
      let k = all_well m read q is sources same f r.0 r.1 in
      procedure_well p ok inside f k.0 k.1 (ap (plain_procedure p.types) (index_at p.procedures f r.0 _ r.1) ∙ k.2))

  -- ---- strings

  abbrev pub AreBytes : List (List ℕ) → Type 0
  AreBytes xs = all (all (λ c. nat_lt c 256)) xs ≡ true

  bytes_both : (xs ys : List (List ℕ)) → AreBytes xs → AreBytes ys → AreBytes (xs ++ ys)
  bytes_both [] ys h k = k
  bytes_both (x ∷ xs) ys h k = let g = and_of (all (λ c. nat_lt c 256) x) (all (all (λ c. nat_lt c 256)) xs) h in and_from (all (λ c. nat_lt c 256) x) (all (all (λ c. nat_lt c 256)) (xs ++ ys)) g.0 (bytes_both xs ys g.1 k)

  pub well_bytes : (f : ℕ) (k : Procedure) → IsWell (final_of p) f k → AreBytes k.texts
  well_bytes f k well = subst AreBytes (sym well.texts) (bytes_both (in_statements k.body) (in_answer k.answer)
      (b_statements (setting_of p f) (outline (setting_of p f)) k.body well.body) (answer_bytes (setting_of p f) k.result k.answer well.answer))

  pub texts_bytes : (rs : List ProcedureOf) → ((f : ℕ) (r : ProcedureOf) → slice_get rs f ≡ Some r → AreBytes r.texts) → AreBytes (texts_of_all rs)
  texts_bytes [] h = refl
  texts_bytes (r ∷ rs) h = bytes_both r.texts (texts_of_all rs) (h 0 r refl) (texts_bytes rs (λ f x at. h (suc f) x at))

  pub all_bytes : (m : Parsed) → IsRead m.source → (q : Tree.Program) → checked (m ∷ []) ≡ Legal q → (sources : List (List ℕ)) → plain_program sources p ≡ outlined_program q → AreBytes (texts_of_all p.procedures)
  all_bytes m read q is sources same = texts_bytes p.procedures (λ f r at. let k = all_well m read q is sources same f r at in subst AreBytes (sym (ap (λ z. z.texts) k.2)) (well_bytes f k.0 k.1))
