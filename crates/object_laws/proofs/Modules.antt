-- How many procedures the first modules have, and which flows their programs.
use Rattle.std.proofs.Common.{◌≡◌, ℕ, zero, suc, ◌<◌, List, [], ◌∷◌, ◌++◌, map, length, take, false, Some, refl, sym, ap, subst, ◌∙◌, eq-eqb, ne_eqb, arith}
use Rattle.std.specs.Prelude.{slice_get, ◌==◌, if◌then◌else◌}
use Rattle.std.proofs.lemmas.List.{length-map}
use Rattle.ob_symbol.specs.declared.symbol.Symbol.{Symbol}
use Rattle.ob_syntax.specs.declared.modules.Module.{Module}
use Rattle.ob_syntax.specs.Plain.{plain_module}
use Rattle.ob_read.specs.Texts.{IsModuleText}
use Rattle.ob_types.specs.declared.program.Procedure.{Procedure}
use Rattle.ob_types.specs.declared.program.Program.{Program}
use Rattle.ob_judge.specs.Image as I
use Rattle.ob_judge.specs.Modules.{Parsed, Verdict, Legal, Fault, checked}
use Rattle.judged_tree.specs.Outline.{outlined_procedure}
use Rattle.judged_tree.specs.Plain.{plain_procedure}
use Rattle.judged_programs.specs.ProgramOf.{IsProgramOf}
use Rattle.judged_fronts.specs.Fronts.{IsByModules}
use Rattle.judged_fronts.proofs.Modules.{modules_stay, by_modules}
use Rattle.module_object.specs.words.source_program.Texts.{AreParsed, IsProgramOfTexts}
use Rattle.module_object.proofs.words.text_laws.one_program.Reading.{all_parsed_once}
use Rattle.module_object.specs.Objects.{before_module}
use Rattle.object_laws.proofs.Lists.{length_first, item_at, mapped_at}

---- Procedures before a module's

abbrev before_number : ℕ → List ℕ → ℕ
before_number m [] = 0
before_number m (n ∷ ns) = if n == m then 0 else suc (before_number m ns)

as_numbers : (m : ℕ) (qs : List Procedure) → before_module m qs ≡ before_number m (map (λ q. q.«module») qs)
as_numbers m [] = refl
as_numbers m (q ∷ qs) = ap (λ n. if q.«module» == m then 0 else suc n) (as_numbers m qs)

apart : (n m : ℕ) → n < m → (n == m) ≡ false
apart n m l = ne_eqb n m (λ e. omega (arith, l, e))

found : (number count : ℕ) (ns : List ℕ) → ((f n : ℕ) → f < count → slice_get ns f ≡ Some n → n < number) → ((n : ℕ) → slice_get ns count ≡ Some n → n ≡ number) → count < length ns
    → before_number number ns ≡ count
found number count [] below own l = absurd (omega (arith, l))
found number zero (n ∷ ns) below own l = ap (λ b. if b then 0 else suc (before_number number ns)) (eq-eqb n number (own n refl))
found number (suc count) (n ∷ ns) below own l =
    ap (λ b. if b then 0 else suc (before_number number ns)) (apart n number (below 0 n (omega arith) refl))
    ∙ ap suc (found number count ns (λ f v less at. below (suc f) v (omega (arith, less)) at) own (omega (arith, l)))

-- in an image
found_in : (number count : ℕ) (qs : List I.Procedure) → IsByModules number count qs → before_number number (map (λ q. q.module_number) qs) ≡ count
found_in number count qs h =
    let long = length-map qs (λ (q : I.Procedure). q.module_number) in
    let some = h.some in
    found number count (map (λ q. q.module_number) qs)
    (λ f n less at. let q = mapped_at (λ (x : I.Procedure). x.module_number) qs f n at in subst (λ m. m < number) q.2 (h.before f q.0 less q.1))
    (λ n at. let q = mapped_at (λ (x : I.Procedure). x.module_number) qs count n at in sym q.2 ∙ h.own count q.0 (omega arith) q.1)
    (omega (arith, long, some))

---- Programs of images

-- how many procedures there are
abbrev pub procedures_in : Verdict → ℕ
procedures_in (Legal image) = length image.procedures
procedures_in (Fault number rule at) = 0

module _ (ms : List Parsed) (p : Program) (x : IsProgramOf ms p) where
  numbers_same : map (λ q. q.«module») p.procedures ≡ map (λ q. q.module_number) x.image.procedures
  numbers_same = plain_numbers p.procedures ∙ (ap (λ (q : I.Program). map (λ (r : I.Procedure). r.module_number) q.procedures) x.same ∙ outlined_numbers x.image.procedures)
    where
      plain_numbers : (qs : List Procedure) → map (λ q. q.«module») qs ≡ map (λ r. r.module_number) (map (plain_procedure p.types) qs)
      plain_numbers [] = refl
      plain_numbers (q ∷ qs) = ap (λ ns. q.«module» ∷ ns) (plain_numbers qs)

      outlined_numbers : (qs : List I.Procedure) → map (λ r. r.module_number) (map (outlined_procedure x.image.pointers) qs) ≡ map (λ r. r.module_number) qs
      outlined_numbers [] = refl
      outlined_numbers (q ∷ qs) = ap (λ ns. q.module_number ∷ ns) (outlined_numbers qs)

  pub procedures_counted : length p.procedures ≡ procedures_in (checked ms)
  procedures_counted =
      sym (length-map p.procedures (λ (q : Procedure). q.«module»))
      ∙ (ap length numbers_same ∙ (length-map x.image.procedures (λ (q : I.Procedure). q.module_number) ∙ sym (ap procedures_in x.legal)))

  before_same : (m : ℕ) → before_module m p.procedures ≡ before_number m (map (λ q. q.module_number) x.image.procedures)
  before_same m = as_numbers m p.procedures ∙ ap (before_number m) numbers_same

---- The first texts

parsed_first : (n : ℕ) (ts : List (List ℕ)) (ms : List Parsed) → AreParsed ts ms → AreParsed (take n ts) (take n ms)
parsed_first zero ts ms h = tt
parsed_first (suc n) [] [] h = tt
parsed_first (suc n) [] (m ∷ ms) h = absurd h
parsed_first (suc n) (t ∷ ts) [] h = absurd h
parsed_first (suc n) (t ∷ ts) (m ∷ ms) h = (h.0, parsed_first n ts ms h.1)

pub parsed_many : (ts : List (List ℕ)) (ms : List Parsed) → AreParsed ts ms → length ms ≡ length ts
parsed_many [] [] h = refl
parsed_many [] (m ∷ ms) h = absurd h
parsed_many (t ∷ ts) [] h = absurd h
parsed_many (t ∷ ts) (m ∷ ms) h = ap suc (parsed_many ts ms h.1)

-- where a text has one reading
module _ (read_once : (w : List ℕ) (a b : List Symbol) (m n : Module) → IsModuleText w a m → IsModuleText w b n → (a ≡ b) × (plain_module m ≡ plain_module n))
    (texts : List (List ℕ)) (q : Program) (y : IsProgramOfTexts texts q) where
  pub of_first : (i : ℕ) (p : Program) → IsProgramOfTexts (take i texts) p → IsProgramOf (take i y.modules) p
  of_first i p x = subst (λ ms. IsProgramOf ms p) (all_parsed_once read_once (take i texts) x.modules (take i y.modules) x.are_parsed (parsed_first i texts y.modules y.are_parsed)) x.program

  -- how many procedures the first so many modules have
  abbrev pub count : ℕ → ℕ
  count i = procedures_in (checked (take i y.modules))

  -- where the procedures of a module begin
  pub record Begins (i : ℕ) (p : Program) : Type 0 where
    pub before : before_module i p.procedures ≡ count i
    pub all : length p.procedures ≡ count (suc i)
    pub more : count i < count (suc i)

  pub begins : (i : ℕ) (p : Program) → i < length texts → IsProgramOfTexts (take (suc i) texts) p → Begins i p
  begins i p l x =
      let z = of_first (suc i) p x in
      let long = parsed_many texts y.modules y.are_parsed in
      let last = item_at i y.modules (omega (arith, l, long)) in
      let legal : checked (take i y.modules ++ last.item ∷ []) ≡ Legal z.image = subst (λ ms. checked ms ≡ Legal z.image) last.first z.legal in
      let start = modules_stay (take i y.modules) (last.item ∷ []) z.image legal in
      let by = by_modules (take i y.modules) last.item start.0 z.image start.1 legal in
      let here : IsByModules i (length start.0.procedures) z.image.procedures = subst (λ n. IsByModules n (length start.0.procedures) z.image.procedures) (length_first i y.modules (omega (arith, l, long))) by in
      let counted : count i ≡ length start.0.procedures = ap procedures_in start.1 in
      let all = procedures_counted (take (suc i) y.modules) p z in
      let legal_count : count (suc i) ≡ length z.image.procedures = ap procedures_in z.legal in
      let some = here.some in
      record {
        before = before_same (take (suc i) y.modules) p z i ∙ (found_in i (length start.0.procedures) z.image.procedures here ∙ sym counted);
        all = all;
        more = omega (arith, counted, legal_count, some);
      }
