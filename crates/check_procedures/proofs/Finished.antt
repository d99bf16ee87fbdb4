-- A procedure that is complete stands for the judgement's.
use Rattle.std.proofs.Common.{◌≡◌, ◌<◌, ◌≤◌, ℕ, List, [], ◌∷◌, map, false, Option, Some, Result, Ok, Err, length, refl, sym, ap, ap₂, ◌∙◌, subst, arith}
use Rattle.std.specs.Prelude.{option_map, slice_get, Vec}
use Rattle.std.specs.Global.{Global}
use Rattle.std.specs.Str.{bytes_eq}
use Rattle.std.proofs.lemmas.Option.{slice_get_within}
use Rattle.ob_types.specs.declared.types.Formal.{Formal}
use Rattle.ob_types.specs.declared.program.Procedure.{Procedure}
use Rattle.ob_types.specs.declared.statements.Stmt.{Stmt}
use Rattle.ob_types.specs.declared.statements.Checked.{Checked}
use Rattle.ob_judge.specs.Image as I
use Rattle.ob_judge.specs.Judged.{Judged, Keeps, ◌>>=◌, ◌>>◌, rule}
use Rattle.ob_judge.specs.Shapes.{Shape}
use Rattle.ob_judge.specs.Texts.{texts_of}
use Rattle.ob_judge.specs.Scopes.{World, Source, place, spelled, line}
use Rattle.ob_judge.specs.Statements.{body_of}
use Rattle.ob_judge.specs.Declarations.{answer}
use Rattle.ob_judge.specs.Making.{Making}
use Rattle.ob_judge.specs.Modules.{SoFar}
use Rattle.ob_judge.specs.Parameters.{Listed}
use Rattle.judged_tree.specs.Plain.{plain_body, plain_checked, plain_formal, plain_procedure}
use Rattle.judged_tree.specs.Outline.{outlined_procedure}
use Rattle.judged_tree.specs.Tables.{are_before}
use Rattle.judged_outlines.specs.Upright.{Upright}
use Rattle.judged_outlines.proofs.Outlined.{procedure_outlined}
use Rattle.check_procedures.specs.declared.numbers.renumbering.Numbered.{Numbered}
use Rattle.check_types.specs.steps.Answers.{Answers}
use Rattle.check_types.specs.declared.steps.fault.CheckFault.{CheckFault}
use Rattle.check_types.proofs.steps.Answering.{as_judged, stop}
use Rattle.check_types.specs.declared.names.scope.Scope.{Scope}
use Rattle.check_types.specs.names.Worlds.{world_of}
use Rattle.check_types.specs.names.Worlds.{table_of as table_in}
use Rattle.check_operands.specs.Operands.{texts_of as texts_in}
use Rattle.check_selectors.specs.standard.Made.{IsKept}
use Rattle.check_statements.specs.Standing.{AreStatements}
use Rattle.check_statements.specs.assignments.Assigned.{IsAnswer}
use Rattle.check_types.specs.TypeMeaning.{type_shape}
use Rattle.check_types.specs.declared.types.TypeRef.{TypeRef}
use Rattle.check_types.specs.declared.table.TypeTable.{TypeTable}
use Rattle.check_types.specs.declared.types.TypeRef.TheVariants as TheType
use Rattle.check_procedures.specs.numbers.Numbering.{NumbersAll}
use Rattle.table_builder.specs.declared.builder.TableBuilder.{TableBuilder}
use Rattle.table_builder.specs.Builder.{IsBuilt}
use Rattle.table_builder.specs.Growing.{Grows}
use Rattle.table_builder.proofs.Lists.{there}
use Rattle.judged_modules.specs.steps.Procedures.{OneProcedure}
use Rattle.judged_modules.specs.steps.Steps.{completed}
use Rattle.judged_modules.specs.steps.Frames.{Begins}
use Rattle.check_making.specs.declared.making.Declaring.{Declaring}
use Rattle.check_making.specs.declared.making.Surroundings.{Surroundings}
use Rattle.check_making.specs.Making.{world_in, Makes}
use Rattle.check_making.specs.declared.parameters.sections.Heading.{Heading}
use Rattle.check_making.specs.parameters.Headings.{IsHeading}
use Rattle.check_making.specs.scopes.Building.{StandsFor}
use Rattle.check_making.specs.scopes.InTurn.{UseInTurn}
use Rattle.check_making.specs.scopes.Numbers.{AreNumbersOf}
use Rattle.check_making.proofs.scopes.ByNumber.{numbers_mean, numbers_still}
use Rattle.check_making.proofs.scopes.Procedures.{number_means, number_still, begins_self}
use Rattle.check_procedures.specs.Completing.{judged_with, IsBody, HasLocals, HasLine, IsCompleted}
use Rattle.check_procedures.proofs.Giving.{then_so, rule_stops}
use Rattle.check_procedures.proofs.Texts.{texts_same}
use Rattle.check_making.proofs.headings.Heads.{by_given as came}

-- a procedure that isn't a module's body, by its parts
abbrev by_parts : ℕ → ℕ → List I.Formal → Shape → List Shape → List (List ℕ) → I.Statements → Option I.Checked → I.Procedure
by_parts m l fs r ls ts b a = record { module_number = m; line = l; is_body = false; formals = fs; result = r; locals = ls; texts = ts; body = b; answer = a }

parts_same : (m n l k : ℕ) (fs gs : List I.Formal) (r s : Shape) (ls ks : List Shape) (ts us : List (List ℕ)) (b c : I.Statements) (a d : Option I.Checked)
    → m ≡ n → l ≡ k → fs ≡ gs → r ≡ s → ls ≡ ks → ts ≡ us → b ≡ c → a ≡ d → by_parts m l fs r ls ts b a ≡ by_parts n k gs s ks us c d
parts_same m n l k fs gs r s ls ks ts us b c a d e1 e2 e3 e4 e5 e6 e7 e8 =
    ap (λ z. by_parts z l fs r ls ts b a) e1 ∙ ap (λ z. by_parts n z fs r ls ts b a) e2 ∙ ap (λ z. by_parts n k z r ls ts b a) e3 ∙ ap (λ z. by_parts n k gs z ls ts b a) e4
    ∙ ap (λ z. by_parts n k gs s z ts b a) e5 ∙ ap (λ z. by_parts n k gs s ks z b a) e6 ∙ ap (λ z. by_parts n k gs s ks us z a) e7 ∙ ap (λ z. by_parts n k gs s ks us c z) e8

-- ---- the code's procedure, there and in a table that grew

module _ (t u : TypeTable) (g : Grows t u) where
  formals_still : (xs : List Formal) → are_before (length t.entries.items) xs → map (plain_formal u.types) xs ≡ map (plain_formal t.types) xs
  formals_still [] h = refl
  formals_still (x ∷ xs) h =
      let e = there t.entries.items x.type_number h.0 in
      ap₂ (λ (z : Shape) (fs : List I.Formal). record { mode = x.mode; variable = x.variable; shape = z } ∷ fs) (number_still t u g x.type_number e.0 e.1) (formals_still xs h.1)

module _ (t : TypeTable) (m line : ℕ) (formals : List Formal) (result : ℕ) (of : TypeRef) (locals : List ℕ) (variables : List TypeRef) (n : Numbered)
    (entry : slice_get t.entries.items result ≡ Some of) (numbers : AreNumbersOf t.entries.items locals variables) where
  abbrev made : Procedure
  made = record { «module» = m; line = line; is_body = false; formals = formals; result = result; locals = locals; texts = n.texts; body = n.body; answer = n.answer }

  pub made_image : plain_procedure t.types made
      ≡ by_parts m line (map (plain_formal t.types) formals) (type_shape t.types of) (map (type_shape t.types) variables) n.texts (plain_body t.types n.texts n.body) (option_map (plain_checked t.types n.texts) n.answer)
  made_image = parts_same m m line line _ _ _ _ _ _ _ _ _ _ _ _ refl refl refl (number_means t result of entry) (numbers_mean t locals variables numbers) refl refl refl

  pub made_still : (u : TypeTable) → Grows t u → are_before (length t.entries.items) formals → plain_body u.types n.texts n.body ≡ plain_body t.types n.texts n.body
      → option_map (plain_checked u.types n.texts) n.answer ≡ option_map (plain_checked t.types n.texts) n.answer → plain_procedure u.types made ≡ plain_procedure t.types made
  made_still u g before body answer =
      parts_same m m line line _ _ _ _ _ _ _ _ _ _ _ _ refl refl (formals_still t u g formals before) (number_still t u g result of entry) (numbers_still t u g locals variables numbers) refl body answer

-- ---- the judgement's

-- statements with final numbers, as `numbers` gives them
pub record IsRenumbered (t : TypeTable) (texts : List (List ℕ)) (body : List Stmt) (given : Option Checked) (n : Numbered) : Type 0 where
  pub all : n.texts ≡ texts_of (plain_body t.types texts body) (option_map (plain_checked t.types texts) given)
  pub body_same : plain_body t.types n.texts n.body ≡ plain_body t.types texts body
  pub answer_same : option_map (plain_checked t.types n.texts) n.answer ≡ option_map (plain_checked t.types texts) given
  pub body_stays : (u : TypeTable) → Grows t u → length u.types.signatures ≤ 4294967295 → plain_body u.types n.texts n.body ≡ plain_body t.types n.texts n.body
  pub answer_stays : (u : TypeTable) → Grows t u → length u.types.signatures ≤ 4294967295 → option_map (plain_checked u.types n.texts) n.answer ≡ option_map (plain_checked t.types n.texts) n.answer
  pub in_turn : UseInTurn n.texts n.body n.answer

-- ---- the body, part by part

module _ (p : Source) (q : OneProcedure) (h : Listed × Shape) (m : Making) (scope : Scope) (outcome : TypeRef)
    (source : scope.source.now ≡ p) (world : world_of scope ≡ m.world) (result_is : type_shape (table_in scope) outcome ≡ h.1) where
  abbrev BodyIs : Result (Vec Stmt Global) CheckFault → Type 0
  BodyIs result = Answers (AreStatements scope) (body_of scope.source.now (world_of scope) q.body) result

  abbrev AnswerIs : Result (Option Checked) CheckFault → Type 0
  AnswerIs result = Answers (IsAnswer scope) (answer scope.source.now (type_shape (table_in scope) outcome) q.end_word q.returned (world_of scope)) result

  abbrev named : Judged (Unit {0})
  named = rule 37 (place p q.end_name) (bytes_eq (spelled p q.end_name) (spelled p q.name.name))

  body_here : {result : Result (Vec Stmt Global) CheckFault} → BodyIs result → Answers (AreStatements scope) (body_of p m.world q.body) result
  body_here {result = result} k =
      subst (λ w. Answers (AreStatements scope) (body_of p w q.body) result) world (subst (λ z. Answers (AreStatements scope) (body_of z (world_of scope) q.body) result) source k)

  answer_here : {result : Result (Option Checked) CheckFault} → AnswerIs result → Answers (IsAnswer scope) (answer p h.1 q.end_word q.returned m.world) result
  answer_here {result = result} k =
      subst (λ z. Answers (IsAnswer scope) (answer p z q.end_word q.returned m.world) result) result_is
      (subst (λ w. Answers (IsAnswer scope) (answer p (type_shape (table_in scope) outcome) q.end_word q.returned w) result) world
      (subst (λ z. Answers (IsAnswer scope) (answer z (type_shape (table_in scope) outcome) q.end_word q.returned (world_of scope)) result) source k))

  pub no_body : {B : Type 0} {S : B → I.Procedure → Type 0} {e : CheckFault} → BodyIs (Err e) → Answers S (completed p q h m) (Err e)
  no_body k = stop _ _ (body_here k)

  pub no_answer : {B : Type 0} {S : B → I.Procedure → Type 0} {e : CheckFault} {body : Vec Stmt Global} → BodyIs (Ok body) → AnswerIs (Err e) → Answers S (completed p q h m) (Err e)
  no_answer j k = then_so _ _ (body_here j) (λ b is_body body_is. stop _ _ (answer_here k))

  pub no_name : {B : Type 0} {S : B → I.Procedure → Type 0} {e : CheckFault} {body : Vec Stmt Global} {given : Option Checked} → BodyIs (Ok body) → AnswerIs (Ok given) → Answers IsKept named (Err e) → Answers S (completed p q h m) (Err e)
  no_name {S = S} {e = e} j k l = then_so _ _ (body_here j) (λ b is_body body_is. then_so _ _ (answer_here k) (λ a is_answer answer_is. rule_stops named _ l))

  pub body_is_judged : (body : Vec Stmt Global) (given : Option Checked) (n : Numbered) → IsRenumbered scope.types.now (texts_in scope) body.items given n
      → BodyIs (Ok body) → AnswerIs (Ok given) → Answers IsKept named (Ok tt) → Answers (IsBody p q h m scope.types.now) (completed p q h m) (Ok n)
  body_is_judged body given n renumbered j l o =
      came (body_of p m.world q.body) (body_here j) (λ b is_body body_is.
      came (answer p h.1 q.end_word q.returned m.world) (answer_here l) (λ a is_answer answer_is.
      came named o (λ u is_named kept.
      as_judged (completed_keeps b a u is_body is_answer is_named) (record {
        by = record {
          statements = b;
          value = a;
          same = refl;
          texts = renumbered.all ∙ ap₂ texts_of body_is answer_is ∙ texts_same scope.types.now.bases.items b a;
          body = renumbered.body_same ∙ body_is;
          answer = renumbered.answer_same ∙ answer_is;
          body_stays = λ u later. renumbered.body_stays u later.grows later.few;
          answer_stays = λ u later. renumbered.answer_stays u later.grows later.few;
          in_turn = renumbered.in_turn;
        };
      }))))
    where
      completed_keeps : (b : I.Statements) (a : Option I.Checked) (u : Unit {0}) → body_of p m.world q.body ≡ Keeps b → answer p h.1 q.end_word q.returned m.world ≡ Keeps a → named ≡ Keeps u
          → completed p q h m ≡ Keeps (judged_with p q h m b a)
      completed_keeps b a u e1 e2 e3 =
          ap (λ (j : Judged I.Statements). j >>= λ y. answer p h.1 q.end_word q.returned m.world >>= λ x. named >> Keeps (judged_with p q h m y x)) e1
          ∙ ap (λ (j : Judged (Option I.Checked)). j >>= λ x. named >> Keeps (judged_with p q h m b x)) e2
          ∙ ap (λ (j : Judged (Unit {0})). j >> Keeps (judged_with p q h m b a)) e3

-- ---- a procedure from its parts

begins_on : {a b c : List (Option ℕ)} → Begins a b → Begins b c → Begins a c
begins_on {a = a} {b = b} {c = c} g h = record { long = shorter g.long h.long; same = λ n l. h.same n (within l g.long) ∙ g.same n l }
  where
    shorter : {i k n : ℕ} → i ≤ k → k ≤ n → i ≤ n
    shorter e f = omega (arith, e, f)

    within : {i k n : ℕ} → n < i → i ≤ k → n < k
    within e f = omega (arith, e, f)

module _ (r : Surroundings) (s : Declaring) (q : OneProcedure) (h : Listed × Shape) (m : Making) (j : I.Procedure) (line_number : ℕ) (heading : Heading) (result : ℕ) (locals : List ℕ) (n : Numbered)
    (line_is : HasLine r line_number q) (is : IsHeading s heading h) (has : HasLocals s.types.table locals m) (ended : IsCompleted r s.types.table q h m j) (body : IsBody r.source.now q h m s.types.table n j)
    (before : are_before (length s.types.table.entries.items) heading.listed.formals) (entry : slice_get s.types.table.entries.items result ≡ Some heading.outcome) where
  abbrev table : TypeTable
  table = s.types.table

  abbrev pub whole : Procedure
  whole = record { «module» = r.module_number; line = line_number; is_body = false; formals = heading.listed.formals; result = result; locals = locals; texts = n.texts; body = n.body; answer = n.answer }

  image_is : plain_procedure table.types whole ≡ outlined_procedure table.bases.items (judged_with r.source.now q h m body.statements body.value)
  image_is =
      made_image table r.module_number line_number heading.listed.formals result heading.outcome locals has.types n entry has.numbers
      ∙ parts_same r.module_number m.world.module_number line_number (line r.source.now q.name.name) _ _ _ _ _ _ _ _ _ _ _ _
      (sym ended.number) line_is.is (sym is.listed.parameters) is.result_is (sym has.variables) body.texts body.body body.answer

  pub procedure_stands : StandsFor table whole j
  procedure_stands = record {
    bases = table.bases.items;
    begins = begins_self table.bases.items;
    image = image_is ∙ ap (outlined_procedure table.bases.items) (sym body.same);
    same = λ later begins.
        procedure_outlined ended.so_far r.source.now m ended.upright later (begins_on ended.begins begins) q h j ended.keeps
        ∙ sym (procedure_outlined ended.so_far r.source.now m ended.upright table.bases.items ended.begins q h j ended.keeps);
    result_there = slice_get_within table.entries.items result heading.outcome entry;
    stays = λ u later. made_still table r.module_number line_number heading.listed.formals result heading.outcome locals has.types n entry has.numbers u later.grows before (body.body_stays u later) (body.answer_stays u later);
    in_turn = body.in_turn;
  }

-- ---- the same in a scope that is open

module _ (r : Surroundings) (s : Declaring) (c : SoFar) (m : Making) (makes : Makes r s m) (up : Upright c m) (h : Listed × Shape) (heading : Heading) (is : IsHeading s heading h)
    (scope : Scope) (world : world_of scope ≡ world_in r s) (types : scope.types.now ≡ s.types.table) where
  pub world_here : world_of scope ≡ m.world
  world_here = world ∙ sym makes.world

  pub result_here : type_shape (table_in scope) heading.outcome ≡ h.1
  result_here = ap (λ (t : TypeTable). type_shape t.types heading.outcome) types ∙ is.result_is

  pub completed_here : (q : OneProcedure) (locals : List ℕ) → AreNumbersOf s.types.table.entries.items locals s.variables.items → (n : Numbered) (done : Procedure)
      → ((j : I.Procedure) → HasLocals s.types.table locals m → IsCompleted r s.types.table q h m j → IsBody r.source.now q h m s.types.table n j → StandsFor s.types.table done j)
      → Answers (IsBody r.source.now q h m scope.types.now) (completed r.source.now q h m) (Ok n) → Answers (StandsFor s.types.table) (completed r.source.now q h m) (Ok done)
  completed_here q locals numbers n done stands judged =
      came (completed r.source.now q h m) judged (λ j keeps body. as_judged keeps (record {
        by = stands j
            (record { types = s.variables.items; numbers = numbers; variables = makes.variables })
            (record {
              so_far = c;
              upright = up;
              begins = subst (λ bs. Begins bs s.types.table.bases.items) (sym (ap (λ (w : World). w.known.bases) makes.world)) (begins_self s.types.table.bases.items);
              keeps = keeps;
              number = ap (λ (w : World). w.module_number) makes.world;
            })
            (subst (λ t. IsBody r.source.now q h m t n j) types body);
      }))

-- the fault is the same
pub faulty : {A B C : Type 0} {R : B → A → Type 0} {S : C → A → Type 0} {j : Judged A} {e : CheckFault} → Answers R j (Err e) → Answers S j (Err e)
faulty h = record { by = h.by }

-- ---- a table that is built numbers all its types

pub numbers_all : (b : TableBuilder) → IsBuilt b → NumbersAll b.table
numbers_all b h = record {
  nothing = h.index.says TheType.Nothing 5 refl;
  procedures = λ g l. let n = there b.numbers.procedures.items g (let e = h.procedures in omega (arith, l, e)) in (n.0, h.index.says (TheType.Procedure g) n.0 n.1);
}
