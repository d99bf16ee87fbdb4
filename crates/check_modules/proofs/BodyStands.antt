-- A module's body stands for the judgement's.
use Rattle.std.proofs.Common.{◌≡◌, ◌≤◌, ℕ, List, [], true, Option, Some, None, Result, Ok, Err, length, refl, sym, ap, ap₂, ◌∙◌, subst}
use Rattle.std.specs.Prelude.{option_map, slice_get, Vec}
use Rattle.std.specs.Global.{Global}
use Rattle.std.specs.Str.{bytes_eq}
use Rattle.std.proofs.lemmas.Option.{slice_get_within}
use Rattle.ob_types.specs.declared.program.Procedure.{Procedure}
use Rattle.ob_types.specs.declared.types.Formal.{Formal}
use Rattle.ob_types.specs.declared.statements.Checked.{Checked}
use Rattle.ob_types.specs.declared.statements.Stmt.{Stmt}
use Rattle.ob_types.specs.Table.{Table}
use Rattle.ob_syntax.specs.Syntax as S
use Rattle.ob_judge.specs.Image as I
use Rattle.ob_judge.specs.Judged.{Judged, Keeps, ◌>>=◌, ◌>>◌, rule}
use Rattle.ob_judge.specs.Shapes.{Shape, Nothing}
use Rattle.ob_judge.specs.Texts.{texts_of}
use Rattle.ob_judge.specs.Scopes.{World, Source, place, spelled, line}
use Rattle.ob_judge.specs.Statements.{body_of}
use Rattle.ob_judge.specs.Making.{Making}
use Rattle.ob_judge.specs.Modules.{SoFar}
use Rattle.judged_tree.specs.Plain.{plain_body, plain_checked, plain_procedure}
use Rattle.judged_tree.specs.Outline.{outlined_statements, outlined_procedure}
use Rattle.judged_tree.specs.TypeShapes.{shape_of}
use Rattle.judged_outlines.specs.Upright.{Upright}
use Rattle.judged_outlines.proofs.Outlined.{body_outlined}
use Rattle.check_types.specs.steps.Answers.{Answers}
use Rattle.check_types.specs.declared.steps.fault.CheckFault.{CheckFault}
use Rattle.check_types.proofs.steps.Answering.{as_judged, stop}
use Rattle.check_types.specs.declared.names.scope.Scope.{Scope}
use Rattle.check_types.specs.names.Worlds.{world_of}
use Rattle.check_operands.specs.Operands.{texts_of as texts_in}
use Rattle.check_selectors.specs.standard.Made.{IsKept}
use Rattle.check_statements.specs.Standing.{AreStatements}
use Rattle.check_types.specs.declared.types.TypeRef.TheVariants as TheType
use Rattle.check_types.specs.declared.table.TypeTable.{TypeTable}
use Rattle.table_builder.specs.Growing.{Grows}
use Rattle.judged_modules.specs.steps.Frames.{Begins}
use Rattle.check_making.specs.declared.making.Declaring.{Declaring}
use Rattle.check_making.specs.declared.making.Surroundings.{Surroundings}
use Rattle.check_making.specs.Making.{world_in, Makes}
use Rattle.check_making.specs.scopes.Building.{StandsFor}
use Rattle.check_making.specs.scopes.InTurn.{UseInTurn}
use Rattle.check_making.proofs.scopes.Procedures.{number_means, number_still, begins_self}
use Rattle.check_procedures.proofs.Giving.{then_so, rule_stops}
use Rattle.check_procedures.proofs.Texts.{texts_same}
use Rattle.check_modules.specs.Parts.{body_procedure, completed_module}
use Rattle.check_making.proofs.headings.Heads.{by_given as came}

-- a module's body by its parts
abbrev by_parts : ℕ → ℕ → Shape → List (List ℕ) → I.Statements → I.Procedure
by_parts m l s ts b = record { module_number = m; line = l; is_body = true; formals = []; result = s; locals = []; texts = ts; body = b; answer = None }

-- a procedure in code that is a module's body: it has no parameters and no variables
abbrev with_lists : (module_number line result : ℕ) → List (List ℕ) → List Stmt → List Formal → List ℕ → Procedure
with_lists m l n uses made formals locals = record { «module» = m; line = l; is_body = true; formals = formals; result = n; locals = locals; texts = uses; body = made; answer = None }

pub is_bare : (m l n : ℕ) (uses : List (List ℕ)) (made : List Stmt) (formals : List Formal) (locals : List ℕ) → formals ≡ [] → locals ≡ [] → with_lists m l n uses made formals locals ≡ with_lists m l n uses made [] []
is_bare m l n uses made formals locals e d = ap₂ (with_lists m l n uses made) e d

-- the statements with final numbers, as text_numbers gives them
pub record IsRenumbered (t : TypeTable) (texts : List (List ℕ)) (body : List Stmt) (uses : List (List ℕ)) (made : List Stmt) : Type 0 where
  pub all : uses ≡ texts_of (plain_body t.types texts body) None
  pub same : plain_body t.types uses made ≡ plain_body t.types texts body
  pub stays : (u : TypeTable) → Grows t u → length u.types.signatures ≤ 4294967295 → plain_body u.types uses made ≡ plain_body t.types uses made
  pub in_turn : UseInTurn uses made None

-- with no expression behind RETURN there is none with final numbers, and the statements use strings in turn without it
none_given : (t : Table) (texts : List (List ℕ)) (answer : Option Checked) → option_map (plain_checked t texts) answer ≡ None → answer ≡ None
none_given t texts None e = refl
none_given t texts (Some x) e = absurd (let h = e in cc)

pub in_turn_alone : (t : Table) (uses texts : List (List ℕ)) (made : List Stmt) (answer : Option Checked) → option_map (plain_checked t texts) answer ≡ None → UseInTurn uses made answer → UseInTurn uses made None
in_turn_alone t uses texts made answer none h = subst (UseInTurn uses made) (none_given t texts answer none) h

module _ (r : Surroundings) (s : Declaring) (c : SoFar) (m : Making) (makes : Makes r s m) (up : Upright c m) (x : S.Module) where
  abbrev p : Source
  p = r.source.now

  abbrev t : TypeTable
  t = s.types.table

  abbrev body_made : (line result : ℕ) → List (List ℕ) → List Stmt → Procedure
  body_made l n uses made = record { «module» = r.module_number; line = l; is_body = true; formals = []; result = n; locals = []; texts = uses; body = made; answer = None }

  module _ (texts : List (List ℕ)) (body : List Stmt) (uses : List (List ℕ)) (made : List Stmt) (again : IsRenumbered t texts body uses made) (b : I.Statements)
      (body_is : plain_body t.types texts body ≡ outlined_statements t.bases.items b) (k n : ℕ) (k_is : k ≡ line p x.name) (entry : slice_get t.entries.items n ≡ Some TheType.Nothing) where
    image_is : plain_procedure t.types (body_made k n uses made) ≡ outlined_procedure t.bases.items (body_procedure p x.name m.world.module_number b)
    image_is =
        ap (λ z. by_parts r.module_number z (shape_of t.types n) uses (plain_body t.types uses made)) k_is
        ∙ ap (λ z. by_parts z (line p x.name) (shape_of t.types n) uses (plain_body t.types uses made)) (sym (ap (λ (w : World). w.module_number) makes.world))
        ∙ ap (λ z. by_parts m.world.module_number (line p x.name) z uses (plain_body t.types uses made)) (number_means t n TheType.Nothing entry)
        ∙ ap (λ z. by_parts m.world.module_number (line p x.name) Nothing z (plain_body t.types uses made)) (again.all ∙ ap (λ y. texts_of y None) body_is ∙ texts_same t.bases.items b None)
        ∙ ap (λ z. by_parts m.world.module_number (line p x.name) Nothing (texts_of b None) z) (again.same ∙ body_is)

    body_same : body_of p m.world x.body ≡ Keeps b → (later : List (Option ℕ)) → Begins m.world.known.bases later
        → outlined_procedure later (body_procedure p x.name m.world.module_number b) ≡ outlined_procedure m.world.known.bases (body_procedure p x.name m.world.module_number b)
    body_same keeps later begins = ap (λ z. by_parts m.world.module_number (line p x.name) Nothing (texts_of b None) z) (body_outlined c p m up later begins x.body b keeps)

    pub body_stands : body_of p m.world x.body ≡ Keeps b → StandsFor t (body_made k n uses made) (body_procedure p x.name m.world.module_number b)
    body_stands keeps = record {
      bases = t.bases.items;
      begins = begins_self t.bases.items;
      image = image_is;
      same = subst (λ bs. (later : List (Option ℕ)) → Begins bs later
          → outlined_procedure later (body_procedure p x.name m.world.module_number b) ≡ outlined_procedure bs (body_procedure p x.name m.world.module_number b)) (ap (λ (w : World). w.known.bases) makes.world) (body_same keeps);
      result_there = slice_get_within t.entries.items n TheType.Nothing entry;
      in_turn = again.in_turn;
      stays = λ u later.
          ap (λ z. by_parts r.module_number k z uses (plain_body u.types uses made)) (number_still t u later.grows n TheType.Nothing entry)
          ∙ ap (λ z. by_parts r.module_number k (shape_of t.types n) uses z) (again.stays u later.grows later.few);
    }

  -- ---- the answer, part by part

  module _ (scope : Scope) (source : scope.source.now ≡ r.source.now) (world : world_of scope ≡ world_in r s) (types : scope.types.now ≡ s.types.table) where
    abbrev BodyIs : Result (Vec Stmt Global) CheckFault → Type 0
    BodyIs result = Answers (AreStatements scope) (body_of scope.source.now (world_of scope) x.body) result

    abbrev named : Judged (Unit {0})
    named = rule 37 (place p x.end_name) (bytes_eq (spelled p x.end_name) (spelled p x.name))

    body_here : {result : Result (Vec Stmt Global) CheckFault} → BodyIs result → Answers (AreStatements scope) (body_of p m.world x.body) result
    body_here {result = result} k =
        subst (λ w. Answers (AreStatements scope) (body_of p w x.body) result) (world ∙ sym makes.world) (subst (λ z. Answers (AreStatements scope) (body_of z (world_of scope) x.body) result) source k)

    pub no_body : {B : Type 0} {R : B → I.Procedure → Type 0} {e : CheckFault} → BodyIs (Err e) → Answers R (completed_module p x m) (Err e)
    no_body k = stop _ _ (body_here k)

    pub no_name : {B : Type 0} {R : B → I.Procedure → Type 0} {e : CheckFault} {body : Vec Stmt Global} → BodyIs (Ok body) → Answers IsKept named (Err e) → Answers R (completed_module p x m) (Err e)
    no_name j l = then_so _ _ (body_here j) (λ b is_body body_is. rule_stops named _ l)

    module _ (body : Vec Stmt Global) (uses : List (List ℕ)) (made : List Stmt) (again : IsRenumbered scope.types.now (texts_in scope) body.items uses made) where
      pub is_completed : (k n : ℕ) → k ≡ line p x.name → slice_get t.entries.items n ≡ Some TheType.Nothing → (done : Procedure) → done ≡ body_made k n uses made → BodyIs (Ok body) → Answers IsKept named (Ok tt)
          → Answers (StandsFor t) (completed_module p x m) (Ok done)
      is_completed k n k_is entry done done_is j o =
          came (body_of p m.world x.body) (body_here j) (λ b is_body body_is.
          came named o (λ u is_named kept.
          as_judged (completed_keeps b u is_body is_named) (record {
            by = subst (λ q. StandsFor t q (body_procedure p x.name m.world.module_number b)) (sym done_is)
                (body_stands (texts_in scope) body.items uses made (subst (λ z. IsRenumbered z (texts_in scope) body.items uses made) types again) b
                (subst (λ (z : TypeTable). plain_body z.types (texts_in scope) body.items ≡ outlined_statements z.bases.items b) types body_is) k n k_is entry is_body);
          })))
        where
          completed_keeps : (b : I.Statements) (u : Unit {0}) → body_of p m.world x.body ≡ Keeps b → named ≡ Keeps u → completed_module p x m ≡ Keeps (body_procedure p x.name m.world.module_number b)
          completed_keeps b u e1 e2 =
              ap (λ (j : Judged I.Statements). j >>= λ y. named >> Keeps (body_procedure p x.name m.world.module_number y)) e1
              ∙ ap (λ (j : Judged (Unit {0})). j >> Keeps (body_procedure p x.name m.world.module_number b)) e2
