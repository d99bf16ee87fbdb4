-- Declarations judged (Oberon-07 report, sections 5, 6, 7, 10), in the order of the text.
use Rattle.std.specs.Prelude.{ℕ, ◌+◌, List, [], ◌∷◌, ◌++◌, length, Bool, true, false, not, Option, Some, None, is_some}
use Rattle.std.specs.Str.{bytes_eq}
use Rattle.ob_syntax.specs.Syntax as S
use Rattle.ob_syntax.specs.declared.names.Identdef.{Identdef}
use Rattle.ob_judge.specs.Judged.{Judged, Keeps, ◌>>=◌, ◌>>◌, rule, some}
use Rattle.ob_judge.specs.Shapes.{Shape}
use Rattle.ob_judge.specs.Shapes.{Procedure as ProcedureOf}
use Rattle.ob_judge.specs.Image.{Place, Global, Local, Checked}
use Rattle.ob_judge.specs.Texts.{texts_of}
use Rattle.ob_judge.specs.Scopes.{AConstant, AType, AVariable, AProcedure, Home, Free, OfModule, World, Source, place, spelled, line}
use Rattle.ob_judge.specs.Calls.{stored, may_assign}
use Rattle.ob_judge.specs.Symbols.{expression_first}
use Rattle.ob_judge.specs.Parts.{is_nothing}
use Rattle.ob_judge.specs.Expressions.{expression, constant}
use Rattle.ob_judge.specs.Cases.{entry_object}
use Rattle.ob_judge.specs.Statements.{body_of}
use Rattle.ob_judge.specs.Making.{Part, ◌>>>◌, give, here, become, ask, with_levels, declare_outer, last_names, set_base, new_procedure, set_procedure, within_procedure, offer_if}
use Rattle.ob_judge.specs.Parameters.{Listed, idents_list, symbols_of, stand, declared, formal_part}
use Rattle.ob_judge.specs.Types.{record_object, type_part}

abbrev pub home_here : Option ℕ → Home
home_here None = OfModule
home_here (Some f) = Free

abbrev pub place_here : Option ℕ → (unit number : ℕ) → Place
place_here None unit number = Global unit number
place_here (Some f) unit number = Local number

abbrev pub each : {X : Type 0} → (X → Part (Unit {0})) → List X → Part (Unit {0})
each f [] = give tt
each f (x ∷ xs) = f x >>> λ _. each f xs

abbrev pub consts_in : Option S.Consts → List S.ConstDecl
consts_in None = []
consts_in (Some x) = x.each

abbrev pub types_in : Option S.Types → List S.TypeDecl
types_in None = []
types_in (Some x) = x.each

abbrev pub vars_in : Option S.Vars → List S.VarDecl
vars_in None = []
vars_in (Some x) = x.each

module _ (p : Source) where
  -- ---- CONST, TYPE, VAR: 36 where the name stands, before the rest; the name is known at the end

  abbrev pub const_part : S.ConstDecl → Part (Unit {0})
  const_part d = stand p (d.name.name ∷ []) >>> λ _. here (λ w. constant p w d.value) >>> λ c.
      declared p d.name (AConstant c)

  abbrev pub type_decl_part : S.TypeDecl → Part (Unit {0})
  type_decl_part d = stand p (d.name.name ∷ []) >>> λ _. type_part p d.is >>> λ s. declared p d.name (AType s)

  -- at the end of a TYPE part: 30 and 31 at a base's name
  abbrev pub forward_base : ℕ × ℕ → Part (Unit {0})
  forward_base f =
      here (λ w. some 30 (place p f.1) (entry_object (last_names w.levels (spelled p f.1)))) >>> λ o.
      here (λ w. some 31 (place p f.1) (record_object o)) >>> λ r. set_base f.0 r

  abbrev pub types_part : List S.TypeDecl → Part (Unit {0})
  types_part ds =
      become (λ s. record s { is_type_part = true; forward = [] }) >>> λ _. each type_decl_part ds >>> λ _.
      ask (λ s. s.forward) >>> λ fs. become (λ s. record s { is_type_part = false }) >>> λ _. each forward_base fs

  abbrev pub variable_part : Shape → Identdef → Part (Unit {0})
  variable_part s x =
      ask (λ m. m.values + length m.variables) >>> λ number.
      here (λ w. Keeps (AVariable (record { shape = s; place = place_here w.procedure w.module_number number; home = home_here w.procedure; owner = w.module_number; procedure = w.procedure }))) >>> λ o.
      declared p x o >>> λ _. become (λ m. record m { variables = m.variables ++ s ∷ [] })

  -- all the names stand before the type, and are known after it
  abbrev pub var_part : S.VarDecl → Part (Unit {0})
  var_part d = stand p (symbols_of (idents_list d.names)) >>> λ _. type_part p d.of >>> λ s.
      each (variable_part s) (idents_list d.names)

  -- ---- procedures

  -- 41 at RETURN where there is no result, and at END where there is no RETURN
  abbrev pub answer : Shape → (end_word : ℕ) → Option S.Returned → World → Judged (Option Checked)
  answer result end_word None w = do
    rule 41 (place p end_word) (is_nothing result)
    Keeps None
  answer result end_word (Some r) w = do
    x ← expression p w r.value
    rule 41 (place p r.return_word) (not (is_nothing result))
    rule 31 (place p (expression_first r.value)) (may_assign w.known result x)
    Keeps (Some (stored result x))

  -- a procedure's name is known in its body, after its parameters
  abbrev pub heading : ℕ → Identdef → Option S.Formals → (is_local : Bool) → Part (Listed × Shape)
  heading f name formals is_local =
      formal_part p true formals >>> λ h.
      here (λ w. Keeps (record { object = AProcedure f (ProcedureOf h.0.formals h.1) is_local; exported = is_some name.star })) >>> λ e.
      become (with_levels (declare_outer (spelled p name.name) e)) >>> λ _.
      become (offer_if (not is_local) (spelled p name.name) e) >>> λ _. give h

  abbrev mutual
    pub decls_part : S.Decls → Part (Unit {0})
    decls_part (S.decls consts types vars procedures) =
        each const_part (consts_in consts) >>> λ _. types_part (types_in types) >>> λ _.
        each var_part (vars_in vars) >>> λ _. procedures_part procedures

    pub procedures_part : S.Procedures → Part (Unit {0})
    procedures_part S.no_procedure = give tt
    procedures_part (S.procedure procedure_word name formals semicolon inner body returned end_word end_name last rest) =
        stand p (name.name ∷ []) >>> λ _. ask (λ s. is_some s.world.procedure) >>> λ is_local. new_procedure >>> λ f.
        within_procedure f (
        heading f name formals is_local >>> λ h. decls_part inner >>> λ _.
        here (λ w. body_of p w body) >>> λ b. here (answer h.1 end_word returned) >>> λ a.
        here (λ w. rule 37 (place p end_name) (bytes_eq (spelled p end_name) (spelled p name.name))) >>> λ _.
        ask (λ s. s.variables) >>> λ locals. ask (λ s. s.world.module_number) >>> λ m.
        set_procedure f (record {
          module_number = m;
          line = line p name.name;
          is_body = false;
          formals = h.0.parameters;
          result = h.1;
          locals = locals;
          texts = texts_of b a;
          body = b;
          answer = a;
        })) >>> λ _.
        procedures_part rest
