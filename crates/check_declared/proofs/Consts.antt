-- Constants that are declared.
use Rattle.std.proofs.Common.{◌≡◌, ℕ, ◌+◌, ◌<◌, length, drop, get_or, List, [], ◌∷◌, ◌++◌, map, Result, Ok, Err, refl, sym, ap₂, ◌∙◌, subst}
use Rattle.ob_syntax.specs.declared.declarations.ConstDecl.{ConstDecl}
use Rattle.ob_syntax.specs.Plain.{plain_const_decl, plain_each, plain_expression}
use Rattle.ob_judge.specs.Image as I
use Rattle.ob_judge.specs.Judged.{Judged, Keeps, ◌>>=◌}
use Rattle.ob_judge.specs.Scopes.{AConstant}
use Rattle.ob_judge.specs.Making.{Making}
use Rattle.ob_judge.specs.Expressions.{constant}
use Rattle.ob_judge.specs.Parameters.{stand, declared}
use Rattle.ob_judge.specs.Declarations.{const_part, each}
use Rattle.check_types.specs.steps.Answers.{Answers}
use Rattle.check_types.specs.declared.steps.fault.CheckFault.{CheckFault}
use Rattle.check_types.proofs.steps.Answering.{goes_on, stop, Judging}
use Rattle.check_types.specs.declared.names.scope.Scope.{Scope}
use Rattle.check_types.specs.declared.names.scope.Constant.{Constant}
use Rattle.check_types.specs.names.Meaning.{constant_of}
use Rattle.check_types.specs.names.Worlds.{world_of}
use Rattle.check_operands.specs.Operands.{texts_of, between_quotes}
use Rattle.check_expressions.specs.declared.constants.constants.ConstantValue.{ConstantValue}
use Rattle.check_expressions.specs.constants.Constants.{constant_meant, IsConstant}
use Rattle.check_making.specs.declared.making.Declaring.{Declaring}
use Rattle.check_making.specs.declared.making.Surroundings.{Surroundings}
use Rattle.check_making.specs.Making.{table_of, strings_of, world_in, Makes}
use Rattle.check_making.specs.Parts.{Made}
use Rattle.check_declared.specs.Constants.{texts_in, IsValue, IsKept}
use Rattle.check_declared.proofs.Parts.{StateMakes, left_first, left_next, left_stops, left_none}
use Rattle.check_making.proofs.parameters.Answering.{look_on}
use Rattle.check_making.proofs.parameters.Answering.{look_stops}

-- the texts of the state's scope
pub texts_same : (r : Surroundings) (s : Declaring) (scope : Scope) → scope.source.now ≡ r.source.now → scope.strings.now ≡ strings_of s → texts_of scope ≡ texts_in r s
texts_same r s scope p q = ap₂ (λ z ss. map (between_quotes z.bytes) z.symbols ++ [] ∷ ss) p q

-- a constant in the state's scope
pub value_answers : (r : Surroundings) (s : Declaring) (m : Making) → Makes r s m → (scope : Scope) → scope.source.now ≡ r.source.now → world_of scope ≡ world_in r s → scope.strings.now ≡ strings_of s → (e : _) (result : Result ConstantValue CheckFault)
    → Answers (IsConstant scope) (constant scope.source.now (world_of scope) e) result → Answers (IsValue r s) (constant r.source.now m.world e) result
value_answers r s m makes scope p w q e result h =
    subst (λ texts. Answers (λ c x. constant_meant texts c ≡ x) (constant r.source.now m.world e) result) (texts_same r s scope p q)
    (subst (λ v. Answers (IsConstant scope) (constant r.source.now v e) result) (w ∙ sym makes.world)
    (subst (λ z. Answers (IsConstant scope) (constant z (world_of scope) e) result) p h))

module _ (r : Surroundings) (d : ConstDecl) (m : Making) where
  -- its name stands twice
  pub not_stood : {s : Declaring} {e : CheckFault} → Answers (Made r s) (stand r.source.now (d.name.name ∷ []) m) (Err e) → {t : Declaring} → Answers (Made r t) (const_part r.source.now (plain_const_decl d) m) (Err e)
  not_stood h {t} = stop (stand r.source.now (d.name.name ∷ []) m) _ h

  -- its expression is refused
  pub no_value : {s : Declaring} {e : CheckFault} → Answers (Made r s) (stand r.source.now (d.name.name ∷ []) m) (Ok tt)
      → ((n : Making) → Makes r s n → Answers (IsValue r s) (constant r.source.now n.world (plain_expression d.value)) (Err e)) → {t : Declaring} → Answers (Made r t) (const_part r.source.now (plain_const_decl d) m) (Err e)
  no_value h k {t} = goes_on (stand r.source.now (d.name.name ∷ []) m) _ h (λ a made. look_stops (constant r.source.now (a.1).world (plain_expression d.value)) a.1 _ (k a.1 made.makes))

  -- it is declared, or that is refused
  pub is_declared : {s u : Declaring} {t : Declaring} {value : ConstantValue} (c : Constant) (result : Result (Unit {0}) CheckFault) → Answers (Made r s) (stand r.source.now (d.name.name ∷ []) m) (Ok tt)
      → ((n : Making) → Makes r s n → Answers (IsValue r s) (constant r.source.now n.world (plain_expression d.value)) (Ok value))
      → IsKept r s value u c → ((n : Making) → Makes r s n → Makes r u n)
      → ((n : Making) → Makes r u n → Answers (Made r t) (declared r.source.now d.name (AConstant (constant_of (table_of u) (strings_of u) c)) n) result)
      → Answers (Made r t) (const_part r.source.now (plain_const_decl d) m) result
  is_declared {t = t} c result h k kept on go =
      goes_on (stand r.source.now (d.name.name ∷ []) m) _ h (λ a made.
      look_on (constant r.source.now (a.1).world (plain_expression d.value)) a.1 _ (k a.1 made.makes) (λ x is.
      subst (λ (z : I.Constant). Answers (Made r t) (declared r.source.now d.name (AConstant z) a.1) result) (kept ∙ is) (go a.1 (on a.1 made.makes))))

-- ---- one after the other

abbrev pub consts_from : Surroundings → Unit {0} × Making → List ConstDecl → Judged (Unit {0} × Making)
consts_from r a ds = each (const_part r.source.now) (plain_each plain_const_decl ds) a.1

abbrev pub const_item : Surroundings → Unit {0} × Making → ConstDecl → Judged (Unit {0} × Making)
const_item r a d = const_part r.source.now (plain_const_decl d) a.1

consts_law : (r : Surroundings) (a : Unit {0} × Making) (x : ConstDecl) (xs : List ConstDecl) → consts_from r a (x ∷ xs) ≡ (const_item r a x >>= λ z. consts_from r z xs)
consts_law r a x xs = refl

consts_end : (r : Surroundings) (a : Unit {0} × Making) → consts_from r a [] ≡ Keeps (tt, a.1)
consts_end r a = refl

pub consts_next : (r : Surroundings) (whole : Judged (Unit {0} × Making)) (s t : Declaring) (ds : List ConstDecl) (i : ℕ) (d : ConstDecl) → i < length ds → Judging (StateMakes r) (consts_from r) whole s (drop i ds)
    → ((m : Making) → Makes r s m → Answers (Made r t) (const_item r (tt, m) (get_or ds i d)) (Ok tt)) → Judging (StateMakes r) (consts_from r) whole t (drop (i + 1) ds)
consts_next r = left_next r (consts_from r) (const_item r) (consts_law r) (consts_end r)

pub consts_stop : (r : Surroundings) (whole : Judged (Unit {0} × Making)) (s t : Declaring) (ds : List ConstDecl) (i : ℕ) (d : ConstDecl) (e : CheckFault) → i < length ds → Judging (StateMakes r) (consts_from r) whole s (drop i ds)
    → ((m : Making) → Makes r s m → Answers (Made r t) (const_item r (tt, m) (get_or ds i d)) (Err e)) → Answers (Made r t) whole (Err e)
consts_stop r = left_stops r (consts_from r) (const_item r) (consts_law r) (consts_end r)

pub consts_done : (r : Surroundings) (whole : Judged (Unit {0} × Making)) (s : Declaring) → Judging (StateMakes r) (consts_from r) whole s [] → Answers (Made r s) whole (Ok tt)
consts_done r = left_none r (consts_from r) (const_item r) (consts_law r) (consts_end r)

pub consts_first : (r : Surroundings) (s : Declaring) (m : Making) → Makes r s m → (ds : List ConstDecl) → Judging (StateMakes r) (consts_from r) (consts_from r (tt, m) ds) s ds
consts_first r = left_first r (consts_from r) (const_item r) (consts_law r) (consts_end r)
