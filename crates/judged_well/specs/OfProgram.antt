-- What a checked program, as code holds it, says of types, variables and procedures to an image in one of its procedures;
-- and what its numbers have to be so that it says so.
use Rattle.std.specs.Prelude.{◌≡◌, ◌<◌, ℕ, List, [], ◌∷◌, length, if◌then◌else◌, Option, Some, None, option_map, slice_get}
use Rattle.ob_types.specs.declared.types.TypeKind.TheVariants as TheKind
use Rattle.ob_types.specs.declared.types.Formal.{Formal}
use Rattle.ob_types.specs.declared.types.Signature.{Signature}
use Rattle.ob_types.specs.declared.program.Program.{Program}
use Rattle.ob_types.specs.Layout.{kind_of, record_of, types_of}
use Rattle.ob_types.specs.Layout.{extends as extends_record}
use Rattle.ob_types.specs.Meaning.{procedure_of, globals_of, locals_of}
use Rattle.ob_types.specs.LegalTypes.{is_record_type}
use Rattle.ob_types.specs.WellFormed.{callable}
use Rattle.ob_types.specs.Table.{Table}
use Rattle.ob_judge.specs.Shapes.{Nil, Nothing, base_of}
use Rattle.ob_judge.specs.Parameters.{mode_of}
use Rattle.judged_tree.specs.TypeShapes.{formals_shape, shapes_of, shape_of, pointer_bases}
use Rattle.judged_tree.specs.Tables.{IsFromTheFront, HasOneShapeEach}
use Rattle.judged_well.specs.Setting.{Setting}

abbrev pub setting_of : Program → (here : ℕ) → Setting
setting_of p here = record {
  extends = extends_record p.types;
  is_record = is_record_type p.types;
  target = λ n. base_of (slice_get (pointer_bases p.types.kinds) n);
  field = λ r i. option_map (shape_of p.types) (slice_get (types_of (record_of p.types r).fields) i);
  global = λ m v. option_map (shape_of p.types) (slice_get (globals_of p m) v);
  heading = λ f. if callable p f then Some (formals_shape (shapes_of p.types) (procedure_of p f).formals, shape_of p.types (procedure_of p f).result) else None;
  parameter = λ k. option_map (λ x. (x.variable, shape_of p.types x.type_number)) (slice_get (procedure_of p here).formals k);
  variable = λ v. option_map (shape_of p.types) (slice_get (locals_of (procedure_of p here)) v);
}

module _ (t : Table) where
  -- parameters of types in the table, handed over as their types are
  abbrev pub AreFormals : List Formal → Type 0
  AreFormals [] = Unit {0}
  AreFormals (x ∷ xs) = (x.type_number < length t.kinds) × (x.mode ≡ mode_of x.variable (shape_of t x.type_number)) × AreFormals xs

  -- a result's type is in the table, and isn't NIL's
  pub record IsResult (k : ℕ) : Type 0 where
    pub there : k < length t.kinds
    pub no_nil : shape_of t k ≡ Nil → ⊥

  -- a table of types as the checker makes it
  pub record IsFaithful : Type 0 where
    pub front : IsFromTheFront t
    pub shapes : HasOneShapeEach t
    pub element : (k : ℕ) (n : Option ℕ) (e : ℕ) → kind_of t k ≡ TheKind.Array n e → shape_of t e ≡ Nothing → ⊥
    pub target : (k r : ℕ) → kind_of t k ≡ TheKind.Pointer r → r < length t.records
    pub field : (r i k : ℕ) → slice_get (types_of (record_of t r).fields) i ≡ Some k → k < length t.kinds
    pub formals : (g : ℕ) (x : Signature) → slice_get t.signatures g ≡ Some x → AreFormals x.formals
    pub result : (g : ℕ) (x : Signature) → slice_get t.signatures g ≡ Some x → IsResult x.result
    -- each procedure type has one signature
    pub signature : (f g : ℕ) (x y : Signature) → slice_get t.signatures f ≡ Some x → slice_get t.signatures g ≡ Some y
        → formals_shape (shapes_of t) x.formals ≡ formals_shape (shapes_of t) y.formals → shape_of t x.result ≡ shape_of t y.result → f ≡ g

-- the types of its variables, parameters and results are in its table
pub record IsInside (p : Program) : Type 0 where
  pub formals : (f : ℕ) → AreFormals p.types (procedure_of p f).formals
  pub result : (f : ℕ) → IsResult p.types (procedure_of p f).result
  pub global : (m v k : ℕ) → slice_get (globals_of p m) v ≡ Some k → k < length p.types.kinds
  pub variable : (f v k : ℕ) → slice_get (locals_of (procedure_of p f)) v ≡ Some k → k < length p.types.kinds
