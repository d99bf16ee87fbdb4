-- Open arrays and procedure types leave the table's types legal.
use Rattle.std.proofs.Common.{◌≡◌, ℕ, Bool, true, Option, Some, sym, ap, ◌∙◌, subst}
use Rattle.std.specs.Prelude.{slice_get}
use Rattle.std.proofs.lemmas.Option.{slice_get_within}
use Rattle.ob_types.specs.declared.types.Signature.{Signature}
use Rattle.ob_syntax.specs.Syntax as S
use Rattle.ob_judge.specs.Judged.{Keeps}
use Rattle.ob_judge.specs.Shapes.{Shape, Open, Known}
use Rattle.ob_judge.specs.Scopes.{Source}
use Rattle.ob_judge.specs.Making.{Making}
use Rattle.ob_judge.specs.Parameters.{Listed, formal_part}
use Rattle.judged_tree.specs.TypeShapes.{shape_of}
use Rattle.judged_well.specs.Standing.{is_result}
use Rattle.judged_modules.proofs.Keeping.{given}
use Rattle.judged_programs.specs.Complete.{CompleteStay}
use Rattle.judged_programs.specs.Tidy.{AreListed, IsInProcedure, Tidy}
use Rattle.judged_programs.proofs.HeadingsTidy.{h_formals, no_words}
use Rattle.check_types.specs.Known.{known_of}
use Rattle.check_types.specs.TypeMeaning.{type_shape}
use Rattle.check_types.specs.declared.types.TypeRef.{TypeRef}
use Rattle.table_builder.specs.Builder.{IsBuilt}
use Rattle.table_builder.specs.Growing.{AddsOnly, Grows, procedure_shape}
use Rattle.table_builder.specs.declared.builder.TableBuilder.{TableBuilder}
use Rattle.legal_tables.specs.Promised.{HasLegalTypes, IsLegalShape}
use Rattle.legal_tables.proofs.Judged.{parts_legal}
use Rattle.legal_tables.proofs.Keeping.{kept, kept_with}
use Rattle.check_making.specs.declared.making.Declaring.{Declaring}
use Rattle.check_making.proofs.Legal.{known_stay}
use Rattle.check_making.specs.declared.parameters.sections.Heading.{Heading}
use Rattle.check_making.specs.parameters.Headings.{IsHeading}
use Rattle.check_making.proofs.parameters.Growing.{number_same, listed_still}

-- what a heading gives is fit to be called
pub heading_listed : (from : ℕ) (p : Source) (known_here : Bool) (x : Option S.Formals) (s : Making) (z : (Listed × Shape) × Making) → formal_part p known_here x s ≡ Keeps z → IsInProcedure known_here s → Tidy from s
    → AreListed (z.0).0 × (is_result (z.0).1 ≡ true)
heading_listed from p known_here x s z is inside tidy =
    let h = given z (h_formals from p known_here x s) is in
    ((h.lists.tidy tt inside tidy no_words).1, h.result inside tidy)

module _ (s : Declaring) (b : TableBuilder) (built : IsBuilt s.types) (after : IsBuilt b) (grows : Grows s.types.table b.table) (known : known_of b.table ≡ known_of s.types.table) where
  stay : CompleteStay (known_of s.types.table).records (known_of b.table).records
  stay = known_stay (known_of s.types.table) (known_of b.table) (ap (λ (k : Known). k.records) known)

  pub open_legal : (k : TypeRef) (a : Shape) → type_shape b.table.types k ≡ Open a → AddsOnly k s.types.table.entries.items b.table.entries.items → b.table.types.signatures ≡ s.types.table.types.signatures → HasLegalTypes s.types.table → HasLegalTypes b.table
  open_legal k a shape entries same legal = kept s.types b built after grows stay k entries (subst (IsLegalShape (known_of b.table)) (sym shape) tt) same legal

  module _ (h : Heading) (x : Listed × Shape) (is : IsHeading s h x) (n : ℕ) (at : slice_get s.types.table.entries.items n ≡ Some h.outcome) (means : shape_of s.types.table.types n ≡ type_shape s.types.table.types h.outcome) where
    abbrev signature : Signature
    signature = record { formals = h.listed.formals; result = n }

    result_now : is_result x.1 ≡ true → is_result (shape_of b.table.types n) ≡ true
    result_now result =
        ap is_result (number_same s.types b built after grows n (slice_get_within s.types.table.entries.items n h.outcome at) ∙ means ∙ is.result_is) ∙ result

    pub procedure_legal : (k : TypeRef) → type_shape b.table.types k ≡ procedure_shape s.types.table.types h.listed.formals n → AddsOnly k s.types.table.entries.items b.table.entries.items
        → AddsOnly signature s.types.table.types.signatures b.table.types.signatures → AreListed x.0 → is_result x.1 ≡ true → HasLegalTypes s.types.table → HasLegalTypes b.table
    procedure_legal k shape entries signatures listed result legal =
        kept_with s.types b built after grows stay k entries (subst (IsLegalShape (known_of b.table)) (sym shape) tt) signature signatures
        (parts_legal b.table signature x.0 (sym (listed_still s.types b built after grows h.listed x.0 is.listed).parameters) listed (result_now result)) legal
