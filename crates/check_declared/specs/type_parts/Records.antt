-- Record types before and between their fields.
use Rattle.std.specs.Prelude.{◌≡◌, ℕ, Option, []}
use Rattle.ob_syntax.specs.Syntax as S
use Rattle.ob_syntax.specs.declared.types.Base.{Base}
use Rattle.ob_judge.specs.Shapes as J
use Rattle.ob_judge.specs.Scopes.{Source}
use Rattle.ob_judge.specs.Making.{Part, ◌>>>◌, give, here, become, new_record}
use Rattle.ob_judge.specs.Types.{base_layout, fields_part, more_part}
use Rattle.check_types.specs.declared.types.TypeRef.TheVariants as TheType
use Rattle.check_types.specs.declared.table.Layout.{Layout}
use Rattle.table_builder.specs.Entries.{IsElement}
use Rattle.check_making.specs.declared.making.Declaring.{Declaring}
use Rattle.check_making.specs.new_types.Layouts.{IsSoFarIn}
use Rattle.check_declared.specs.declared.type_parts.records.BegunRecord.{BegunRecord}

-- a record type with the fields of its base, where no name stands
abbrev pub begun_part : Source → Option Base → Part (ℕ × J.Layout)
begun_part p base = new_record >>> λ n. here (base_layout p base) >>> λ b. become (λ s. record s { standing = [] }) >>> λ _.
    give (n, record b { added = [] })

-- this is its number, which is that of a type, and these are its fields
pub record IsBegunAs (s : Declaring) (b : BegunRecord) (x : ℕ × J.Layout) : Type 0 where
  pub number : b.number ≡ x.0
  pub element : IsElement s.types.table.entries.items (TheType.Record b.number)
  pub so_far : IsSoFarIn s b.layout x.1

-- the fields so far stand for some of the judgement
pub record HasLayout (s : Declaring) (l : Layout) : Type 0 where
  pub layout : J.Layout
  pub so_far : IsSoFarIn s l layout

-- all fields that a record type adds
abbrev pub fields_of : Source → ℕ → S.MaybeFields → S.NextFields → J.Layout → Part J.Layout
fields_of p n first more g = fields_part p n first g >>> λ h. more_part p n more h
