-- A well-formed program has sizes that lowering takes.
use Rattle.std.proofs.Common.{◌≡◌, ℕ, ◌+◌, ◌<◌, ◌≤◌, List, [], ◌∷◌, length, Bool, true, ◌&&◌, Option, Some, refl, sym, ap, ap₂, ◌∙◌, subst, ◌⊎◌, inl, inr}
use Rattle.std.specs.Prelude.{slice_get, nat_le}
use Rattle.std.proofs.lemmas.Bool.{ltb-true, leb-true}
use Rattle.std.proofs.lemmas.List.{get_or_past}
use Rattle.std.proofs.lemmas.List.Sums.{sum_by-cons}
use Rattle.ob_types.specs.Table.{Table}
use Rattle.ob_types.specs.Layout.{no_record_type, kind_of, record_of, types_of, cells, record_cells}
use Rattle.ob_types.specs.Forms.{all, all_below, if_base}
use Rattle.ob_types.specs.Trees.{record_extent}
use Rattle.ob_types.specs.LegalTypes.{most_cells, is_length, is_variable_kind, is_variable_type, is_record_type, kind_legal, type_legal, record_legal, signature_legal, types_legal}
use Rattle.ob_types.specs.WellFormed.{well_formed, argument_words, level_fine, sizes_fine}
use Rattle.ob_types.specs.WellFormed.{words_of as words_of_mode}
use Rattle.ob_types.specs.Counted.{IsClosed}
use Rattle.ob_types.specs.declared.types.Mode.{Mode}
use Rattle.ob_types.specs.declared.types.Mode.TheVariants.{Value, Place, Record, Open}
use Rattle.ob_types.specs.declared.types.TypeKind.{TypeKind}
use Rattle.ob_types.specs.declared.types.TypeKind.TheVariants.{Array, Nothing}
use Rattle.ob_types.specs.declared.types.TypeKind.TheVariants.{Record as RecordOf}
use Rattle.ob_types.specs.declared.types.RecordType.{RecordType}
use Rattle.ob_types.specs.declared.types.Formal.{Formal}
use Rattle.ob_types.specs.declared.program.Procedure.{Procedure}
use Rattle.ob_types.specs.declared.program.Program.{Program}
use Rattle.ob_types.proofs.Tests.{no, none_some, and_of, below, all_at, less_or_past}
use Rattle.ob_types.proofs.WellFormedParts.{parts_of, said}
use Rattle.ssa_lowered.specs.Variables.{words_by, words_of}
use Rattle.ssa_tables.specs.Measured.{IsMeasured}

words_same : (m : Mode) → words_of_mode m ≡ words_by m
words_same Value = refl
words_same Place = refl
words_same Record = refl
words_same Open = refl

all_words : (xs : List Formal) → argument_words xs ≡ words_of xs
all_words [] = refl
all_words (x ∷ xs) =
    sum_by-cons (λ (y : Formal). words_of_mode y.mode) x xs
    ∙ ap₂ (λ a b. a + b) (words_same x.mode) (all_words xs)
    ∙ sym (sum_by-cons (λ (y : Formal). words_by y.mode) x xs)

module _ (t : Table) where
  kind_past : (k : ℕ) → length t.kinds ≤ k → kind_of t k ≡ Nothing
  kind_past k le = get_or_past t.kinds k Nothing le

  variable_there : (k : ℕ) → is_variable_type t k ≡ true → k < length t.kinds
  variable_there k h = by (less_or_past k (length t.kinds))
    where
      by : (k < length t.kinds) ⊎ (length t.kinds ≤ k) → k < length t.kinds
      by (inl lt) = lt
      by (inr le) = no (sym (ap is_variable_kind (kind_past k le)) ∙ h)

  not_nothing : {A : Type 0} (k : ℕ) (kind : TypeKind) → kind_of t k ≡ kind → length t.kinds ≤ k → (Nothing ≡ kind → A) → A
  not_nothing k kind is le f = f (sym (kind_past k le) ∙ is)

  record_past : (r : ℕ) → length t.records ≤ r → record_of t r ≡ no_record_type
  record_past r le = get_or_past t.records r no_record_type le

  module _ (legal : types_legal t ≡ true) where
    abbrev records_legal : Bool
    records_legal = all_below (length t.records) (record_legal t)

    abbrev signatures_legal : Bool
    signatures_legal = all (signature_legal t) t.signatures

    kinds_part : (all_below (length t.kinds) (type_legal t) ≡ true) × ((records_legal && signatures_legal) ≡ true)
    kinds_part = and_of (all_below (length t.kinds) (type_legal t)) (all_below (length t.records) (record_legal t) && all (signature_legal t) t.signatures) legal

    records_part : (records_legal ≡ true) × (signatures_legal ≡ true)
    records_part = and_of (all_below (length t.records) (record_legal t)) (all (signature_legal t) t.signatures) kinds_part.1

    kind_part : (k : ℕ) → k < length t.kinds → (kind_legal t (kind_of t k) ≡ true) × (nat_le (cells t k) most_cells ≡ true)
    kind_part k lt = and_of (kind_legal t (kind_of t k)) (nat_le (cells t k) most_cells) (below (length t.kinds) (type_legal t) kinds_part.0 k lt)

    record_part : (r : ℕ) → r < length t.records → (nat_le (record_of t r).cells most_cells ≡ true) × ((if_base (record_of t r).base (is_record_type t) && all (is_variable_type t) (types_of (record_of t r).fields)) ≡ true)
    record_part r lt = and_of (nat_le (record_of t r).cells most_cells) (if_base (record_of t r).base (is_record_type t) && all (is_variable_type t) (types_of (record_of t r).fields)) (below (length t.records) (record_legal t) records_part.0 r lt)

    element_there : (k : ℕ) (n : Option ℕ) (e : ℕ) → kind_of t k ≡ Array n e → e < length t.kinds
    element_there k n e is = by (less_or_past k (length t.kinds))
      where
        by : (k < length t.kinds) ⊎ (length t.kinds ≤ k) → e < length t.kinds
        by (inl lt) = variable_there e (and_of (is_length n) (is_variable_type t e) (sym (ap (kind_legal t) is) ∙ (kind_part k lt).0)).1
        by (inr le) = not_nothing k (Array n e) is le (λ bad. absurd (apart bad))
          where
            apart : Nothing ≡ Array n e → ⊥
            apart bad = cc

    whole_there : (k r : ℕ) → kind_of t k ≡ RecordOf r → r < length t.records
    whole_there k r is = by (less_or_past k (length t.kinds))
      where
        by : (k < length t.kinds) ⊎ (length t.kinds ≤ k) → r < length t.records
        by (inl lt) = ltb-true r (length t.records) (sym (ap (kind_legal t) is) ∙ (kind_part k lt).0)
        by (inr le) = not_nothing k (RecordOf r) is le (λ bad. absurd (apart bad))
          where
            apart : Nothing ≡ RecordOf r → ⊥
            apart bad = cc

    base_there : (r b : ℕ) → (record_of t r).base ≡ Some b → b < length t.records
    base_there r b is = by (less_or_past r (length t.records))
      where
        by : (r < length t.records) ⊎ (length t.records ≤ r) → b < length t.records
        by (inl lt) =
            let part = and_of (if_base (record_of t r).base (is_record_type t)) (all (is_variable_type t) (types_of (record_of t r).fields)) (record_part r lt).1 in
            ltb-true b (length t.records) (sym (ap (λ o. if_base o (is_record_type t)) is) ∙ part.0)
        by (inr le) = none_some b (sym (ap (λ (x : RecordType). x.base) (record_past r le)) ∙ is)

    field_there : (r i k : ℕ) → slice_get (types_of (record_of t r).fields) i ≡ Some k → k < length t.kinds
    field_there r i k at = by (less_or_past r (length t.records))
      where
        by : (r < length t.records) ⊎ (length t.records ≤ r) → k < length t.kinds
        by (inl lt) =
            let part = and_of (if_base (record_of t r).base (is_record_type t)) (all (is_variable_type t) (types_of (record_of t r).fields)) (record_part r lt).1 in
            variable_there k (all_at (is_variable_type t) (types_of (record_of t r).fields) part.1 i k at)
        by (inr le) = none_some k (sym (ap (λ (x : RecordType). slice_get (types_of x.fields) i) (record_past r le)) ∙ at)

    closed : IsClosed t
    closed = record { element = element_there; whole = whole_there; base = base_there; field = field_there }

pub measured : (p : Program) → well_formed p ≡ true → IsMeasured p
measured p h =
    let parts = parts_of p h in
    let t = p.types in
    let levels = all_below (length t.records) (level_fine p) in
    let counted = all_below (length t.records) (sizes_fine p) in
    let signatures = all (λ g. nat_le (argument_words g.formals) 24) t.signatures in
    let procedures = all (λ (q : Procedure). nat_le (argument_words q.formals) 24) p.procedures in
    let c = and_of (levels && counted) (signatures && procedures) parts.counts in
    let all_said : (r : ℕ) → r < length t.records → ((record_of t r).cells ≡ record_cells t r) × ((record_of t r).extent ≡ record_extent t r) = (λ r lt. said p r (below (length t.records) (sizes_fine p) (and_of levels counted c.0).1 r lt)) in
    let records : (r : ℕ) → r < length t.records → (record_of t r).cells ≡ record_cells t r = (λ r lt. (all_said r lt).0) in
    record {
      types = record {
        fine = parts.table;
        closed = closed t parts.legal;
        records = records;
        extents = λ r lt. (all_said r lt).1;
        few = λ k lt. leb-true (cells t k) most_cells (kind_part t parts.legal k lt).1;
        few_records = λ r lt. subst (λ n. n ≤ 1048576) (records r lt) (leb-true (record_of t r).cells most_cells (record_part t parts.legal r lt).0);
      };
      words = λ f q at. subst (λ n. n ≤ 24) (all_words q.formals) (leb-true (argument_words q.formals) 24 (all_at (λ (x : Procedure). nat_le (argument_words x.formals) 24) p.procedures (and_of signatures procedures c.1).1 f q at));
    }
