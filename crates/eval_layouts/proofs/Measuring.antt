-- The cells of types, by those of the types that they are made of.
use Rattle.std.proofs.Common.{◌≡◌, ℕ, zero, suc, ◌+◌, ◌*◌, ◌<◌, ◌≤◌, List, [], ◌∷◌, length, true, Option, Some, None, refl, sym, ap, ◌∙◌, ◌⊎◌, inl, inr, arith}
use Rattle.std.proofs.lemmas.List.{get_or_past}
use Rattle.ob_types.specs.Table.{Table}
use Rattle.ob_types.specs.Layout.{kind_of, record_of, cells, record_cells}
use Rattle.ob_types.specs.declared.types.TypeKind.{TypeKind}
use Rattle.ob_types.specs.declared.types.TypeKind.TheVariants.{Int, Array, Nothing}
use Rattle.ob_types.specs.declared.types.TypeKind.TheVariants.{Record as RecordOf}
use Rattle.ob_types.proofs.Counting.{cells-array, cells-record}
use Rattle.ob_types.proofs.Tests.{less_or_past}
use Rattle.eval_layouts.specs.Lays.{IsMeasured}

module _ (t : Table) (m : IsMeasured t) where
  -- what isn't in the table is of no kind
  known : (k : ℕ) (kind : TypeKind) → kind_of t k ≡ kind → (kind ≡ Nothing → ⊥) → k < length t.kinds
  known k kind is some = by (less_or_past k (length t.kinds))
    where
      by : (k < length t.kinds) ⊎ (length t.kinds ≤ k) → k < length t.kinds
      by (inl l) = l
      by (inr l) = absurd (some (sym is ∙ get_or_past t.kinds k Nothing l))

  pub array_cells : (k n e : ℕ) → kind_of t k ≡ Array (Some n) e → cells t k ≡ n * cells t e
  array_cells k n e is = cells-array t m.fine k n e (known k (Array (Some n) e) is (λ no. absurd (cc))) is

  pub record_of_cells : (k r : ℕ) → kind_of t k ≡ RecordOf r → cells t k ≡ record_cells t r
  record_of_cells k r is = cells-record t m.fine k r (known k (RecordOf r) is (λ no. absurd (cc))) is

  -- one more length
  pub array_on : (count whole k n e : ℕ) → count * cells t k ≡ whole → kind_of t k ≡ Array (Some n) e → count * n * cells t e ≡ whole
  array_on count whole k n e h is = regrouped count n (cells t e) ∙ ap (λ c. count * c) (sym (array_cells k n e is)) ∙ h
    where
      regrouped : (a b c : ℕ) → a * b * c ≡ a * (b * c)
      regrouped a b c = grind arith
