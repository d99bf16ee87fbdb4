-- The sample meets what the calls ask of a table, by computing over all its types.
use Rattle.std.proofs.Common.{◌≡◌, ℕ, zero, suc, ◌<◌, ◌≤◌, ◌^◌, Bool, true, false, not, ◌||◌, ◌&&◌, ◌==◌, Option, refl, sym, ap, subst, ◌∙◌, arith, inl, inr, ◌⊎◌}
use Rattle.std.specs.Prelude.{nat_lt}
use Rattle.std.proofs.lemmas.List.{get_or_past}
use Rattle.std.proofs.lemmas.Bool.{cases_lt, ltb-true, eqb-true, and_parts}
use Rattle.ob_types.specs.Layout.{kind_of, record_of, record_cells, cells}
use Rattle.ob_types.specs.Assignable.{same_kind, same_within, same}
use Rattle.ob_types.specs.Counted.{IsCounted, IsLaidOut, HasOneNumberEach}
use Rattle.ob_types.specs.Trees.{data_tree, record_row, record_extent, bytes, fields_before, field_offset}
use Rattle.ob_types.specs.declared.types.TypeKind.{TypeKind}
use Rattle.ob_types.specs.declared.types.TypeKind.TheVariants.{Int, Char, Byte, Nil, Array, Nothing}
use Rattle.ob_types.specs.declared.types.TypeKind.TheVariants.{Bool as BoolKind, Set as SetKind, Text as TextKind, Record as RecordKind, Pointer as PointerKind, Procedure as ProcedureKind}
use Rattle.type_rows.specs.Sample.{sample}

-- a test of each number below n
each : (ℕ → Bool) → ℕ → Bool
each test zero = true
each test (suc n) = test n && each test n

each_at : (test : ℕ → Bool) (n k : ℕ) → each test n ≡ true → k < n → test k ≡ true
unfolding each
each_at test zero k h lt = absurd (omega (arith, lt))
each_at test (suc n) k h lt = by (cases_lt k n) (and_parts (test n) _ h) (λ e lt. each_at test n k e lt)
  where
    by : ◌⊎◌ (k < n) (n ≤ k) → (test n ≡ true) × (each test n ≡ true) → (each test n ≡ true → k < n → test k ≡ true) → test k ≡ true
    by (inl less) parts on = on parts.1 less
    by (inr more) parts on = let e : n ≡ k = omega (arith, more, lt) in subst (λ i. test i ≡ true) e parts.0

past : (k : ℕ) → 32 ≤ k → kind_of sample k ≡ Nothing
past k le = get_or_past sample.kinds k Nothing le

---- Arrays and records

element_behind : ℕ → TypeKind → Bool
element_behind k (Array n e) = nat_lt e k
element_behind k _ = true

record_there : TypeKind → Bool
record_there (RecordKind r) = nat_lt r 7
record_there _ = true

elements_behind : each (λ k. element_behind k (kind_of sample k)) 32 ≡ true
unfolding each element_behind
elements_behind = refl

records_there : each (λ k. record_there (kind_of sample k)) 32 ≡ true
unfolding each record_there
records_there = refl

few_cells : each (λ k. nat_lt (cells sample k) (2 ^ 64)) 32 ≡ true
unfolding each
few_cells = refl

element : (k : ℕ) (n : Option ℕ) (e : ℕ) → kind_of sample k ≡ Array n e → e < k
unfolding element_behind
element k n e is = ltb-true e k (subst (λ t. element_behind k t ≡ true) is (by (cases_lt k 32)))
  where
    by : ◌⊎◌ (k < 32) (32 ≤ k) → element_behind k (kind_of sample k) ≡ true
    by (inl lt) = each_at (λ i. element_behind i (kind_of sample i)) 32 k elements_behind lt
    by (inr le) = ap (element_behind k) (past k le)

whole : (k r : ℕ) → kind_of sample k ≡ RecordKind r → r < 7
unfolding record_there
whole k r is = ltb-true r 7 (subst (λ t. record_there t ≡ true) is (by (cases_lt k 32)))
  where
    by : ◌⊎◌ (k < 32) (32 ≤ k) → record_there (kind_of sample k) ≡ true
    by (inl lt) = each_at (λ i. record_there (kind_of sample i)) 32 k records_there lt
    by (inr le) = ap record_there (past k le)

pub is_counted : IsCounted sample
is_counted = record {
  fine = refl;
  element = element;
  record_there = whole;
  records = records;
  few = λ k lt. ltb-true _ _ (each_at (λ i. nat_lt (cells sample i) (2 ^ 64)) 32 k few_cells lt);
}
  where
    records : (r : ℕ) → r < 7 → (record_of sample r).cells ≡ record_cells sample r
    records zero l = refl
    records (suc zero) l = refl
    records (suc (suc zero)) l = refl
    records (suc (suc (suc zero))) l = refl
    records (suc (suc (suc (suc zero)))) l = refl
    records (suc (suc (suc (suc (suc zero))))) l = refl
    records (suc (suc (suc (suc (suc (suc zero)))))) l = refl
    records (suc (suc (suc (suc (suc (suc (suc r))))))) l = absurd (omega (arith, l))

few_bytes : each (λ k. nat_lt (bytes sample k) (2 ^ 64)) 32 ≡ true
unfolding each data_tree
few_bytes = refl

pub is_laid_out : IsLaidOut sample
unfolding record_row
is_laid_out = record {
  records = records;
  few = λ k lt. ltb-true _ _ (each_at (λ i. nat_lt (bytes sample i) (2 ^ 64)) 32 k few_bytes lt);
}
  where
    records : (r : ℕ) → r < 7 → (record_of sample r).extent ≡ record_extent sample r
    records zero l = refl
    records (suc zero) l = refl
    records (suc (suc zero)) l = refl
    records (suc (suc (suc zero))) l = refl
    records (suc (suc (suc (suc zero)))) l = refl
    records (suc (suc (suc (suc (suc zero))))) l = refl
    records (suc (suc (suc (suc (suc (suc zero)))))) l = refl
    records (suc (suc (suc (suc (suc (suc (suc r))))))) l = absurd (omega (arith, l))

-- where fields stand: behind a CHAR an INTEGER at the next multiple of 8, and what an extension adds behind its base's rounded bytes
pub offsets : (field_offset sample 3 0 ≡ 0) × (field_offset sample 3 1 ≡ 8) × (field_offset sample 3 2 ≡ 16) × (field_offset sample 5 0 ≡ 24) × (field_offset sample 4 1 ≡ 1) × (field_offset sample 6 2 ≡ 2)
unfolding data_tree record_row fields_before
offsets = (refl, refl, refl, refl, refl, refl)

---- One number for each type

different : each (λ a. each (λ b. a == b || not (same sample a b)) 32) 32 ≡ true
unfolding each
different = refl

by_number : (a b : ℕ) → (a == b || false) ≡ true → a ≡ b
by_number a b h = eqb-true a b (left (a == b) h)
  where
    left : (x : Bool) → (x || false) ≡ true → x ≡ true
    left true h = refl
    left false h = h

nothing_first : (s : ℕ → ℕ → Bool) (k : TypeKind) → same_kind sample s Nothing k ≡ false
nothing_first s k = refl

nothing_second : (s : ℕ → ℕ → Bool) (k : TypeKind) → same_kind sample s k Nothing ≡ false
nothing_second s Int = refl
nothing_second s BoolKind = refl
nothing_second s Char = refl
nothing_second s Byte = refl
nothing_second s SetKind = refl
nothing_second s Nil = refl
nothing_second s (TextKind n) = refl
nothing_second s (Array n e) = refl
nothing_second s (RecordKind r) = refl
nothing_second s (PointerKind r) = refl
nothing_second s (ProcedureKind f) = refl
nothing_second s Nothing = refl

pub has_one_number_each : HasOneNumberEach sample
has_one_number_each = record { one = λ a b h. by a b h (cases_lt a 32) (cases_lt b 32) }
  where
    inner : ℕ → ℕ → ℕ → Bool
    inner d a b = same_within sample d a b

    told : (a b : ℕ) → same sample a b ≡ true → (a == b || not (same sample a b)) ≡ true → a ≡ b
    told a b h e = by_number a b (sym (ap (λ s. a == b || not s) h) ∙ e)

    by : (a b : ℕ) → same sample a b ≡ true → ◌⊎◌ (a < 32) (32 ≤ a) → ◌⊎◌ (b < 32) (32 ≤ b) → a ≡ b
    by a b h (inl la) (inl lb) = told a b h (each_at (λ j. a == j || not (same sample a j)) 32 b (each_at (λ i. each (λ j. i == j || not (same sample i j)) 32) 32 a different la) lb)
    by a b h (inr pa) y = by_number a b (sym (ap (λ x. a == b || x) (ap (λ k. same_kind sample (same_within sample 31) k (kind_of sample b)) (past a pa) ∙ nothing_first (same_within sample 31) (kind_of sample b))) ∙ h)
    by a b h (inl la) (inr pb) = by_number a b (sym (ap (λ x. a == b || x) (ap (λ k. same_kind sample (same_within sample 31) (kind_of sample a) k) (past b pb) ∙ nothing_second (same_within sample 31) (kind_of sample a))) ∙ h)
