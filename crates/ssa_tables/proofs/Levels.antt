-- How deep arrays are nested in each other, and how their cells are counted.
use Rattle.std.proofs.Common.{◌≡◌, ℕ, zero, suc, ◌+◌, ◌*◌, ◌<◌, ◌≤◌, ◌^◌, ◌%◌, length, List, [], ◌∷◌, get_or, Bool, true, ◌&&◌, Some, refl, sym, ap, ◌∙◌, subst, arith}
use Rattle.std.proofs.lemmas.Nat.{mul-mod_first}
use Rattle.ob_types.specs.Table.{Table}
use Rattle.ob_types.specs.Layout.{kind_of, cells}
use Rattle.ob_types.specs.Forms.{all_below, nests_by, nests, record_nests, rooted, types_fine}
use Rattle.ob_types.specs.declared.types.TypeKind.{TypeKind}
use Rattle.ob_types.specs.declared.types.TypeKind.TheVariants.{Array}
use Rattle.ob_types.proofs.Tests.{no, and_of, below}
use Rattle.ob_types.proofs.Counting.{cells-array}

abbrev levels_by : (ℕ → ℕ) → TypeKind → ℕ
levels_by f (Array (Some n) e) = suc (f e)
levels_by f _ = 0

module _ (t : Table) where
  abbrev levels_within : ℕ → ℕ → ℕ
  levels_within zero k = 0
  levels_within (suc d) k = levels_by (levels_within d) (kind_of t k)

  -- the arrays that a type is an array of, one of the other
  abbrev pub levels : ℕ → ℕ
  levels k = levels_within (suc (length t.kinds + length t.records)) k

  abbrev depth : ℕ
  depth = length t.kinds + length t.records

  same_levels : (f g : ℕ → ℕ) (nest whole : ℕ → Bool) → ((k : ℕ) → nest k ≡ true → f k ≡ g k) → (kind : TypeKind) → nests_by nest whole kind ≡ true → levels_by f kind ≡ levels_by g kind
  same_levels f g nest whole e (Array (Some n) k) h = ap suc (e k h)
  same_levels f g nest whole e _ h = refl

  levels_stay : (d k : ℕ) → nests t d k ≡ true → levels_within d k ≡ levels_within (suc d) k
  levels_stay zero k h = no h
  levels_stay (suc d) k h = same_levels (levels_within d) (levels_within (suc d)) (nests t d) (record_nests t d) (levels_stay d) (kind_of t k) h

  module _ (fine : types_fine t ≡ true) where
    abbrev rest : Bool
    rest = all_below (length t.records) (record_nests t (suc depth)) && all_below (length t.records) (rooted t (suc (length t.records)))

    nest : (k : ℕ) → k < length t.kinds → nests t (suc depth) k ≡ true
    nest k l = below (length t.kinds) (nests t (suc depth)) (and_of (all_below (length t.kinds) (nests t (suc depth))) rest fine).0 k l

    pub levels_less : (k n e : ℕ) → k < length t.kinds → kind_of t k ≡ Array (Some n) e → levels e < levels k
    levels_less k n e l is =
        let one : levels k ≡ suc (levels_within depth e) = ap (levels_by (levels_within depth)) is in
        let other : levels_within depth e ≡ levels e = levels_stay depth e (subst (λ kind. nests_by (nests t depth) (record_nests t depth) kind ≡ true) is (nest k l)) in
        omega (arith, one, other)

    -- one more length of nested arrays is counted
    pub counted_on : (count at n e whole : ℕ) → at < length t.kinds → kind_of t at ≡ Array (Some n) e → (count * cells t at) % 2 ^ 64 ≡ whole % 2 ^ 64 → (count * n % 2 ^ 64 * cells t e) % 2 ^ 64 ≡ whole % 2 ^ 64
    counted_on count at n e whole l is h =
        mul-mod_first (count * n) (cells t e) (2 ^ 64)
        ∙ ap (λ m. m % 2 ^ 64) (regrouped count n (cells t e) ∙ ap (λ m. count * m) (sym (cells-array t fine at n e l is)))
        ∙ h
      where
        regrouped : (a b c : ℕ) → a * b * c ≡ a * (b * c)
        regrouped a b c = grind arith

-- what is read inside a list doesn't depend on what stands outside
pub default_any : {A : Type 0} (xs : List A) (i : ℕ) (a b : A) → i < length xs → get_or xs i a ≡ get_or xs i b
default_any [] i a b lt = absurd (omega (arith, lt))
default_any (x ∷ xs) zero a b lt = refl
default_any (x ∷ xs) (suc i) a b lt = default_any xs i a b (omega (arith, lt))

-- all lengths are counted
pub cells_counted : (count c whole : ℕ) → whole ≤ 1048576 → (count * c) % 2 ^ 64 ≡ whole % 2 ^ 64 → (count * c) % 2 ^ 64 ≡ whole
cells_counted count c whole few h = h ∙ omega (arith, few)
