-- Cells of a table whose counts are right: an array's follow from its element's, a record's are those that its type says.
use Rattle.std.proofs.Common.{◌≡◌, ℕ, zero, suc, ◌+◌, ◌-◌, ◌*◌, ◌<◌, ◌^◌, ◌%◌, List, [], ◌∷◌, map, length, Bool, true, false, ◌&&◌, ◌||◌, Option, Some, None, eqb-true, refl, sym, ap, ap₂, ◌∙◌, subst, arith, sum}
use Rattle.std.specs.Prelude.{◌==◌}
use Rattle.std.proofs.lemmas.List.Sums.{sum_by-cons}
use Rattle.std.proofs.lemmas.Nat.{mul-mod_first}
use Rattle.ob_types.specs.Table.{Table}
use Rattle.ob_types.specs.Layout.{kind_of, record_of, types_of, base_cells, or_base, cells_by, cells_within, record_within, cells, record_cells, extends_within}
use Rattle.ob_types.specs.Forms.{all, all_below, nests_by, if_base, nests, record_nests, rooted, types_fine}
use Rattle.ob_types.specs.Counted.{IsCounted}
use Rattle.ob_types.specs.declared.types.TypeKind.{TypeKind}
use Rattle.ob_types.specs.declared.types.TypeKind.TheVariants.{Array}
use Rattle.ob_types.specs.declared.types.TypeKind.TheVariants.{Record as RecordOf}
use Rattle.ob_types.proofs.Tests.{no, and_of, below}

sums_same : (f g : ℕ → ℕ) (nest : ℕ → Bool) → ((k : ℕ) → nest k ≡ true → f k ≡ g k) → (ks : List ℕ) → all nest ks ≡ true → sum (map f ks) ≡ sum (map g ks)
sums_same f g nest e [] h = refl
sums_same f g nest e (k ∷ ks) h =
    let parts = and_of (nest k) (all nest ks) h in
    sum_by-cons (λ x. x) (f k) (map f ks) ∙ ap₂ (λ a b. a + b) (e k parts.0) (sums_same f g nest e ks parts.1) ∙ sym (sum_by-cons (λ x. x) (g k) (map g ks))

base_same : (f g : ℕ → ℕ) (nest : ℕ → Bool) → ((k : ℕ) → nest k ≡ true → f k ≡ g k) → (o : Option ℕ) → if_base o nest ≡ true → base_cells o f ≡ base_cells o g
base_same f g nest e None h = refl
base_same f g nest e (Some b) h = e b h

kind_same : (f g w v : ℕ → ℕ) (nest whole : ℕ → Bool) → ((k : ℕ) → nest k ≡ true → f k ≡ g k) → ((r : ℕ) → whole r ≡ true → w r ≡ v r) → (kind : TypeKind) → nests_by nest whole kind ≡ true → cells_by f w kind ≡ cells_by g v kind
kind_same f g w v nest whole e d (Array (Some n) element) h = ap (λ m. n * m) (e element h)
kind_same f g w v nest whole e d (RecordOf r) h = d r h
kind_same f g w v nest whole e d _ h = refl

module _ (t : Table) where
  -- a type that is nested at most so deep has the cells that it has deeper down
  mutual
    pub stays : (d k : ℕ) → nests t d k ≡ true → cells_within t d k ≡ cells_within t (suc d) k
    stays zero k h = no h
    stays (suc d) k h = kind_same (cells_within t d) (cells_within t (suc d)) (record_within t d) (record_within t (suc d)) (nests t d) (record_nests t d) (stays d) (record_stays d) (kind_of t k) h

    pub record_stays : (d r : ℕ) → record_nests t d r ≡ true → record_within t d r ≡ record_within t (suc d) r
    record_stays zero r h = no h
    record_stays (suc d) r h =
        let parts = and_of (if_base (record_of t r).base (record_nests t d)) (all (nests t d) (types_of (record_of t r).fields)) h in
        ap₂ (λ a b. a + b) (base_same (record_within t d) (record_within t (suc d)) (record_nests t d) (record_stays d) (record_of t r).base parts.0) (sums_same (cells_within t d) (cells_within t (suc d)) (nests t d) (stays d) (types_of (record_of t r).fields) parts.1)

  abbrev depth : ℕ
  depth = length t.kinds + length t.records

  module _ (fine : types_fine t ≡ true) where
    nest : (k : ℕ) → k < length t.kinds → nests t (suc depth) k ≡ true
    nest k l = below (length t.kinds) (nests t (suc depth)) (and_of (all_below (length t.kinds) (nests t (suc depth))) (all_below (length t.records) (record_nests t (suc depth)) && all_below (length t.records) (rooted t (suc (length t.records)))) fine).0 k l

    pub cells-array : (k n e : ℕ) → k < length t.kinds → kind_of t k ≡ Array (Some n) e → cells t k ≡ n * cells t e
    cells-array k n e l is =
        ap (λ kind. cells_by (cells_within t depth) (record_within t depth) kind) is
        ∙ ap (λ m. n * m) (stays depth e (subst (λ kind. nests_by (nests t depth) (record_nests t depth) kind ≡ true) is (nest k l)))

    pub cells-record : (k r : ℕ) → k < length t.kinds → kind_of t k ≡ RecordOf r → cells t k ≡ record_cells t r
    cells-record k r l is =
        ap (λ kind. cells_by (cells_within t depth) (record_within t depth) kind) is
        ∙ record_stays depth r (subst (λ kind. nests_by (nests t depth) (record_nests t depth) kind ≡ true) is (nest k l))

  -- one more length of nested arrays is counted, of cells or of bytes
  pub product_on : (count n here inner whole : ℕ) → here ≡ n * inner → (count * here) % 2 ^ 64 ≡ whole % 2 ^ 64 → (count * n % 2 ^ 64 * inner) % 2 ^ 64 ≡ whole % 2 ^ 64
  product_on count n here inner whole is h =
      mul-mod_first (count * n) inner (2 ^ 64)
      ∙ ap (λ m. m % 2 ^ 64) (regrouped count n inner ∙ ap (λ m. count * m) (sym is))
      ∙ h
    where
      regrouped : (a b c : ℕ) → a * b * c ≡ a * (b * c)
      regrouped a b c = grind arith

  pub counted-array : IsCounted t → (count at n e whole : ℕ) → at < length t.kinds → kind_of t at ≡ Array (Some n) e → (count * cells t at) % 2 ^ 64 ≡ whole % 2 ^ 64 → (count * n % 2 ^ 64 * cells t e) % 2 ^ 64 ≡ whole % 2 ^ 64
  counted-array counted count at n e whole l is h = product_on count n (cells t at) (cells t e) whole (cells-array counted.fine at n e l is) h

  -- all of them are
  pub whole_is : (n w : ℕ) → n ≡ w % 2 ^ 64 → w < 2 ^ 64 → n ≡ w
  whole_is n w is few = omega (arith, is, few)

  pub counted-whole : IsCounted t → (k n : ℕ) → k < length t.kinds → n ≡ cells t k % 2 ^ 64 → n ≡ cells t k
  counted-whole counted k n l is = let few = counted.few k l in omega (arith, is, few)

differ : (a b : ℕ) → (a ≡ b → ⊥) → (a == b) ≡ false
differ a b other = by (a == b) refl
  where
    by : (e : Bool) → (a == b) ≡ e → e ≡ false
    by true is = absurd (other (eqb-true a b is))
    by false is = refl

-- one base further, where the record types differ
pub extends_on : (t : Table) (left at next base : ℕ) → (at ≡ base → ⊥) → (left ≡ 0 → ⊥) → (record_of t at).base ≡ Some next → extends_within t (left - 1) next base ≡ extends_within t left at base
extends_on t zero at next base other some is = absurd (some refl)
extends_on t (suc left) at next base other some is =
    let e : suc left - 1 ≡ left = omega arith in
    ap (λ n. extends_within t n next base) e
    ∙ sym (ap (λ b. b || or_base (record_of t at).base (λ a. extends_within t left a base)) (differ at base other) ∙ ap (λ o. or_base o (λ a. extends_within t left a base)) is)
