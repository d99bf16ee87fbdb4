-- A table that grew: what it says of the numbers that were there stays, and so do their cells.
use Rattle.std.proofs.Common.{◌≡◌, ℕ, zero, suc, ◌+◌, ◌-◌, ◌*◌, ◌<◌, ◌≤◌, List, [], ◌∷◌, map, length, Bool, true, ◌&&◌, Option, Some, None, refl, sym, ap, ap₂, ◌∙◌, arith, sum}
use Rattle.std.specs.Prelude.{slice_get}
use Rattle.std.proofs.lemmas.List.Sums.{sum_by-cons}
use Rattle.ob_types.specs.Table.{Table}
use Rattle.ob_types.specs.Layout.{kind_of, record_of, types_of, base_cells, cells_by, cells_within, record_within, cells, record_cells}
use Rattle.ob_types.specs.Forms.{all, all_below, nests_by, if_base, nests, record_nests, rooted, types_fine}
use Rattle.ob_types.specs.Counted.{IsClosed}
use Rattle.ob_types.specs.declared.types.TypeKind.{TypeKind}
use Rattle.ob_types.specs.declared.types.TypeKind.TheVariants.{Array}
use Rattle.ob_types.specs.declared.types.TypeKind.TheVariants.{Record as RecordOf}
use Rattle.ob_types.proofs.Tests.{no, and_of, and_from, below}
use Rattle.ob_types.proofs.Counting.{stays, record_stays}

-- what is nested at most so deep is nested at most one deeper

kind_more : (f g w v : ℕ → Bool) → ((k : ℕ) → f k ≡ true → g k ≡ true) → ((r : ℕ) → w r ≡ true → v r ≡ true) → (kind : TypeKind) → nests_by f w kind ≡ true → nests_by g v kind ≡ true
kind_more f g w v a b (Array (Some n) e) h = a e h
kind_more f g w v a b (RecordOf r) h = b r h
kind_more f g w v a b _ h = refl

base_more : (f g : ℕ → Bool) → ((k : ℕ) → f k ≡ true → g k ≡ true) → (o : Option ℕ) → if_base o f ≡ true → if_base o g ≡ true
base_more f g a None h = refl
base_more f g a (Some b) h = a b h

all_more : (f g : ℕ → Bool) → ((k : ℕ) → f k ≡ true → g k ≡ true) → (ks : List ℕ) → all f ks ≡ true → all g ks ≡ true
all_more f g a [] h = refl
all_more f g a (k ∷ ks) h = let parts = and_of (f k) (all f ks) h in and_from (g k) (all g ks) (a k parts.0) (all_more f g a ks parts.1)

module _ (u : Table) where
  mutual
    nests_more : (d k : ℕ) → nests u d k ≡ true → nests u (suc d) k ≡ true
    nests_more zero k h = no h
    nests_more (suc d) k h = kind_more (nests u d) (nests u (suc d)) (record_nests u d) (record_nests u (suc d)) (nests_more d) (record_more d) (kind_of u k) h

    record_more : (d r : ℕ) → record_nests u d r ≡ true → record_nests u (suc d) r ≡ true
    record_more zero r h = no h
    record_more (suc d) r h =
        let parts = and_of (if_base (record_of u r).base (record_nests u d)) (all (nests u d) (types_of (record_of u r).fields)) h in
        and_from (if_base (record_of u r).base (record_nests u (suc d))) (all (nests u (suc d)) (types_of (record_of u r).fields))
        (base_more (record_nests u d) (record_nests u (suc d)) (record_more d) (record_of u r).base parts.0)
        (all_more (nests u d) (nests u (suc d)) (nests_more d) (types_of (record_of u r).fields) parts.1)

  -- so many deeper
  deeper : (j d k : ℕ) → nests u d k ≡ true → cells_within u d k ≡ cells_within u (j + d) k
  deeper zero d k h = let e : d ≡ 0 + d = omega arith in ap (λ n. cells_within u n k) e
  deeper (suc j) d k h =
      let e : j + suc d ≡ suc j + d = omega arith in
      stays u d k h ∙ deeper j (suc d) k (nests_more d k h) ∙ ap (λ n. cells_within u n k) e

  record_deeper : (j d r : ℕ) → record_nests u d r ≡ true → record_within u d r ≡ record_within u (j + d) r
  record_deeper zero d r h = let e : d ≡ 0 + d = omega arith in ap (λ n. record_within u n r) e
  record_deeper (suc j) d r h =
      let e : j + suc d ≡ suc j + d = omega arith in
      record_stays u d r h ∙ record_deeper j (suc d) r (record_more d r h) ∙ ap (λ n. record_within u n r) e

-- parts that agree make wholes that agree

cells_alike : (f g w v : ℕ → ℕ) (kind : TypeKind) → ((n e : ℕ) → kind ≡ Array (Some n) e → f e ≡ g e) → ((r : ℕ) → kind ≡ RecordOf r → w r ≡ v r) → cells_by f w kind ≡ cells_by g v kind
cells_alike f g w v (Array (Some n) e) a b = ap (λ m. n * m) (a n e refl)
cells_alike f g w v (RecordOf r) a b = b r refl
cells_alike f g w v _ a b = refl

nests_alike : (f g w v : ℕ → Bool) (kind : TypeKind) → ((n e : ℕ) → kind ≡ Array (Some n) e → f e ≡ g e) → ((r : ℕ) → kind ≡ RecordOf r → w r ≡ v r) → nests_by f w kind ≡ nests_by g v kind
nests_alike f g w v (Array (Some n) e) a b = a n e refl
nests_alike f g w v (RecordOf r) a b = b r refl
nests_alike f g w v _ a b = refl

base_cells_alike : (f g : ℕ → ℕ) (o : Option ℕ) → ((b : ℕ) → o ≡ Some b → f b ≡ g b) → base_cells o f ≡ base_cells o g
base_cells_alike f g None a = refl
base_cells_alike f g (Some b) a = a b refl

if_base_alike : (f g : ℕ → Bool) (o : Option ℕ) → ((b : ℕ) → o ≡ Some b → f b ≡ g b) → if_base o f ≡ if_base o g
if_base_alike f g None a = refl
if_base_alike f g (Some b) a = a b refl

sums_alike : (f g : ℕ → ℕ) (ks : List ℕ) → ((i k : ℕ) → slice_get ks i ≡ Some k → f k ≡ g k) → sum (map f ks) ≡ sum (map g ks)
sums_alike f g [] a = refl
sums_alike f g (k ∷ ks) a =
    sum_by-cons (λ x. x) (f k) (map f ks) ∙ ap₂ (λ m n. m + n) (a 0 k refl) (sums_alike f g ks (λ i j at. a (suc i) j at)) ∙ sym (sum_by-cons (λ x. x) (g k) (map g ks))

all_alike : (f g : ℕ → Bool) (ks : List ℕ) → ((i k : ℕ) → slice_get ks i ≡ Some k → f k ≡ g k) → all f ks ≡ all g ks
all_alike f g [] a = refl
all_alike f g (k ∷ ks) a = ap₂ (λ m n. m && n) (a 0 k refl) (all_alike f g ks (λ i j at. a (suc i) j at))

-- u says of all numbers of t what t says of them
module _ (t u : Table) (closed : IsClosed t) (kinds : (k : ℕ) → k < length t.kinds → kind_of u k ≡ kind_of t k) (records : (r : ℕ) → r < length t.records → record_of u r ≡ record_of t r) where
  mutual
    cells_agree : (d k : ℕ) → k < length t.kinds → cells_within u d k ≡ cells_within t d k
    cells_agree zero k l = refl
    cells_agree (suc d) k l =
        ap (λ kind. cells_by (cells_within u d) (record_within u d) kind) (kinds k l)
        ∙ cells_alike (cells_within u d) (cells_within t d) (record_within u d) (record_within t d) (kind_of t k) (λ n e is. cells_agree d e (closed.element k (Some n) e is)) (λ r is. record_cells_agree d r (closed.whole k r is))

    record_cells_agree : (d r : ℕ) → r < length t.records → record_within u d r ≡ record_within t d r
    record_cells_agree zero r l = refl
    record_cells_agree (suc d) r l =
        ap (λ q. base_cells q.base (record_within u d) + sum (map (cells_within u d) (types_of q.fields))) (records r l)
        ∙ ap₂ (λ m n. m + n) (base_cells_alike (record_within u d) (record_within t d) (record_of t r).base (λ b is. record_cells_agree d b (closed.base r b is)))
        (sums_alike (cells_within u d) (cells_within t d) (types_of (record_of t r).fields) (λ i k at. cells_agree d k (closed.field r i k at)))

  mutual
    nests_agree : (d k : ℕ) → k < length t.kinds → nests u d k ≡ nests t d k
    nests_agree zero k l = refl
    nests_agree (suc d) k l =
        ap (λ kind. nests_by (nests u d) (record_nests u d) kind) (kinds k l)
        ∙ nests_alike (nests u d) (nests t d) (record_nests u d) (record_nests t d) (kind_of t k) (λ n e is. nests_agree d e (closed.element k (Some n) e is)) (λ r is. record_nests_agree d r (closed.whole k r is))

    record_nests_agree : (d r : ℕ) → r < length t.records → record_nests u d r ≡ record_nests t d r
    record_nests_agree zero r l = refl
    record_nests_agree (suc d) r l =
        ap (λ q. if_base q.base (record_nests u d) && all (nests u d) (types_of q.fields)) (records r l)
        ∙ ap₂ (λ m n. m && n) (if_base_alike (record_nests u d) (record_nests t d) (record_of t r).base (λ b is. record_nests_agree d b (closed.base r b is)))
        (all_alike (nests u d) (nests t d) (types_of (record_of t r).fields) (λ i k at. nests_agree d k (closed.field r i k at)))

  abbrev small : ℕ
  small = suc (length t.kinds + length t.records)

  -- a table that grew counts the types that were there as before
  pub cells-grown : types_fine t ≡ true → length t.kinds ≤ length u.kinds → length t.records ≤ length u.records → (k : ℕ) → k < length t.kinds → cells u k ≡ cells t k
  cells-grown fine more_kinds more_records k l =
      let nest = below (length t.kinds) (nests t small) (and_of (all_below (length t.kinds) (nests t small)) (all_below (length t.records) (record_nests t small) && all_below (length t.records) (rooted t (suc (length t.records)))) fine).0 k l in
      let j = length u.kinds + length u.records - (length t.kinds + length t.records) in
      let e : j + small ≡ suc (length u.kinds + length u.records) = omega (arith, more_kinds, more_records) in
      sym (deeper u j small k (nests_agree small k l ∙ nest) ∙ ap (λ n. cells_within u n k) e) ∙ cells_agree small k l

  pub record_cells-grown : types_fine t ≡ true → length t.kinds ≤ length u.kinds → length t.records ≤ length u.records → (r : ℕ) → r < length t.records → record_cells u r ≡ record_cells t r
  record_cells-grown fine more_kinds more_records r l =
      let nest = below (length t.records) (record_nests t small) (and_of (all_below (length t.records) (record_nests t small)) (all_below (length t.records) (rooted t (suc (length t.records)))) (and_of (all_below (length t.kinds) (nests t small)) (all_below (length t.records) (record_nests t small) && all_below (length t.records) (rooted t (suc (length t.records)))) fine).1).0 r l in
      let j = length u.kinds + length u.records - (length t.kinds + length t.records) in
      let e : j + small ≡ suc (length u.kinds + length u.records) = omega (arith, more_kinds, more_records) in
      sym (record_deeper u j small r (record_nests_agree small r l ∙ nest) ∙ ap (λ n. record_within u n r) e) ∙ record_cells_agree small r l
