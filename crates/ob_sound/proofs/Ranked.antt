-- A table whose types come behind their parts is fine.
use Rattle.std.proofs.Common.{◌≡◌, ℕ, zero, suc, ◌+◌, ◌<◌, List, [], ◌∷◌, length, Bool, true, ◌&&◌, Option, Some, None, refl, arith}
use Rattle.std.specs.Prelude.{slice_get}
use Rattle.ob_types.specs.Layout.{kind_of, record_of, types_of}
use Rattle.ob_types.specs.declared.types.TypeKind.{TypeKind}
use Rattle.ob_types.specs.declared.types.TypeKind.TheVariants.{Array}
use Rattle.ob_types.specs.declared.types.TypeKind.TheVariants.{Record as RecordOf}
use Rattle.ob_types.specs.Table.{Table}
use Rattle.ob_types.specs.Forms.{all, nests_by, if_base, nests, record_nests, rooted}
use Rattle.ob_types.specs.Forms.{all_below, types_fine}
use Rattle.ob_types.specs.Ranks.{Ranks}
use Rattle.ob_types.proofs.Tests.{and_from, below_from}

kind_nests : (nest whole : ℕ → Bool) (kind : TypeKind) → ((n e : ℕ) → kind ≡ Array (Some n) e → nest e ≡ true) → ((r : ℕ) → kind ≡ RecordOf r → whole r ≡ true) → nests_by nest whole kind ≡ true
kind_nests nest whole (Array (Some n) e) f g = f n e refl
kind_nests nest whole (RecordOf r) f g = g r refl
kind_nests nest whole _ f g = refl

base_from : (test : ℕ → Bool) (o : Option ℕ) → ((b : ℕ) → o ≡ Some b → test b ≡ true) → if_base o test ≡ true
base_from test None f = refl
base_from test (Some b) f = f b refl

all_from : (test : ℕ → Bool) (xs : List ℕ) → ((i x : ℕ) → slice_get xs i ≡ Some x → test x ≡ true) → all test xs ≡ true
all_from test [] f = refl
all_from test (x ∷ xs) f = and_from (test x) (all test xs) (f 0 x refl) (all_from test xs (λ i y at. f (suc i) y at))

module _ (t : Table) (ranks : Ranks t) where
  mutual
    nests_ranked : (d k : ℕ) → ranks.of_kind k < d → nests t d k ≡ true
    nests_ranked zero k l = absurd (omega (arith, l))
    nests_ranked (suc d) k l = kind_nests (nests t d) (record_nests t d) (kind_of t k)
        (λ n e is. nests_ranked d e (let s = ranks.element k n e is in omega (arith, l, s)))
        (λ r is. record_ranked d r (let s = ranks.whole k r is in omega (arith, l, s)))

    record_ranked : (d r : ℕ) → ranks.of_record r < d → record_nests t d r ≡ true
    record_ranked zero r l = absurd (omega (arith, l))
    record_ranked (suc d) r l = and_from (if_base (record_of t r).base (record_nests t d)) (all (nests t d) (types_of (record_of t r).fields))
        (base_from (record_nests t d) (record_of t r).base (λ b is. record_ranked d b (let s = (ranks.base r b is).0 in omega (arith, l, s))))
        (all_from (nests t d) (types_of (record_of t r).fields) (λ i k at. nests_ranked d k (let s = ranks.field r i k at in omega (arith, l, s))))

  rooted_ranked : (d r : ℕ) → ranks.level r < d → rooted t d r ≡ true
  rooted_ranked zero r l = absurd (omega (arith, l))
  rooted_ranked (suc d) r l = base_from (rooted t d) (record_of t r).base (λ b is. rooted_ranked d b (let s = (ranks.base r b is).1 in omega (arith, l, s)))

  pub ranked_fine : types_fine t ≡ true
  ranked_fine =
      and_from (all_below (length t.kinds) (nests t (suc (length t.kinds + length t.records)))) (all_below (length t.records) (record_nests t (suc (length t.kinds + length t.records))) && all_below (length t.records) (rooted t (suc (length t.records))))
      (below_from (length t.kinds) (nests t (suc (length t.kinds + length t.records))) (λ k l. nests_ranked (suc (length t.kinds + length t.records)) k (let s = ranks.kinds k l in omega (arith, s))))
      (and_from (all_below (length t.records) (record_nests t (suc (length t.kinds + length t.records)))) (all_below (length t.records) (rooted t (suc (length t.records))))
      (below_from (length t.records) (record_nests t (suc (length t.kinds + length t.records))) (λ r l. record_ranked (suc (length t.kinds + length t.records)) r (let s = (ranks.records r l).0 in omega (arith, s))))
      (below_from (length t.records) (rooted t (suc (length t.records))) (λ r l. rooted_ranked (suc (length t.records)) r (let s = (ranks.records r l).1 in omega (arith, s)))))
