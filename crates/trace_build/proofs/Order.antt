-- Sorted ranks are the order in which nodes are taken.
use Rattle.std.proofs.Common.{◌≡◌, ◌≢◌, ℕ, zero, suc, ◌+◌, ◌-◌, ◌<◌, ◌≤◌, ◌==◌, Bool, true, false, ◌&&◌, ◌||◌, cond, List, length, get_or, refl, sym, ap, ◌∙◌, subst, arith}
use Rattle.std.specs.Prelude.{nat_lt, nat_le}
use Rattle.std.specs.List.Sorted.{IsPermutation}
use Rattle.std.proofs.lemmas.List.Sorted.{IsPermutation-sym, Contains-permutation}
use Rattle.std.proofs.lemmas.List.Elements.{Contains-get_or}
use Rattle.std.proofs.lemmas.List.{get_or_default}
use Rattle.std.proofs.lemmas.Bool.{eqb-true, eqb-false, eq-eqb, ltb-false, lt-ltb, le-leb, and_from}
use Rattle.std.proofs.lemmas.Bool.Decides.{nat_tests}
use Rattle.std.specs.Ordering.{is_lt, nat_cmp, ordering_then}
use Rattle.std.specs.declared.cmp.Ordering.TheVariants.{Less, Equal, Greater}
use Rattle.lir_core.specs.declared.flow.Node.{Node}
use Rattle.trace_build.specs.declared.ranks.Rank.{Rank}
use Rattle.trace_build.specs.Ranks.{no_rank, rank_at, IsRank, AreRanks, AreRanked}
use Rattle.trace_build.specs.Traces.{is_before}

-- a is not behind b
abbrev pub comes_first : Rank → Rank → Bool
comes_first a b = nat_lt a.rarity b.rarity || (a.rarity == b.rarity && nat_le a.node b.node)

on : (r s t a b c : ℕ) → (nat_lt r s || (r == s && nat_le a b)) ≡ true → (nat_lt s t || (s == t && nat_le b c)) ≡ true → (nat_lt r t || (r == t && nat_le a c)) ≡ true
on r s t a b c h g = grind (arith, nat_tests)

self : (r a : ℕ) → (nat_lt r r || (r == r && nat_le a a)) ≡ true
self r a = grind (arith, nat_tests)

-- the rarer node comes later
by_frequency : (most r s fa fb a b : ℕ) → r + fa ≡ most → s + fb ≡ most → (nat_lt r s || (r == s && nat_le a b)) ≡ true → (nat_lt fb fa || (fa == fb && nat_le a b)) ≡ true
by_frequency most r s fa fb a b e g h = grind (arith, nat_tests)

-- what isn't below comes first
pub from_order : (r s a b : ℕ) → is_lt (ordering_then (nat_cmp s r) (nat_cmp b a)) ≡ false → (nat_lt r s || (r == s && nat_le a b)) ≡ true
from_order r s a b h = by (nat_lt s r) refl (s == r) refl (nat_lt b a) refl (b == a) h
  where
    or_true : (x y : Bool) → y ≡ true → (x || y) ≡ true
    or_true true y e = refl
    or_true false y e = e

    by : (x : Bool) → nat_lt s r ≡ x → (y : Bool) → (s == r) ≡ y → (u : Bool) → nat_lt b a ≡ u → (v : Bool) → is_lt (ordering_then (cond x Less (cond y Equal Greater)) (cond u Less (cond v Equal Greater))) ≡ false → (nat_lt r s || (r == s && nat_le a b)) ≡ true
    by true p y q u w v h = cc
    by false p true q true w v h = cc
    by false p true q false w v h =
        let e : s ≡ r = eqb-true s r q in
        let le : a ≤ b = ltb-false b a w in
        or_true (nat_lt r s) (r == s && nat_le a b) (and_from (r == s) (nat_le a b) (eq-eqb r s (sym e)) (le-leb a b le))
    by false p false q u w v h =
        let le : r ≤ s = ltb-false s r p in
        let ne = eqb-false s r q in
        let ne' : s ≢ r = ne in
        let lt : r < s = omega arith in
        ap (λ x. x || (r == s && nat_le a b)) (lt-ltb r s lt)

module _ (nodes : List Node) (ranks sorted : List Rank) (are : AreRanks nodes ranks) (same : IsPermutation ranks sorted) (next : (k : ℕ) → k + 1 < length sorted → comes_first (rank_at sorted k) (rank_at sorted (k + 1)) ≡ true) where
  far : (d i : ℕ) → i + d < length sorted → comes_first (rank_at sorted i) (rank_at sorted (i + d)) ≡ true
  far zero i lt = subst (λ j. comes_first (rank_at sorted i) (rank_at sorted j) ≡ true) (omega arith) (self (rank_at sorted i).rarity (rank_at sorted i).node)
  far (suc d) i lt =
      let a = far d i (omega arith) in
      let b = next (i + d) (omega arith) in
      let j : (i + d) + 1 ≡ i + suc d = omega arith in
      subst (λ k. comes_first (rank_at sorted i) (rank_at sorted k) ≡ true) j (on _ (rank_at sorted (i + d)).rarity _ _ (rank_at sorted (i + d)).node _ a b)

  is_rank : (i : ℕ) → i < length sorted → IsRank nodes (rank_at sorted i)
  is_rank i lt =
      let c = Contains-permutation sorted ranks (rank_at sorted i) (IsPermutation-sym ranks sorted same) (Contains-get_or sorted i no_rank lt) in
      let e : rank_at ranks c.0 ≡ rank_at sorted i = default ranks c.0 (rank_at sorted i) c.1 ∙ c.2 in
      let lt' : c.0 < length nodes = let l = are.each in omega (arith, l, c.1) in
      subst (IsRank nodes) e (are.rank c.0 lt').0
    where
      default : (xs : List Rank) (k : ℕ) (d : Rank) → k < length xs → get_or xs k no_rank ≡ get_or xs k d
      default xs k d lt = get_or_default xs k no_rank d lt

  pub are_ranked : AreRanked nodes sorted
  are_ranked = record {
    there = λ i lt. (is_rank i lt).there;
    whole = λ n lt. whole n lt;
    ordered = λ i j le lt. ordered i j le lt;
  }
    where
      whole : (n : ℕ) → n < length nodes → (i : ℕ) × (i < length sorted) × ((rank_at sorted i).node ≡ n)
      whole n lt =
          let lt' : n < length ranks = let l = are.each in omega (arith, l) in
          let c = Contains-permutation ranks sorted (rank_at ranks n) same (Contains-get_or ranks n no_rank lt') in
          (c.0, c.1, ap (λ (r : Rank). r.node) (get_or_default sorted c.0 no_rank (rank_at ranks n) c.1 ∙ c.2) ∙ (are.rank n lt).1)

      ordered : (i j : ℕ) → i ≤ j → j < length sorted → is_before nodes (rank_at sorted i).node (rank_at sorted j).node ≡ true
      ordered i j le lt =
          let d : i + (j - i) ≡ j = omega arith in
          let a = far (j - i) i (omega (arith, d)) in
          let b : comes_first (rank_at sorted i) (rank_at sorted j) ≡ true = subst (λ k. comes_first (rank_at sorted i) (rank_at sorted k) ≡ true) d a in
          by_frequency 18446744073709551615 _ _ _ _ _ _ (is_rank i (omega arith)).rarity (is_rank j lt).rarity b
