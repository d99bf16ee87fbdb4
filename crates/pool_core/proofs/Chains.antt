-- Chains of children: what a number set elsewhere leaves, and what stands where in the list.
use Rattle.std.proofs.Common.{◌≡◌, ℕ, zero, suc, ◌+◌, ◌<◌, ◌≤◌, ◌≢◌, List, [], ◌∷◌, length, get_or, set, drop, replicate, Bool, eq-eqb, ne_eqb, sym, refl, ap, ◌∙◌, subst, arith, length-set, get_or-set_other, get_or-set_same}
use Rattle.std.proofs.lemmas.List.{get_or-replicate, length-replicate, drop_all}
use Rattle.std.proofs.Math.Seq.{drop-cons}
use Rattle.std.specs.Prelude.{Option, Some, None, slice_get}
use mathlib.Core.Logic.{dite}
use native.Mathlib.Decide.{ℕ_discrete, dec_lt}
use mathlib.Core.Option.{some, some-injective}
use lib.ListN.{get_elem?}
use Rattle.pool_core.specs.Sums.{times}
use Rattle.pool_core.specs.Tree.{is_child, put_if, picked, children, IsTree}
use Rattle.pool_core.specs.Chains.{Chained, IsIndex, IsIndexFrom}
use Rattle.pool_core.proofs.Sums.{hit_same, at_index, get_or_past}
use Rattle.pool_core.proofs.Trees.{picked_below}

-- a number set at a place that the chain doesn't pass
chained_set : (next : List (Option ℕ)) (i : ℕ) (v : Option ℕ) (o : Option ℕ) (xs : List ℕ)
    → times i xs ≡ 0 → Chained next o xs → Chained (set next i v) o xs
chained_set next i v None [] out chain = tt
chained_set next i v (Some c) (x ∷ xs) out chain =
    let other : c ≢ i = (λ e. absurd (omega (arith, hit_same i x (sym e ∙ chain.0)))) in (
      chain.0,
      subst (λ (o : Option ℕ). Chained (set next i v) o xs) (sym (get_or-set_other next i c v None other))
          (chained_set next i v (get_or next c None) xs (omega arith) chain.1),
    )
chained_set next i v None (x ∷ xs) out chain = absurd chain
chained_set next i v (Some c) [] out chain = absurd chain

module _ (P first next : List (Option ℕ)) (i : ℕ) (lt : i < length P) where
  here : (t : ℕ) (o : Option ℕ) → get_or P i None ≡ o → picked (is_child t) i (drop i P) ≡ put_if (is_child t o) i (picked (is_child t) (i + 1) (drop (i + 1) P))
  here t o at = let n : i + 1 ≡ suc i = omega arith in
      ap (picked (is_child t) i) (drop-cons P i None lt) ∙ (ap (λ (q : Option ℕ). put_if (is_child t q) i (picked (is_child t) (suc i) (drop (suc i) P))) at
      ∙ ap (λ k. put_if (is_child t o) i (picked (is_child t) k (drop k P))) (sym n))

  -- a trace without a parent is nobody's child
  pub no_parent : get_or P i None ≡ None → IsIndexFrom (i + 1) P first next → IsIndexFrom i P first next
  no_parent at later = record {
    firsts = later.firsts;
    nexts = later.nexts;
    chains = λ t. subst (Chained next (get_or first t None)) (sym (here t None at)) (later.chains t);
  }

  module _ (p : ℕ) where
    abbrev first' : List (Option ℕ)
    first' = set first p (Some i)

    abbrev next' : List (Option ℕ)
    next' = set next i (get_or first p None)

    abbrev rest : ℕ → List ℕ
    rest t = picked (is_child t) (i + 1) (drop (i + 1) P)

    module _ (tree : IsTree P) (at : get_or P i None ≡ Some p) (later : IsIndexFrom (i + 1) P first next) where
      kept : (t : ℕ) → Chained next' (get_or first t None) (rest t)
      kept t = chained_set next i (get_or first p None) (get_or first t None) (rest t) (picked_below (is_child t) (drop (i + 1) P) (i + 1) i (omega arith)) (later.chains t)

      p_in : p < length first
      p_in = let at' : get_elem? P i ≡ some (Some p) = at_index P i None lt ∙ ap some at in omega (arith, tree i p at', later.firsts)

      mine : (t : ℕ) → t ≡ p → Chained next' (get_or first' t None) (put_if (is_child t (Some p)) i (rest t))
      mine t e =
          let starts : get_or first' t None ≡ Some i = ap (λ k. get_or first' k None) e ∙ get_or-set_same first p (Some i) None p_in in
          let goes_on : get_or next' i None ≡ get_or first p None = get_or-set_same next i (get_or first p None) None (omega (arith, later.nexts)) in
          subst (λ (b : Bool). Chained next' (get_or first' t None) (put_if b i (rest t))) (sym (eq-eqb p t (sym e)))
          (subst (λ (o : Option ℕ). Chained next' o (i ∷ rest t)) (sym starts)
          (refl, subst (λ (o : Option ℕ). Chained next' o (rest t)) (sym (goes_on ∙ ap (λ k. get_or first k None) (sym e))) (kept t)))

      other : (t : ℕ) → t ≢ p → Chained next' (get_or first' t None) (put_if (is_child t (Some p)) i (rest t))
      other t n =
          subst (λ (b : Bool). Chained next' (get_or first' t None) (put_if b i (rest t))) (sym (ne_eqb p t (λ e. n (sym e))))
          (subst (λ (o : Option ℕ). Chained next' o (rest t)) (sym (get_or-set_other first p t (Some i) None n)) (kept t))

  -- a trace goes before its parent's other children
  pub put_before : (p : ℕ) → IsTree P → get_or P i None ≡ Some p → IsIndexFrom (i + 1) P first next
      → IsIndexFrom i P (set first p (Some i)) (set next i (get_or first p None))
  put_before p tree at later = record {
    firsts = length-set first p (Some i) ∙ later.firsts;
    nexts = length-set next i (get_or first p None) ∙ later.nexts;
    chains = λ t. subst (Chained (next' p) (get_or (first' p) t None)) (sym (here t (Some p) at)) (dite (ℕ_discrete t p) (mine p tree at later t) (other p tree at later t));
  }

abbrev nowhere : Option ℕ
nowhere = None

-- no trace is entered yet
pub none_yet : (P : List (Option ℕ)) → IsIndexFrom (length P) P (replicate (length P) None) (replicate (length P) None)
none_yet P = record {
  firsts = length-replicate {A = Option ℕ} (length P) None;
  nexts = length-replicate {A = Option ℕ} (length P) None;
  chains = λ t. let past : drop (length P) P ≡ [] = drop_all (length P) P (omega arith) in
      subst (λ (ds : List (Option ℕ)). Chained (replicate (length P) None) (get_or (replicate (length P) None) t None) (picked (is_child t) (length P) ds)) (sym past)
      (subst (λ (o : Option ℕ). Chained (replicate (length P) None) o []) (sym (empty t)) tt);
}
  where
    empty : (t : ℕ) → get_or (replicate (length P) nowhere) t nowhere ≡ nowhere
    empty t = dite (dec_lt t (length P)) (λ lt. get_or-replicate {A = Option ℕ} (length P) t None None lt) (λ ge. get_or_past {A = Option ℕ} (replicate (length P) None) t None (omega (arith, length-replicate {A = Option ℕ} (length P) None)))

pub started : (P : List (Option ℕ)) (n : ℕ) (first next : List (Option ℕ)) → n ≡ length P → first ≡ replicate n None → next ≡ replicate n None → IsIndexFrom n P first next
started P n first next e f g =
    subst (λ (k : ℕ). IsIndexFrom k P first next) (sym e)
    (subst (λ (l : List (Option ℕ)). IsIndexFrom (length P) P l next) (sym (f ∙ ap (λ k. replicate k nowhere) e))
    (subst (λ (l : List (Option ℕ)). IsIndexFrom (length P) P (replicate (length P) None) l) (sym (g ∙ ap (λ k. replicate k nowhere) e)) (none_yet P)))

-- and all are
pub all_entered : (P first next : List (Option ℕ)) → IsTree P → length P ≤ 262144 → IsIndexFrom 0 P first next → IsIndex P first next
unfolding children
all_entered P first next tree small from = record { tree = tree; small = small; firsts = from.firsts; nexts = from.nexts; chains = from.chains }

pub chain_head : (next : List (Option ℕ)) (o : Option ℕ) (xs : List ℕ) → Chained next o xs → o ≡ slice_get xs 0
chain_head next None [] chain = refl
chain_head next (Some c) (x ∷ xs) chain = ap (λ (k : ℕ). Some k) chain.0
chain_head next None (x ∷ xs) chain = absurd chain
chain_head next (Some c) [] chain = absurd chain

pub chain_next : (next : List (Option ℕ)) (o : Option ℕ) (xs : List ℕ) (k c : ℕ) → Chained next o xs → slice_get xs k ≡ Some c → get_or next c None ≡ slice_get xs (k + 1)
chain_next next None [] k c chain at = cc
chain_next next (Some d) (x ∷ xs) zero c chain at =
    let same : d ≡ c = chain.0 ∙ cc in ap (λ j. get_or next j None) (sym same) ∙ chain_head next (get_or next d None) xs chain.1
chain_next next (Some d) (x ∷ xs) (suc k) c chain at = let e : suc k + 1 ≡ suc (k + 1) = omega arith in
    chain_next next (get_or next d None) xs k c chain.1 at ∙ ap (slice_get (x ∷ xs)) (sym e)
chain_next next None (x ∷ xs) k c chain at = absurd chain
chain_next next (Some d) [] k c chain at = absurd chain

pub next_found : (P first next : List (Option ℕ)) → IsIndex P first next → (Q : List (Option ℕ)) → P ≡ Q → (c : ℕ) (o : Option ℕ) → c < length Q → o ≡ get_or next c o
    → (t k : ℕ) → slice_get (children Q t) k ≡ Some c → o ≡ slice_get (children Q t) (k + 1)
next_found P first next index Q same c o within read t k at =
    let long : length P ≡ length Q = ap length same in
    let there : c < length next = omega (arith, index.nexts) in
    let by_default : get_or next c o ≡ get_or next c None = some-injective (get_or next c o) (get_or next c None) (sym (at_index next c o there) ∙ at_index next c None there) in
    read ∙ (by_default ∙ (chain_next next (get_or first t None) (children P t) k c (index.chains t) (ap (λ l. slice_get (children l t) k) same ∙ at) ∙ ap (λ l. slice_get (children l t) (k + 1)) same))
