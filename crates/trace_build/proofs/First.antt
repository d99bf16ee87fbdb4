-- The node that is taken first.
use Rattle.std.proofs.Common.{◌≡◌, ℕ, ◌==◌, Bool, true, false, ◌&&◌, ◌||◌, cond, List, [], ◌∷◌, length, refl, sym, ap, ◌∙◌, arith, inl, inr, ◌⊎◌, Option, Some, None}
use Rattle.std.specs.Prelude.{fold, nat_lt, nat_le}
use Rattle.std.proofs.lemmas.Bool.{eqb-true, and_parts}
use Rattle.std.proofs.lemmas.Bool.Decides.{nat_tests}
use Rattle.block_runs.specs.Live.{has}
use Rattle.run_laws.specs.Layers.{places_from}
use Rattle.lir_core.specs.declared.flow.Node.{Node}
use Rattle.lir_core.specs.Flows.{node_at}
use Rattle.global_live.proofs.Lists.{has_head, has-filter}
use Rattle.global_live.proofs.Tables.{has_places}
use Rattle.trace_build.specs.Traces.{is_in, members, is_before, first_of, most_frequent, may_enter, unassigned}
use Rattle.trace_build.proofs.Sets.{in_range}

antisymmetric : (fa fb a b : ℕ) → (nat_lt fb fa || (fa == fb && nat_le a b)) ≡ true → (nat_lt fa fb || (fb == fa && nat_le b a)) ≡ true → a ≡ b
antisymmetric fa fb a b h g = grind (arith, nat_tests)

total : (fa fb a b : ℕ) → (nat_lt fb fa || (fa == fb && nat_le a b)) ≡ false → (nat_lt fa fb || (fb == fa && nat_le b a)) ≡ true
total fa fb a b h = grind (arith, nat_tests)

in_rest : (x r : ℕ) (xs : List ℕ) → has (x ∷ xs) r ≡ true → ◌⊎◌ (x ≡ r) (has xs r ≡ true)
in_rest x r xs h = by (x == r) refl h
  where
    by : (b : Bool) → (x == r) ≡ b → cond b true (has xs r) ≡ true → ◌⊎◌ (x ≡ r) (has xs r ≡ true)
    by true e h = inl (eqb-true x r e)
    by false e h = inr h

in_more : (x r : ℕ) (xs : List ℕ) → has xs r ≡ true → has (x ∷ xs) r ≡ true
in_more x r xs h = by (x == r)
  where
    by : (b : Bool) → cond b true (has xs r) ≡ true
    by true = refl
    by false = h

module _ (nodes : List Node) where
  -- where one of some nodes is taken before all, it is the one
  first_from : (xs : List ℕ) (b r : ℕ) → ◌⊎◌ (b ≡ r) (has xs r ≡ true) → is_before nodes r b ≡ true → ((m : ℕ) → has xs m ≡ true → is_before nodes r m ≡ true) → fold (first_of nodes) (Some b) xs ≡ Some r
  first_from [] b r (inl e) rb rest = ap Some e
  first_from [] b r (inr h) rb rest = cc
  first_from (x ∷ xs) b r at rb rest = by (is_before nodes b x) refl (first_from xs)
    where
      rx : is_before nodes r x ≡ true
      rx = rest x (has_head x xs)

      rest' : (m : ℕ) → has xs m ≡ true → is_before nodes r m ≡ true
      rest' m h = rest m (in_more x m xs h)

      kept : is_before nodes b x ≡ true → ◌⊎◌ (b ≡ r) (has (x ∷ xs) r ≡ true) → ◌⊎◌ (b ≡ r) (has xs r ≡ true)
      kept e (inl q) = inl q
      kept e (inr h) = into (in_rest x r xs h)
        where
          into : ◌⊎◌ (x ≡ r) (has xs r ≡ true) → ◌⊎◌ (b ≡ r) (has xs r ≡ true)
          into (inl q) = inl (antisymmetric (node_at nodes b).freq (node_at nodes r).freq b r (ap (is_before nodes b) (sym q) ∙ e) rb)
          into (inr h) = inr h

      taken : is_before nodes b x ≡ false → ◌⊎◌ (b ≡ r) (has (x ∷ xs) r ≡ true) → ◌⊎◌ (x ≡ r) (has xs r ≡ true)
      taken e (inl q) = let z : true ≡ false = sym rx ∙ ap (λ k. is_before nodes k x) (sym q) ∙ e in cc
      taken e (inr h) = in_rest x r xs h

      by : (t : Bool) → is_before nodes b x ≡ t → ((b r : ℕ) → ◌⊎◌ (b ≡ r) (has xs r ≡ true) → is_before nodes r b ≡ true → ((m : ℕ) → has xs m ≡ true → is_before nodes r m ≡ true) → fold (first_of nodes) (Some b) xs ≡ Some r) → fold (first_of nodes) (Some (cond t b x)) xs ≡ Some r
      by true e on = on b r (kept e at) rb rest'
      by false e on = on x r (taken e at) rx rest'

  pub most_frequent_is : (xs : List ℕ) (r : ℕ) → has xs r ≡ true → ((m : ℕ) → has xs m ≡ true → is_before nodes r m ≡ true) → most_frequent nodes xs ≡ Some r
  most_frequent_is [] r h rest = cc
  most_frequent_is (x ∷ xs) r h rest = first_from xs x r (in_rest x r xs h) (rest x (has_head x xs)) (λ m g. rest m (in_more x m xs g))

  -- it is one of the nodes
  one_from : (xs : List ℕ) (b r : ℕ) → fold (first_of nodes) (Some b) xs ≡ Some r → has (b ∷ xs) r ≡ true
  one_from [] b r e = let q : b ≡ r = cc in ap (λ k. has (k ∷ []) r) q ∙ has_head r []
  one_from (x ∷ xs) b r e = by (is_before nodes b x) e (one_from xs)
    where
      into : ◌⊎◌ (b ≡ r) (has xs r ≡ true) → has (b ∷ (x ∷ xs)) r ≡ true
      into (inl q) = ap (λ k. has (k ∷ (x ∷ xs)) r) q ∙ has_head r (x ∷ xs)
      into (inr h) = in_more b r (x ∷ xs) (in_more x r xs h)

      by : (t : Bool) → fold (first_of nodes) (Some (cond t b x)) xs ≡ Some r → ((b r : ℕ) → fold (first_of nodes) (Some b) xs ≡ Some r → has (b ∷ xs) r ≡ true) → has (b ∷ (x ∷ xs)) r ≡ true
      by true e on = into (in_rest b r xs (on b r e))
      by false e on = in_more b r (x ∷ xs) (on x r e)

  pub most_frequent_in : (xs : List ℕ) (r : ℕ) → most_frequent nodes xs ≡ Some r → has xs r ≡ true
  most_frequent_in [] r e = cc
  most_frequent_in (x ∷ xs) r e = one_from xs x r e

  -- there is one, unless there are no nodes
  some_from : (xs : List ℕ) (b : ℕ) → fold (first_of nodes) (Some b) xs ≡ None → ⊥
  some_from [] b e = cc
  some_from (x ∷ xs) b e = some_from xs (cond (is_before nodes b x) b x) e

  pub none_of : (xs : List ℕ) (m : ℕ) → most_frequent nodes xs ≡ None → has xs m ≡ false
  none_of [] m e = refl
  none_of (x ∷ xs) m e = absurd (some_from xs x e)

-- what may come next is unassigned, and one of the nodes
pub unassigned_in : (free : List Bool) (enter : Option ℕ) (ns : List ℕ) (m : ℕ) → has (unassigned free enter ns) m ≡ true → (is_in free m ≡ true) × (has ns m ≡ true)
unassigned_in free enter ns m h =
    let a = and_parts (has ns m) _ (sym (has-filter (λ n. is_in free n && may_enter enter n) ns m) ∙ h) in
    ((and_parts (is_in free m) _ a.1).0, a.0)

pub has-members : (s : List Bool) (m : ℕ) → has (members s) m ≡ is_in s m
has-members s m = has-filter (is_in s) (places_from 0 (length s)) m ∙ by (is_in s m) refl
  where
    and_false : (a : Bool) → (a && false) ≡ false
    and_false true = refl
    and_false false = refl

    by : (b : Bool) → is_in s m ≡ b → (has (places_from 0 (length s)) m && b) ≡ b
    by true e = let lt = in_range s m e in ap (λ a. a && true) (has_places 0 (length s) m (omega arith) (omega arith))
    by false e = and_false (has (places_from 0 (length s)) m)

pub no_members : (s : List Bool) → ((m : ℕ) → is_in s m ≡ false) → members s ≡ []
no_members s h = empty (members s) (λ m. has-members s m ∙ h m)
  where
    empty : (xs : List ℕ) → ((m : ℕ) → has xs m ≡ false) → xs ≡ []
    empty [] g = refl
    empty (x ∷ xs) g = let z : true ≡ false = sym (has_head x xs) ∙ g x in cc
