-- How the loop over ranks cuts.
use Rattle.std.proofs.Common.{◌≡◌, ℕ, zero, suc, ◌+◌, ◌-◌, ◌<◌, ◌≤◌, Bool, true, false, cond, List, [], ◌∷◌, ◌++◌, length, replicate, refl, sym, ap, ◌∙◌, subst, arith, inl, inr, ◌⊎◌, Some, append_assoc, length-append}
use Rattle.std.proofs.lemmas.List.{append-nil, length-replicate}
use Rattle.std.proofs.lemmas.List.Sums.{count_by-le-length}
use Rattle.std.proofs.lemmas.Bool.{cases_eq, cases_lt}
use Rattle.block_runs.specs.Live.{has}
use Rattle.lir_core.specs.declared.flow.Node.{Node}
use Rattle.trace_build.specs.declared.builder.Builder.{Builder}
use Rattle.trace_build.specs.declared.ranks.Rank.{Rank}
use Rattle.trace_build.specs.Ranks.{rank_at, AreRanked}
use Rattle.trace_build.specs.Traces.{is_in, members, without, without_all, size, is_before, most_frequent, trace_from, if_any, traces_from, traces_of}
use Rattle.trace_build.specs.Cuts.{IsCut, begun, left_free}
use Rattle.trace_build.proofs.Sets.{in_range, length-without_all, size-without, size_falls, stays_out_of_all, out_of_all}
use Rattle.trace_build.proofs.First.{most_frequent_is, has-members, no_members}
use Rattle.trace_build.proofs.Partition.{seed_in}

module _ (builder : Builder) (nodes : List Node) (ranks : List Rank) where
  pub cut_starts : IsCut builder nodes ranks 0 (length nodes) (replicate (length nodes) true) []
  cut_starts = record {
    each = length-replicate (length nodes) true;
    made = refl;
    enough = let a = count_by-le-length (λ b. b) (replicate (length nodes) true) in let b = length-replicate (length nodes) true in omega (arith, a, b);
    past = λ j lt. absurd (omega arith);
  }

  -- a node that is assigned already
  pub cut_passes : (i k : ℕ) (free : List Bool) (ts : List (List ℕ)) → IsCut builder nodes ranks i k free ts → is_in free (rank_at ranks i).node ≡ false → IsCut builder nodes ranks (i + 1) k free ts
  cut_passes i k free ts c out = record { each = c.each; made = c.made; enough = c.enough; past = λ j lt. by j (cases_eq j i) lt }
    where
      by : (j : ℕ) → ◌⊎◌ (j ≡ i) (j ≡ i → ⊥) → j < i + 1 → is_in free (rank_at ranks j).node ≡ false
      by j (inl e) lt = ap (λ x. is_in free (rank_at ranks x).node) e ∙ out
      by j (inr d) lt = c.past j (omega arith)

  -- the first unassigned node is the most frequent of all that are unassigned
  first_is : (i k : ℕ) (free : List Bool) (ts : List (List ℕ)) → IsCut builder nodes ranks i k free ts → AreRanked nodes ranks → i < length ranks → is_in free (rank_at ranks i).node ≡ true → most_frequent nodes (members free) ≡ Some (rank_at ranks i).node
  first_is i k free ts c r lt h = most_frequent_is nodes (members free) (rank_at ranks i).node (has-members free (rank_at ranks i).node ∙ h) (λ m g. before m (sym (has-members free m) ∙ g))
    where
      before : (m : ℕ) → is_in free m ≡ true → is_before nodes (rank_at ranks i).node m ≡ true
      before m g = by (cases_lt at.0 i)
        where
          at : (j : ℕ) × (j < length ranks) × ((rank_at ranks j).node ≡ m)
          at = r.whole m (let a = in_range free m g in let e = c.each in omega (arith, a, e))

          by : ◌⊎◌ (at.0 < i) (i ≤ at.0) → is_before nodes (rank_at ranks i).node m ≡ true
          by (inl past) = let z : true ≡ false = sym g ∙ ap (is_in free) (sym at.2) ∙ c.past at.0 past in cc
          by (inr le) = ap (is_before nodes (rank_at ranks i).node) (sym at.2) ∙ r.ordered i at.0 le at.1

  -- a trace more
  pub cut_next : (i k : ℕ) (free : List Bool) (ts : List (List ℕ)) (t : List ℕ) (free' : List Bool) → IsCut builder nodes ranks i k free ts → AreRanked nodes ranks → i < length ranks → is_in free (rank_at ranks i).node ≡ true → t ≡ trace_from builder nodes (without free (rank_at ranks i).node) (rank_at ranks i).node → free' ≡ without_all free t → IsCut builder nodes ranks (i + 1) (k - 1) free' (ts ++ t ∷ [])
  cut_next i zero free ts t free' c r lt h t_is f_is =
      let a = size-without free (rank_at ranks i).node h in
      let b = c.enough in
      absurd (omega (arith, a, b))
  cut_next i (suc k) free ts t free' c r lt h t_is f_is = record {
    each = ap length f_is ∙ length-without_all free t ∙ c.each;
    made = append_assoc ts (t ∷ []) (traces_from builder nodes (suc k - 1) free') ∙ ap (λ xs. ts ++ xs) more ∙ c.made;
    enough = let a = size_falls free t seed seed_there h in let b = c.enough in let e = ap size f_is in omega (arith, a, b, e);
    past = λ j lt'. ap (λ s. is_in s (rank_at ranks j).node) f_is ∙ by j (cases_eq j i) lt';
  }
    where
      seed : ℕ
      seed = (rank_at ranks i).node

      seed_there : has t (rank_at ranks i).node ≡ true
      seed_there = ap (λ xs. has xs (rank_at ranks i).node) t_is ∙ seed_in builder nodes free (rank_at ranks i).node

      more : t ∷ traces_from builder nodes (suc k - 1) free' ≡ traces_from builder nodes (suc k) free
      more =
          let first = first_is i (suc k) free ts c r lt h in
          let one_less : suc k - 1 ≡ k = omega arith in
          let tail : traces_from builder nodes (suc k - 1) free' ≡ traces_from builder nodes k (without_all free t) = ap (λ j. traces_from builder nodes j free') one_less ∙ ap (λ s. traces_from builder nodes k s) f_is in
          ap (λ xs. t ∷ xs) tail
          ∙ ap (λ x. x ∷ traces_from builder nodes k (without_all free x)) t_is
          ∙ ap (λ o. if_any o (λ s. trace_from builder nodes (without free s) s ∷ traces_from builder nodes k (without_all free (trace_from builder nodes (without free s) s)))) (sym first)

      by : (j : ℕ) → ◌⊎◌ (j ≡ i) (j ≡ i → ⊥) → j < i + 1 → is_in (without_all free t) (rank_at ranks j).node ≡ false
      by j (inl e) lt' = ap (λ x. is_in (without_all free t) (rank_at ranks x).node) e ∙ out_of_all free t (rank_at ranks i).node seed_there
      by j (inr d) lt' = stays_out_of_all free t (rank_at ranks j).node (c.past j (omega arith))

  pub cut_on : (i : ℕ) (free : List Bool) (ts : List (List ℕ)) (t : List ℕ) (free' : List Bool) (ts' : List (List ℕ)) → IsCut builder nodes ranks i (length nodes - length ts) free ts → AreRanked nodes ranks → i < length ranks → is_in free (rank_at ranks i).node ≡ true → t ≡ trace_from builder nodes (without free (rank_at ranks i).node) (rank_at ranks i).node → free' ≡ without_all free t → ts' ≡ ts ++ t ∷ [] → IsCut builder nodes ranks (i + 1) (length nodes - length ts') free' ts'
  cut_on i free ts t free' ts' c r lt h t_is f_is ts_is =
      let l : length ts' ≡ length ts + 1 = ap length ts_is ∙ length-append ts (t ∷ []) in
      let k : (length nodes - length ts) - 1 ≡ length nodes - length ts' = omega (arith, l) in
      subst (λ xs. IsCut builder nodes ranks (i + 1) (length nodes - length ts') free' xs) (sym ts_is)
      (subst (λ j. IsCut builder nodes ranks (i + 1) j free' (ts ++ t ∷ [])) k (cut_next i (length nodes - length ts) free ts t free' c r lt h t_is f_is))

  pub cut_step : (i seed : ℕ) (free : List Bool) (ts : List (List ℕ)) (free' : List Bool) (ts' : List (List ℕ)) → IsCut builder nodes ranks i (length nodes - length ts) free ts → AreRanked nodes ranks → i < length ranks → seed ≡ (rank_at ranks i).node → free' ≡ left_free builder nodes seed free → ts' ≡ begun builder nodes seed free ts → IsCut builder nodes ranks (i + 1) (length nodes - length ts') free' ts'
  cut_step i seed free ts free' ts' c r lt seed_is f_is ts_is = by (is_in free (rank_at ranks i).node) refl (f_is ∙ ap (λ s. left_free builder nodes s free) seed_is) (ts_is ∙ ap (λ s. begun builder nodes s free ts) seed_is)
    where
      by : (b : Bool) → is_in free (rank_at ranks i).node ≡ b → free' ≡ cond b (without_all free (trace_from builder nodes (without free (rank_at ranks i).node) (rank_at ranks i).node)) free → ts' ≡ cond b (ts ++ trace_from builder nodes (without free (rank_at ranks i).node) (rank_at ranks i).node ∷ []) ts → IsCut builder nodes ranks (i + 1) (length nodes - length ts') free' ts'
      by true h f e = cut_on i free ts (trace_from builder nodes (without free (rank_at ranks i).node) (rank_at ranks i).node) free' ts' c r lt h refl f e
      by false h f e =
          subst (λ xs. IsCut builder nodes ranks (i + 1) (length nodes - length xs) free' xs) (sym e)
          (subst (λ s. IsCut builder nodes ranks (i + 1) (length nodes - length ts) s ts) (sym f) (cut_passes i (length nodes - length ts) free ts c h))

  -- behind the last rank
  pub cut_done : (i k : ℕ) (free : List Bool) (ts : List (List ℕ)) → IsCut builder nodes ranks i k free ts → AreRanked nodes ranks → length ranks ≤ i → ts ≡ traces_of builder nodes
  cut_done i k free ts c r le = sym (append-nil ts) ∙ ap (λ xs. ts ++ xs) (sym (none k)) ∙ c.made
    where
      out : (m : ℕ) → is_in free m ≡ false
      out m = by (is_in free m) refl
        where
          by : (b : Bool) → is_in free m ≡ b → is_in free m ≡ false
          by false e = e
          by true e =
              let a = in_range free m e in
              let s = c.each in
              let at = r.whole m (omega (arith, a, s)) in
              let p = c.past at.0 (omega (arith, at.1)) in
              ap (is_in free) (sym at.2) ∙ p

      none : (k : ℕ) → traces_from builder nodes k free ≡ []
      none zero = refl
      none (suc k) = ap (λ ms. if_any (most_frequent nodes ms) (λ s. trace_from builder nodes (without free s) s ∷ traces_from builder nodes k (without_all free (trace_from builder nodes (without free s) s)))) (no_members free out)
