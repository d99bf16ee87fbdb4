-- The register that is given up is one whose value isn't kept, where there is one.
use Rattle.std.proofs.Common.{◌≡◌, ℕ, zero, suc, ◌+◌, Bool, true, false, cond, List, [], ◌∷◌, Option, Some, None, refl, sym, ap, ◌∙◌, subst, arith}
use Rattle.block_runs.specs.Live.{has}
use Rattle.lir_core.specs.Spots.{get}
use Rattle.linear_scan.proofs.Candidates.{Candidate}
use Rattle.bottom_up.specs.declared.choosing.Found.{Found}
use Rattle.bottom_up.specs.Policy.{is_earlier, earlier, nearer, earliest, reg_of, victim}

module _ (keep : List ℕ) (mention : ℕ → Option ℕ) (all : List (Option ℕ)) where
  IsGood : Option Found → Type 0
  IsGood None = Unit {0}
  IsGood (Some f) = Candidate keep all f.reg

  good_nearer : (i : ℕ) (o : Option ℕ) (best : Option Found) → get all i ≡ o → IsGood best → IsGood (nearer keep mention i o best)
  unfolding IsGood
  good_nearer i None best e g = g
  good_nearer i (Some v) best e g = at_test (has keep v) refl best g
    where
      at_earlier : has keep v ≡ false → (c : Bool) (f : Found) → IsGood (Some f) → IsGood (cond c (Some (record { reg = i; mention = mention v })) (Some f))
      at_earlier t true f g = (v, e, t)
      at_earlier t false f g = g

      at_best : has keep v ≡ false → (best : Option Found) → IsGood best → IsGood (earlier i (mention v) best)
      at_best t None g = (v, e, t)
      at_best t (Some f) g = at_earlier t (is_earlier (mention v) f.mention) f g

      at_test : (b : Bool) → has keep v ≡ b → (best : Option Found) → IsGood best → IsGood (cond b best (earlier i (mention v) best))
      at_test true t best g = g
      at_test false t best g = at_best t best g

  good_earliest : (os : List (Option ℕ)) (i : ℕ) (best : Option Found) → ((q : ℕ) → get all (i + q) ≡ get os q) → IsGood best → IsGood (earliest keep mention i os best)
  good_earliest [] i best at g = g
  good_earliest (o ∷ os) i best at g =
      good_earliest os (suc i) (nearer keep mention i o best) (λ q. let e : suc i + q ≡ i + suc q = omega arith in ap (get all) e ∙ at (suc q))
      (good_nearer i o best (let e : i + 0 ≡ i = omega arith in ap (get all) (sym e) ∙ at 0) g)

  -- one was found
  Is : Option Found → Type 0
  Is None = ⊥
  Is (Some f) = Unit {0}

  earlier_is : (i : ℕ) (n : Option ℕ) (best : Option Found) → Is (earlier i n best)
  unfolding Is
  earlier_is i n None = tt
  earlier_is i n (Some f) = by (is_earlier n f.mention)
    where
      by : (b : Bool) → Is (cond b (Some (record { reg = i; mention = n })) (Some f))
      by true = tt
      by false = tt

  stays_found : (i : ℕ) (o : Option ℕ) (best : Option Found) → Is best → Is (nearer keep mention i o best)
  stays_found i None best h = h
  stays_found i (Some v) best h = by (has keep v)
    where
      by : (b : Bool) → Is (cond b best (earlier i (mention v) best))
      by true = h
      by false = earlier_is i (mention v) best

  keeps_found : (os : List (Option ℕ)) (i : ℕ) (best : Option Found) → Is best → Is (earliest keep mention i os best)
  keeps_found [] i best h = h
  keeps_found (o ∷ os) i best h = keeps_found os (suc i) (nearer keep mention i o best) (stays_found i o best h)

  finds : (os : List (Option ℕ)) (i : ℕ) (best : Option Found) (r : ℕ) → Candidate keep os r → Is (earliest keep mention i os best)
  finds [] i best r c = let e = c.1 in cc
  finds (o ∷ os) i best (suc r) c = finds os (suc i) (nearer keep mention i o best) r c
  finds (o ∷ os) i best zero c = keeps_found os (suc i) (nearer keep mention i o best) (subst (λ x. Is (nearer keep mention i x best)) (sym c.1) (by (has keep c.0) c.2))
    where
      by : (b : Bool) → b ≡ false → Is (cond b best (earlier i (mention c.0) best))
      by true e = cc
      by false e = earlier_is i (mention c.0) best

pub victim_is : (keep : List ℕ) (mention : ℕ → Option ℕ) (xs : List (Option ℕ)) → ((r : ℕ) × Candidate keep xs r) → Candidate keep xs (victim keep mention xs)
unfolding IsGood Is
victim_is keep mention xs m = by (earliest keep mention 0 xs None) (good_earliest keep mention xs xs 0 None (λ q. let e : 0 + q ≡ q = omega arith in ap (get xs) e) tt) (finds keep mention xs xs 0 None m.0 m.1)
  where
    by : (o : Option Found) → IsGood keep mention xs o → Is keep mention xs o → Candidate keep xs (reg_of o)
    by None g h = absurd h
    by (Some f) g h = g
