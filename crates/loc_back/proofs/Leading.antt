-- Lines in front of lines that lead to a node's end.
use Rattle.std.proofs.Common.{◌≡◌, ◌≢◌, ℕ, zero, suc, ◌+◌, ◌<◌, Bool, true, false, cond, List, [], ◌∷◌, drop, Option, Some, None, refl, sym, ap, ◌∙◌, arith, ◌⊎◌, inl, inr}
use Rattle.std.specs.Prelude.{◌==◌, slice_get, option_to_list}
use Rattle.block_runs.specs.Blocks.{Operation}
use Rattle.block_runs.specs.Live.{has}
use Rattle.lir_core.specs.declared.places.Places.{Places}
use Rattle.lir_core.specs.declared.places.Line.{Line}
use Rattle.lir_core.specs.declared.places.Line.TheVariants.{Store, Load}
use Rattle.lir_core.specs.Spots.{Spot, reg, home, out, target, saved, same, get}
use Rattle.lir_core.specs.Lines.{Room}
use Rattle.lir_core.specs.Walks.{Walker, Below, after}
use Rattle.loc_state.proofs.Numbers.{numbers_same, numbers_apart, test_apart, or_rest}
use Rattle.loc_back.specs.declared.part.Loading.{Loading}
use Rattle.loc_back.specs.Steps.{storing, loading}
use Rattle.loc_back.specs.Served.{Section, lives, lives_from, wanted, Leads, Serves, or_first, loaded}

-- what a wanted home says
pub home_wanted : (b c : Bool) (v u : ℕ) → cond b (cond c (Some v) None) None ≡ Some u → (b ≡ true) × (c ≡ true) × (v ≡ u)
home_wanted true true v u e = (refl, refl, cc)
home_wanted true false v u e = cc
home_wanted false c v u e = cc

pub is_or_not : (o : Option ℕ) (v : ℕ) → (o ≡ Some v) ⊎ (o ≢ Some v)
is_or_not None v = inr (λ q. cc)
is_or_not (Some d) v = by (d == v) refl
  where
    by : (b : Bool) → (d == v) ≡ b → (Some d ≡ Some v) ⊎ (Some d ≢ Some v)
    by true e = inl (ap Some (numbers_same d v e))
    by false e = inr (λ q. numbers_apart d v e (let z : d ≡ v = cc in z))

---- What lives before an operation

pub drop_is : {A : Type 0} (xs : List A) (n : ℕ) (x : A) → slice_get xs n ≡ Some x → drop n xs ≡ x ∷ drop (n + 1) xs
drop_is [] n x e = cc
drop_is (y ∷ xs) zero x e = let q : y ≡ x = cc in ap (λ z. z ∷ xs) q
drop_is (y ∷ xs) (suc n) x e = let z : suc n + 1 ≡ suc (n + 1) = omega arith in drop_is xs n x e ∙ ap (λ k. x ∷ drop k (y ∷ xs)) (sym z)

pub lives_at : (b : Section) (n : ℕ) (op : Operation) → slice_get b.ops n ≡ Some op → (v : ℕ) → lives_from b n v ≡ cond (has op.uses v) true (cond (has (option_to_list op.def) v) false (lives_from b (n + 1) v))
lives_at b n op e v = ap (λ ops. lives ops b.after v) (drop_is b.ops n op e)

not_def : (o : Option ℕ) (v : ℕ) → o ≢ Some v → has (option_to_list o) v ≡ false
not_def None v ne = refl
not_def (Some d) v ne = ap (λ b. cond b true false) (test_apart d v (λ q. ne (ap Some q)))

-- what lives behind an operation that doesn't make it lives before it, and so does what it uses
pub lives_before : (b : Section) (n : ℕ) (op : Operation) → slice_get b.ops n ≡ Some op → (v : ℕ) → op.def ≢ Some v → lives_from b (n + 1) v ≡ true → lives_from b n v ≡ true
lives_before b n op e v ne h = lives_at b n op e v ∙ or_rest (has op.uses v) (cond (has (option_to_list op.def) v) false (lives_from b (n + 1) v)) (ap (λ c. cond c false (lives_from b (n + 1) v)) (not_def op.def v ne) ∙ h)

pub used_lives : (b : Section) (n : ℕ) (op : Operation) → slice_get b.ops n ≡ Some op → (v : ℕ) → has op.uses v ≡ true → lives_from b n v ≡ true
used_lives b n op e v h = lives_at b n op e v ∙ ap (λ c. cond c true (cond (has (option_to_list op.def) v) false (lives_from b (n + 1) v))) h

---- Loads

-- loads whose values are homed
abbrev pub AreHomed : Room → (Spot → Option ℕ) → List Loading → Type 0
AreHomed room view [] = Unit {0}
AreHomed room view (l ∷ ls) = (l.reg < room.regs) × (l.value < room.values) × (view (home l.value) ≡ Some l.value) × AreHomed room view ls

homed_on : (room : Room) (view : Spot → Option ℕ) (r v : ℕ) (ls : List Loading) → AreHomed room view ls → AreHomed room (λ p. view (cond (same p (reg r)) (home v) p)) ls
homed_on room view r v [] h = tt
homed_on room view r v (l ∷ ls) h = (h.0, h.1, h.2, homed_on room view r v ls h.3)

-- where a register's value is taken from before loads
abbrev pub taken_from : Option ℕ → (Spot → Option ℕ) → ℕ → Option ℕ
taken_from None view r = view (reg r)
taken_from (Some v) view r = view (home v)

module _ (room : Room) (b : Section) (end : Places) (lines : List Line) (named : List ℕ) (n : ℕ) (marks alive : ℕ → Bool) (now : List (Option ℕ)) (serves : Serves room b end lines named n (wanted marks alive now)) where
  pub loads_lead : (ls : List Loading) (w : Walker) → w.next ≡ n → w.named ≡ named → AreHomed room w.view ls → ((r v : ℕ) → get now r ≡ Some v → taken_from (loaded ls r) w.view r ≡ Some v) → ((v : ℕ) → alive v ≡ true → marks v ≡ true → w.view (home v) ≡ Some v) → Leads room b end (loading ls lines) w
  loads_lead [] w x y fit regs homes = serves w x y there
    where
      there : Below (wanted marks alive now) w.view
      there (reg r) u e = regs r u e
      there (home v) u e = let m = home_wanted (alive v) (marks v) v u e in homes v m.0 m.1 ∙ ap Some m.2
      there (out s) u e = cc
      there target u e = cc
      there saved u e = cc
  loads_lead (l ∷ ls) w x y fit regs homes =
      let rest = loads_lead ls (after b.ops (Load l.reg l.value) w) x y (homed_on room w.view l.reg l.value ls fit.3) (λ r v e. step (loaded ls r) r v (regs r v e)) homes in
      (((fit.0, fit.1, fit.2), rest.0), rest.1)
    where
      at_test : (c : Bool) (r v : ℕ) → taken_from (cond c (Some l.value) None) w.view r ≡ Some v → w.view (cond c (home l.value) (reg r)) ≡ Some v
      at_test true r v e = e
      at_test false r v e = e

      step : (o : Option ℕ) (r v : ℕ) → taken_from (or_first o (cond (r == l.reg) (Some l.value) None)) w.view r ≡ Some v → taken_from o (after b.ops (Load l.reg l.value) w).view r ≡ Some v
      step None r v e = at_test (r == l.reg) r v e
      step (Some u) r v e = e

---- The store of a definition

abbrev pub kept_view : Bool → ℕ → ℕ → (Spot → Option ℕ) → Spot → Option ℕ
kept_view true r d view p = view (cond (same p (home d)) (reg r) p)
kept_view false r d view p = view p

pub kept_reg : (m : Bool) (r d : ℕ) (view : Spot → Option ℕ) (s : ℕ) → kept_view m r d view (reg s) ≡ view (reg s)
kept_reg true r d view s = refl
kept_reg false r d view s = refl

-- where the definition is stored if it is marked, all marked homes are there behind it
pub kept_homes : (r d : ℕ) (view : Spot → Option ℕ) (marks alive : ℕ → Bool) → view (reg r) ≡ Some d → ((v : ℕ) → alive v ≡ true → marks v ≡ true → d ≢ v → view (home v) ≡ Some v) → (m : Bool) → marks d ≡ m → (v : ℕ) → alive v ≡ true → marks v ≡ true → kept_view m r d view (home v) ≡ Some v
kept_homes r d view marks alive made homes true e v a k = by (v == d) refl
  where
    by : (c : Bool) → (v == d) ≡ c → view (cond c (reg r) (home v)) ≡ Some v
    by true q = made ∙ ap Some (sym (numbers_same v d q))
    by false q = homes v a k (λ s. numbers_apart v d q (sym s))
kept_homes r d view marks alive made homes false e v a k = homes v a k (λ s. let z : true ≡ false = sym k ∙ ap marks (sym s) ∙ e in cc)

pub store_leads : (room : Room) (b : Section) (end : Places) (lines : List Line) (r d : ℕ) (m : Bool) (w : Walker) → r < room.regs → d < room.values → w.view (reg r) ≡ Some d → ((z : Walker) → z.next ≡ w.next → z.named ≡ w.named → ((p : Spot) → z.view p ≡ kept_view m r d w.view p) → Leads room b end lines z) → Leads room b end (storing (Some r) (cond m (Some d) None) lines) w
store_leads room b end lines r d true w l k made on = let rest = on (after b.ops (Store r d) w) refl refl (λ p. refl) in (((l, k, made), rest.0), rest.1)
store_leads room b end lines r d false w l k made on = on w refl refl (λ p. refl)
