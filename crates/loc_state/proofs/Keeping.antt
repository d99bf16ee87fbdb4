-- What each line keeps, over a walker.
use Rattle.std.proofs.Common.{◌≡◌, ◌≢◌, ℕ, suc, ◌+◌, ◌<◌, ◌≤◌, Bool, true, false, cond, List, [], ◌∷◌, ◌++◌, map, length, take, drop, set, get_or, Option, Some, None, refl, sym, ap, ◌∙◌, subst, arith, length-append, length-set, inl, inr, ◌⊎◌}
use Rattle.std.specs.Prelude.{◌==◌}
use Rattle.std.proofs.lemmas.List.{map-append, take_at, drop_all, get_or_push, length-map}
use Rattle.block_runs.specs.Blocks.{Operation}
use Rattle.block_runs.specs.Live.{has}
use Rattle.lir_core.specs.declared.places.Places.{Places}
use Rattle.lir_core.specs.declared.places.Line.TheVariants.{Store, Load}
use Rattle.lir_core.specs.Spots.{Spot, reg, home, out, target, saved, get, view_of, placed}
use Rattle.lir_core.specs.Lines.{one_def, Room, AllBelow}
use Rattle.lir_core.specs.Walks.{Walker, left, without, defined, after, Below}
use Rattle.loc_state.specs.Homed.{inserted, others}
use Rattle.loc_state.specs.Walked.{Stands, AreValues, Apart}
use Rattle.loc_state.proofs.Frame.{extra, names_if, uses_if, def_if}
use Rattle.loc_state.proofs.Homing.{has_inserted, has_others}
use Rattle.loc_state.proofs.Numbers.{numbers_same, numbers_apart, test_same, test_apart, get_set, below_push, below_take, map_map, map_same, get_without, append_nil, in_register_at}

abbrev with_reg : Places → ℕ → Option ℕ → Places
with_reg q r v = record { regs = set q.regs r v; homed = q.homed }

abbrev with_home : Places → ℕ → Places
with_home q v = record { regs = q.regs; homed = inserted v q.homed }

abbrev pub less : ℕ → Places → Places
less v q = record { regs = map (without v) q.regs; homed = others v q.homed }

-- what a home mark says
pub is_marked : (b : Bool) (x u : ℕ) → cond b (Some x) None ≡ Some u → (b ≡ true) × (x ≡ u)
is_marked true x u e = (refl, cc)
is_marked false x u e = cc

pub marked : (q : Places) (v : ℕ) → has q.homed v ≡ true → view_of q (home v) ≡ Some v
marked q v h = ap (λ b. cond b (Some v) None) h

module _ (room : Room) (n : ℕ) (noted : List ℕ) (q : Places) (z : Walker) (s : Stands room n noted q z) where
  pub noted_stands : (r v : ℕ) → r < room.regs → get q.regs r ≡ Some v → Stands room n (noted ++ v ∷ []) q (extra z (r ∷ []))
  noted_stands r v l e = record {
    registers = s.registers;
    values = s.values;
    next = s.next;
    places = s.places;
    in_range = below_push room.regs z.named r s.in_range l;
    uses = let one = s.places (reg r) v e in let a = s.uses in
        map-append (λ x. z.view (reg x)) z.named (r ∷ []) ∙ ap (λ t. t ++ z.view (reg r) ∷ []) a ∙ ap (λ o. map Some noted ++ o ∷ []) one ∙ sym (map-append Some noted (v ∷ []));
  }

  pub loaded_stands : (ops : List Operation) (r v : ℕ) → r < room.regs → has q.homed v ≡ true → Apart r z.named → Stands room n noted (with_reg q r (Some v)) (after ops (Load r v) z)
  loaded_stands ops r v l h a = record {
    registers = length-set q.regs r (Some v) ∙ s.registers;
    next = s.next;
    in_range = s.in_range;
    uses = map_same (λ x. z.view (cond (x == r) (home v) (reg x))) (λ x. z.view (reg x)) r (λ x e. ap (λ b. z.view (cond b (home v) (reg x))) e) z.named a ∙ s.uses;
    values = values;
    places = places;
  }
    where
      there : (x : ℕ) → get (set q.regs r (Some v)) x ≡ cond (x == r) (Some v) (get q.regs x)
      there x = get_set q.regs r x (Some v) (let m = s.registers in omega (arith, l, m))

      values : AreValues room.values (with_reg q r (Some v))
      values (reg x) u e = at_test (x == r) (sym (there x) ∙ e)
        where
          at_test : (b : Bool) → cond b (Some v) (get q.regs x) ≡ Some u → u < room.values
          at_test true e = s.values (home v) u (marked q v h ∙ e)
          at_test false e = s.values (reg x) u e
      values (home x) u e = s.values (home x) u e
      values (out x) u e = cc
      values target u e = cc
      values saved u e = cc

      places : Below (view_of (with_reg q r (Some v))) (after ops (Load r v) z).view
      places (reg x) u e = at_test (x == r) (sym (there x) ∙ e)
        where
          at_test : (b : Bool) → cond b (Some v) (get q.regs x) ≡ Some u → z.view (cond b (home v) (reg x)) ≡ Some u
          at_test true e = s.places (home v) v (marked q v h) ∙ e
          at_test false e = s.places (reg x) u e
      places (home x) u e = s.places (home x) u e
      places (out x) u e = cc
      places target u e = cc
      places saved u e = cc

  pub stored_stands : (ops : List Operation) (r v : ℕ) → get q.regs r ≡ Some v → Stands room n noted (with_home q v) (after ops (Store r v) z)
  stored_stands ops r v h = record {
    registers = s.registers;
    next = s.next;
    in_range = s.in_range;
    uses = s.uses;
    values = values;
    places = places;
  }
    where
      or_was : (x : ℕ) → has (inserted v q.homed) x ≡ true → ◌⊎◌ (v ≡ x) (has q.homed x ≡ true)
      or_was x e = by (v == x) refl (sym (has_inserted v q.homed x) ∙ e)
        where
          by : (b : Bool) → (v == x) ≡ b → cond b true (has q.homed x) ≡ true → ◌⊎◌ (v ≡ x) (has q.homed x ≡ true)
          by true t e = inl (numbers_same v x t)
          by false t e = inr e

      values : AreValues room.values (with_home q v)
      values (reg x) u e = s.values (reg x) u e
      values (home x) u e = let m = is_marked (has (inserted v q.homed) x) x u e in by m.1 (or_was x m.0)
        where
          by : x ≡ u → ◌⊎◌ (v ≡ x) (has q.homed x ≡ true) → u < room.values
          by e (inl a) = s.values (reg r) u (h ∙ ap Some (a ∙ e))
          by e (inr a) = s.values (home x) u (marked q x a ∙ ap Some e)
      values (out x) u e = cc
      values target u e = cc
      values saved u e = cc

      places : Below (view_of (with_home q v)) (after ops (Store r v) z).view
      places (reg x) u e = s.places (reg x) u e
      places (home x) u e = at_test (x == v) refl
        where
          m : (has (inserted v q.homed) x ≡ true) × (x ≡ u)
          m = is_marked (has (inserted v q.homed) x) x u e

          at_test : (b : Bool) → (x == v) ≡ b → z.view (cond b (reg r) (home x)) ≡ Some u
          at_test true t = s.places (reg r) v h ∙ ap Some (sym (numbers_same x v t) ∙ m.1)
          at_test false t = by (or_was x m.0)
            where
              by : ◌⊎◌ (v ≡ x) (has q.homed x ≡ true) → z.view (home x) ≡ Some u
              by (inl a) = absurd (numbers_apart x v t (sym a))
              by (inr a) = s.places (home x) u (marked q x a ∙ ap Some m.1)
      places (out x) u e = cc
      places target u e = cc
      places saved u e = cc

  pub less_stands : (q' : Places) → length q'.regs ≡ room.regs → Below (view_of q') (view_of q) → Stands room n noted q' z
  less_stands q' l b = record { registers = l; next = s.next; in_range = s.in_range; uses = s.uses; values = λ p u e. s.values p u (b p u e); places = λ p u e. s.places p u (b p u e) }

  pub emptied_stands : (r : ℕ) → r < room.regs → Stands room n noted (with_reg q r None) z
  emptied_stands r l = less_stands (with_reg q r None) (length-set q.regs r None ∙ s.registers) fewer
    where
      fewer : Below (view_of (with_reg q r None)) (view_of q)
      fewer (reg x) u e = at_test (x == r) (sym (get_set q.regs r x None (let m = s.registers in omega (arith, l, m))) ∙ e)
        where
          at_test : (b : Bool) → cond b None (get q.regs x) ≡ Some u → get q.regs x ≡ Some u
          at_test true e = cc
          at_test false e = e
      fewer (home x) u e = e
      fewer (out x) u e = e
      fewer target u e = e
      fewer saved u e = e

  pub dropped_stands : (v : ℕ) → Stands room n noted (less v q) z
  dropped_stands v = less_stands (less v q) (length-map q.regs (without v) ∙ s.registers) fewer
    where
      fewer : Below (view_of (less v q)) (view_of q)
      fewer (reg x) u e = get_without q.regs v x u e
      fewer (home x) u e = let m = is_marked (has (others v q.homed) x) x u e in marked q x (has_others q.homed v x m.0) ∙ ap Some m.1
      fewer (out x) u e = e
      fewer target u e = e
      fewer saved u e = e

-- no value but the others is left where v is taken away
pub stays : (v u : ℕ) (o : Option ℕ) → o ≡ Some u → u ≢ v → without v o ≡ Some u
stays v u o e ne = ap (without v) e ∙ ap (λ b. cond b None (Some u)) (test_apart u v ne)

---- An operation that isn't a call

-- a walker behind an operation, where it is known whether it is a call
abbrev pub perform_if : Bool → Operation → Walker → Walker
perform_if call op w = record { next = suc w.next; named = drop (names_if call op) w.named; view = defined op.def (def_if call op w.named) (left call w.view) }

abbrev pub CanIf : Bool → ℕ → Operation → ℕ → Walker → Type 0
CanIf call k op i w = (i ≡ w.next) × (names_if call op ≤ length w.named) × AllBelow k (take (names_if call op) w.named) × (map w.view (uses_if call op w.named) ≡ map Some op.uses)

module _ (room : Room) (n : ℕ) (op : Operation) (q : Places) (z : Walker) (s : Stands room n op.uses q z) where
  as_many : length z.named ≡ length op.uses
  as_many = let a = length-map z.named (λ r. z.view (reg r)) in let b = length-map op.uses Some in let e = ap length s.uses in omega (arith, a, b, e)

  reads_uses : (xs : List ℕ) → map z.view (map reg (take (length op.uses) (z.named ++ xs))) ≡ map Some op.uses
  reads_uses xs = ap (λ t. map z.view (map reg t)) (take_at z.named xs (length op.uses) as_many) ∙ map_map z.view reg z.named ∙ s.uses

  pub can_define : (v r : ℕ) → op.def ≡ Some v → r < room.regs → CanIf false room.regs op n (extra z (r ∷ []))
  can_define v r d l =
      let a = as_many in let one : one_def op.def ≡ 1 = ap one_def d in
      (sym s.next, omega (arith, a, one, length-append z.named (r ∷ [])), below_take room.regs (z.named ++ r ∷ []) (names_if false op) (below_push room.regs z.named r s.in_range l), reads_uses (r ∷ []))

  pub can_do : op.def ≡ None → CanIf false room.regs op n z
  can_do d =
      let a = as_many in let none : one_def op.def ≡ 0 = ap one_def d in
      (sym s.next, omega (arith, a, none), below_take room.regs z.named (names_if false op) s.in_range, ap (λ t. map z.view (map reg (take (length op.uses) t))) (sym (append_nil z.named)) ∙ reads_uses [])

  -- an ordinary operation leaves registers and homes
  pub passes_left : (w : Spot → Option ℕ) (p : Spot) (u : ℕ) → view_of q p ≡ Some u → w p ≡ Some u → left false w p ≡ Some u
  passes_left w (reg r) u h e = e
  passes_left w (home v) u h e = e
  passes_left w (out i) u h e = cc
  passes_left w target u h e = cc
  passes_left w saved u h e = cc

  pub done_stands : op.def ≡ None → Stands room (n + 1) [] q (perform_if false op z)
  done_stands d =
      let a = as_many in
      let none : one_def op.def ≡ 0 = ap one_def d in
      let gone : drop (names_if false op) z.named ≡ [] = drop_all (names_if false op) z.named (omega (arith, a, none)) in
      record {
        registers = s.registers;
        values = s.values;
        next = let m = s.next in omega (arith, m);
        in_range = subst (AllBelow room.regs) (sym gone) tt;
        uses = ap (map (λ r. (perform_if false op z).view (reg r))) gone;
        places = subst (λ o. Below (view_of q) (λ p. defined o (def_if false op z.named) (left false z.view) p)) (sym d) (λ p u e. passes_left z.view p u e (s.places p u e));
      }

  pub defined_stands : (v r : ℕ) → op.def ≡ Some v → r < room.regs → v < room.values → placed q v ≡ false → Stands room (n + 1) [] (with_reg q r (Some v)) (perform_if false op (extra z (r ∷ [])))
  defined_stands v r d l below absent =
      let a = as_many in
      let one : one_def op.def ≡ 1 = ap one_def d in
      let gone : drop (names_if false op) (z.named ++ r ∷ []) ≡ [] = drop_all (names_if false op) (z.named ++ r ∷ []) (omega (arith, a, one, length-append z.named (r ∷ []))) in
      record {
        registers = length-set q.regs r (Some v) ∙ s.registers;
        next = let m = s.next in omega (arith, m);
        values = values;
        in_range = subst (AllBelow room.regs) (sym gone) tt;
        uses = ap (map (λ x. (perform_if false op (extra z (r ∷ []))).view (reg x))) gone;
        places = subst (λ o. Below (view_of (with_reg q r (Some v))) (λ p. defined o (reg (get_or (z.named ++ r ∷ []) (length op.uses) 0)) (left false z.view) p)) (sym d)
            (subst (λ i. Below (view_of (with_reg q r (Some v))) (λ p. defined (Some v) (reg i) (left false z.view) p)) (sym (get_or_push z.named r 0 (length op.uses) as_many)) places);
      }
    where
      there : (x : ℕ) → get (set q.regs r (Some v)) x ≡ cond (x == r) (Some v) (get q.regs x)
      there x = get_set q.regs r x (Some v) (let m = s.registers in omega (arith, l, m))

      not_in_reg : (x : ℕ) → get q.regs x ≡ Some v → ⊥
      not_in_reg x e = let t = Rattle.loc_state.proofs.Numbers.in_reg q v (in_register_at q.regs x v e) in let f : true ≡ false = sym t ∙ absent in cc

      not_homed : has q.homed v ≡ true → ⊥
      not_homed e = let t = Rattle.loc_state.proofs.Numbers.in_home q v e in let f : true ≡ false = sym t ∙ absent in cc

      values : AreValues room.values (with_reg q r (Some v))
      values (reg x) u e = at_test (x == r) (sym (there x) ∙ e)
        where
          at_test : (b : Bool) → cond b (Some v) (get q.regs x) ≡ Some u → u < room.values
          at_test true e = let f : v ≡ u = cc in omega (arith, f, below)
          at_test false e = s.values (reg x) u e
      values (home x) u e = s.values (home x) u e
      values (out x) u e = cc
      values target u e = cc
      values saved u e = cc

      places : Below (view_of (with_reg q r (Some v))) (λ p. defined (Some v) (reg r) (left false z.view) p)
      places (reg x) u e = at_test (x == r) (sym (there x) ∙ e)
        where
          at_test : (b : Bool) → cond b (Some v) (get q.regs x) ≡ Some u → cond b (Some v) (without v (z.view (reg x))) ≡ Some u
          at_test true e = e
          at_test false e = stays v u (z.view (reg x)) (s.places (reg x) u e) (λ f. not_in_reg x (e ∙ ap Some f))
      places (home x) u e =
          let m = is_marked (has q.homed x) x u e in
          stays v u (z.view (home x)) (s.places (home x) u e) (λ f. not_homed (ap (has q.homed) (sym (m.1 ∙ f)) ∙ m.0))
      places (out x) u e = cc
      places target u e = cc
      places saved u e = cc
