-- Declarations are judged alike where other procedures were judged before, as many of them.
use Rattle.std.proofs.Common.{◌≡◌, ℕ, ◌+◌, List, [], ◌∷◌, ◌++◌, length, Bool, sym, subst, ap, ◌∙◌}
use Rattle.std.specs.Prelude.{is_some, slice_set}
use Rattle.ob_syntax.specs.Syntax as S
use Rattle.ob_judge.specs.Judged.{Judged, Keeps, Breaks, ◌>>=◌}
use Rattle.ob_judge.specs.Image.{Procedure}
use Rattle.ob_judge.specs.Scopes.{Source}
use Rattle.ob_judge.specs.Making.{Making, no_procedure, within_procedure}
use Rattle.ob_judge.specs.Parameters.{stand}
use Rattle.ob_judge.specs.Declarations.{consts_in, types_in, vars_in, heading, decls_part, procedures_part}
use Rattle.judged_well.specs.Gives.{Gives}
use Rattle.judged_well.proofs.Judging.{weaken}
use Rattle.judged_modules.proofs.Lists.{append_length}
use Rattle.judged_modules.specs.steps.Procedures.{OneProcedure}
use Rattle.judged_modules.specs.steps.Steps.{completed, inside, procedure_part}
use Rattle.judged_modules.specs.steps.Frames.{entered, left}
use Rattle.judged_modules.proofs.steps.Frame.{h_stand, h_heading, h_consts}
use Rattle.judged_modules.proofs.steps.FrameTypes.{k_types, k_vars}
use Rattle.judged_modules.proofs.steps.Laws.{procedures_law}
use Rattle.later_bodies.specs.Waiting.{with_procedures}
use Rattle.later_bodies.proofs.Lists.{append_append, set_behind}
use Rattle.later_bodies.proofs.Beside.{Beside, b_stand, b_consts, b_heading}
use Rattle.later_bodies.proofs.BesideTypes.{b_types, b_vars}

-- both break the same rule, or both give the same, and to what was before them they added the same procedures
pub data Both {A : Type 0} (xs ys : List Procedure) : Judged (A × Making) → Judged (A × Making) → Type 0 where
  goes_on : (a : A) (zs : List Procedure) (s : Making) → Both xs ys (Keeps (a, with_procedures (xs ++ zs) s)) (Keeps (a, with_procedures (ys ++ zs) s))
  ends : (number at : ℕ) → Both xs ys (Breaks number at) (Breaks number at)

-- judged alike where these procedures were before
pub record Alike {A : Type 0} (xs ys : List Procedure) (m n : Judged (A × Making)) : Type 0 where
  pub by : Both xs ys m n

abbrev nothing : Unit {0}
nothing = tt

module _ (xs ys : List Procedure) where
  a_gives : {A : Type 0} (a : A) (zs : List Procedure) (s : Making) → Alike xs ys (Keeps (a, with_procedures (xs ++ zs) s)) (Keeps (a, with_procedures (ys ++ zs) s))
  a_gives a zs s = record { by = goes_on a zs s }

  behind : {A B : Type 0} {m n : Judged (A × Making)} (f g : A × Making → Judged (B × Making)) → Alike xs ys m n
      → ((a : A) (zs : List Procedure) (s : Making) → Alike xs ys (f (a, with_procedures (xs ++ zs) s)) (g (a, with_procedures (ys ++ zs) s))) → Alike xs ys (m >>= f) (n >>= g)
  behind {A = A} {m = m} {n = n} f g h next = by m n h.by
    where
      by : (x y : Judged (A × Making)) → Both xs ys x y → Alike xs ys (x >>= f) (y >>= g)
      by _ _ (goes_on a zs s) = next a zs s
      by _ _ (ends number at) = record { by = ends number at }

  -- what is judged in the scope as it is
  look : {A B : Type 0} (m : Judged A) {f g : A → Judged (B × Making)} → ((a : A) → Alike xs ys (f a) (g a)) → Alike xs ys (m >>= f) (m >>= g)
  look (Keeps a) next = next a
  look (Breaks number at) next = record { by = ends number at }

  -- procedures are left as they were
  abbrev Left : {A : Type 0} → (zs : List Procedure) → A × Making → Type 0
  Left zs r = r.1.procedures ≡ xs ++ zs

  same_left : {A : Type 0} (zs : List Procedure) (m : Judged (A × Making)) → Gives (Left zs) m → Alike xs ys m (m >>= λ r. Keeps (r.0, with_procedures (ys ++ zs) r.1))
  same_left zs (Keeps r) g = subst (λ l. Alike xs ys (Keeps (r.0, with_procedures l r.1)) (Keeps (r.0, with_procedures (ys ++ zs) r.1))) (sym g.holds) (a_gives r.0 zs r.1)
  same_left zs (Breaks number at) g = record { by = ends number at }

  from_beside : {A : Type 0} {m n : Judged (A × Making)} (zs : List Procedure) → Beside (ys ++ zs) n m → Gives (Left zs) m → Alike xs ys m n
  from_beside {m = m} zs b g = subst (Alike xs ys m) (sym b.by) (same_left zs m g)

  module _ (p : Source) where
    a_stand : (is : List ℕ) (zs : List Procedure) (s : Making) → Alike xs ys (stand p is (with_procedures (xs ++ zs) s)) (stand p is (with_procedures (ys ++ zs) s))
    a_stand is zs s = from_beside zs (b_stand (ys ++ zs) p is (with_procedures (xs ++ zs) s)) (weaken (h_stand p is (with_procedures (xs ++ zs) s)) (λ r h. h.procedures))

  module _ (many : length ys ≡ length xs) (p : Source) where
    as_many : (zs : List Procedure) → length (ys ++ zs) ≡ length (xs ++ zs)
    as_many zs = append_length ys zs ∙ ap (λ n. n + length zs) many ∙ sym (append_length xs zs)

    -- a procedure is known by its number
    a_set : (k : ℕ) (zs : List Procedure) (j : Procedure) (t : Making)
        → Alike xs ys (Keeps (nothing, with_procedures (slice_set (xs ++ zs) (length xs + k) j) t)) (Keeps (nothing, with_procedures (slice_set (ys ++ zs) (length xs + k) j) t))
    a_set k zs j t =
        let e : slice_set (ys ++ zs) (length xs + k) j ≡ ys ++ slice_set zs k j = ap (λ n. slice_set (ys ++ zs) (n + k) j) (sym many) ∙ set_behind ys zs k j in
        subst (λ l. Alike xs ys (Keeps (nothing, with_procedures (slice_set (xs ++ zs) (length xs + k) j) t)) (Keeps (nothing, with_procedures l t))) (sym e)
        (subst (λ l. Alike xs ys (Keeps (nothing, with_procedures l t)) (Keeps (nothing, with_procedures (ys ++ slice_set zs k j) t))) (sym (set_behind xs zs k j)) (a_gives nothing (slice_set zs k j) t))

    abbrev DeclsAlike : S.Decls → Type 0
    DeclsAlike d = (zs : List Procedure) (s : Making) → Alike xs ys (decls_part p d (with_procedures (xs ++ zs) s)) (decls_part p d (with_procedures (ys ++ zs) s))

    a_heading : (f : ℕ) (q : OneProcedure) (is_local : Bool) (zs : List Procedure) (s : Making)
        → Alike xs ys (heading p f q.name q.formals is_local (with_procedures (xs ++ zs) s)) (heading p f q.name q.formals is_local (with_procedures (ys ++ zs) s))
    a_heading f q is_local zs s = from_beside zs (b_heading (ys ++ zs) p f q.name q.formals is_local (with_procedures (xs ++ zs) s)) (weaken (h_heading p f q.name q.formals is_local (with_procedures (xs ++ zs) s)) (λ r h. h.procedures))

    a_inside : (k : ℕ) (q : OneProcedure) (is_local : Bool) → DeclsAlike q.decls → (zs : List Procedure) (s : Making)
        → Alike xs ys (inside p (length xs + k) is_local q (with_procedures (xs ++ zs) s)) (inside p (length xs + k) is_local q (with_procedures (ys ++ zs) s))
    a_inside k q is_local decls zs s = behind _ _ (a_heading (length xs + k) q is_local zs s) (λ h vs t. behind _ _ (decls vs t) (λ d us u.
        look (completed p q h u) (λ j. a_set k us j u)))

    -- a procedure in its own scope, with its number
    abbrev scoped : (f : ℕ) → OneProcedure → Making → List Procedure → Judged (Unit {0} × Making)
    scoped f q s vs = within_procedure f (inside p f (is_some s.world.procedure) q) (with_procedures vs s)

    a_scope : (f g : ℕ) (vs ws : List Procedure) (q : OneProcedure) → DeclsAlike q.decls → (zs : List Procedure) (s : Making)
        → f ≡ length xs + length zs → g ≡ length xs + length zs → vs ≡ xs ++ (zs ++ no_procedure ∷ []) → ws ≡ ys ++ (zs ++ no_procedure ∷ [])
        → Alike xs ys (scoped f q s vs) (scoped g q s ws)
    a_scope f g vs ws q decls zs s ef eg ea eb =
        let n = length xs + length zs in
        let more = zs ++ no_procedure ∷ [] in
        subst (λ k. Alike xs ys (scoped k q s vs) (scoped g q s ws)) (sym ef)
        (subst (λ k. Alike xs ys (scoped n q s vs) (scoped k q s ws)) (sym eg)
        (subst (λ l. Alike xs ys (scoped n q s l) (scoped n q s ws)) (sym ea)
        (subst (λ l. Alike xs ys (scoped n q s (xs ++ more)) (scoped n q s l)) (sym eb)
        (behind _ _ (a_inside (length zs) q (is_some s.world.procedure) decls more (entered n s)) (λ u vs t. a_gives u vs (left s t))))))

    pub a_procedure : (q : OneProcedure) → DeclsAlike q.decls → (zs : List Procedure) (s : Making)
        → Alike xs ys (procedure_part p q (with_procedures (xs ++ zs) s)) (procedure_part p q (with_procedures (ys ++ zs) s))
    a_procedure q decls zs s = behind _ _ (a_stand p (q.name.name ∷ []) zs s) (λ u vs t.
        a_scope (length (xs ++ vs)) (length (ys ++ vs)) ((xs ++ vs) ++ no_procedure ∷ []) ((ys ++ vs) ++ no_procedure ∷ []) q decls vs t
        (append_length xs vs) (as_many vs ∙ append_length xs vs) (append_append xs vs (no_procedure ∷ [])) (append_append ys vs (no_procedure ∷ [])))

    mutual
      pub a_decls : (d : S.Decls) (zs : List Procedure) (s : Making) → Alike xs ys (decls_part p d (with_procedures (xs ++ zs) s)) (decls_part p d (with_procedures (ys ++ zs) s))
      a_decls (S.decls consts types vars procedures) zs s =
          behind _ _ (from_beside zs (b_consts (ys ++ zs) p (consts_in consts) (with_procedures (xs ++ zs) s)) (weaken (h_consts p (consts_in consts) (with_procedures (xs ++ zs) s)) (λ r h. h.procedures))) (λ c cs t.
          behind _ _ (from_beside cs (b_types (ys ++ cs) p (types_in types) (with_procedures (xs ++ cs) t)) (weaken (k_types p (types_in types) (with_procedures (xs ++ cs) t)) (λ r h. h.procedures))) (λ d ds u.
          behind _ _ (from_beside ds (b_vars (ys ++ ds) p (vars_in vars) (with_procedures (xs ++ ds) u)) (weaken (k_vars p (vars_in vars) (with_procedures (xs ++ ds) u)) (λ r h. h.procedures))) (λ e es v.
          a_procedures procedures es v)))

      pub a_procedures : (x : S.Procedures) (zs : List Procedure) (s : Making) → Alike xs ys (procedures_part p x (with_procedures (xs ++ zs) s)) (procedures_part p x (with_procedures (ys ++ zs) s))
      a_procedures S.no_procedure zs s = a_gives nothing zs s
      a_procedures (S.procedure procedure_word name formals semicolon inner body returned end_word end_name last rest) zs s =
          let q : OneProcedure = record { procedure_word = procedure_word; name = name; formals = formals; semicolon = semicolon; decls = inner; body = body; returned = returned; end_word = end_word; end_name = end_name } in
          subst (λ m. Alike xs ys m (procedures_part p (S.procedure procedure_word name formals semicolon inner body returned end_word end_name last rest) (with_procedures (ys ++ zs) s))) (sym (procedures_law p q last rest (with_procedures (xs ++ zs) s)))
          (subst (λ m. Alike xs ys (procedure_part p q (with_procedures (xs ++ zs) s) >>= λ r. procedures_part p rest r.1) m) (sym (procedures_law p q last rest (with_procedures (ys ++ zs) s)))
          (behind _ _ (a_procedure q (λ vs t. a_decls inner vs t) zs s) (λ u vs t. a_procedures rest vs t)))
