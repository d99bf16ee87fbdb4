-- Of the scopes that are open, names that are declared change only the innermost.
use Rattle.std.proofs.Common.{◌≡◌, ℕ, suc, ◌+◌, List, [], ◌∷◌, ◌++◌, length, Bool, true, false, not, Option, Some, None, refl, ap, sym, ◌∙◌, subst}
use Rattle.std.proofs.lemmas.Slice.Eq.{bytes_eq-Decides}
use Rattle.std.specs.Prelude.{is_some, is_none, nat_le, ◌||◌, if◌then◌else◌}
use Rattle.std.specs.Str.{bytes_eq}
use Rattle.ob_syntax.specs.Syntax as S
use Rattle.ob_syntax.specs.declared.names.Identdef.{Identdef}
use Rattle.ob_judge.specs.Judged.{Judged, Keeps, Breaks, ◌>>=◌, rule}
use Rattle.ob_judge.specs.Shapes.{Shape}
use Rattle.ob_judge.specs.Scopes.{Object, Entry, Source, World, declare, place, spelled}
use Rattle.ob_judge.specs.Making.{Making, is_among, with_levels, declare_last, offer_if}
use Rattle.ob_judge.specs.Parameters.{Listed, listed, no_parameters, words_of, mode_of, is_value, opened, next_names, stand, declared, type_at, parameter_variable, add_parameters, section, next_sections, sections, result_shape, formal_part}
use Rattle.judged_well.specs.Gives.{Gives}
use Rattle.judged_well.proofs.Judging.{keeps, breaks, weaken, and_then}
use Rattle.bodies_in_scope.specs.Below.{IsNoProcedure}
use Rattle.bodies_in_scope.proofs.Names.{declared_last}
use Rattle.bodies_in_scope.proofs.Types.{OnlyTypes}

-- what may hold of the names that stand and of those that are declared
abbrev pub Sort : Type 1
Sort = List (List ℕ) → (List ℕ → Option Entry) → Type 0

-- where it goes on through declarations but those of procedures
pub record GoesOn (P : Sort) : Type 0 where
  pub stands : (name : List ℕ) (standing : List (List ℕ)) (k : List ℕ → Option Entry) → P standing k → P (name ∷ standing) k
  pub declares : (name : List ℕ) (e : Entry) (standing : List (List ℕ)) (k : List ℕ → Option Entry) → is_among name standing ≡ true → IsNoProcedure e.object → P standing k → P standing (declare name e k)

-- the scopes round the innermost are these, the world is else as this one, but for what is known of types, and this holds
-- of the innermost scope
pub record Around (P : Sort) (round : List (List ℕ → Option Entry)) (v : World) (standing : List (List ℕ)) (w : World) : Type 0 where
  pub own : List ℕ → Option Entry
  pub world : w ≡ record v { known = w.known; levels = round ++ own ∷ [] }
  pub holds : P standing own

-- ---- names that stand

same_name : (q : List ℕ) (standing : List (List ℕ)) → is_among q (q ∷ standing) ≡ true
same_name q standing = ap (λ b. b || is_among q standing) ((bytes_eq-Decides q q).1 refl)

or_true : (a b : Bool) → b ≡ true → (a || b) ≡ true
or_true true b h = refl
or_true false b h = h

-- all these symbols' names stand
abbrev pub AllStand : Source → List ℕ → List (List ℕ) → Type 0
AllStand p [] standing = Unit {0}
AllStand p (i ∷ is) standing = (is_among (spelled p i) standing ≡ true) × AllStand p is standing

-- what stood still stands
pub record More (standing more : List (List ℕ)) : Type 0 where
  pub stands : (q : List ℕ) → is_among q standing ≡ true → is_among q more ≡ true

one_stands : (p : Source) (is : List ℕ) (s t : List (List ℕ)) → More s t → AllStand p is s → AllStand p is t
one_stands p [] s t more h = tt
one_stands p (i ∷ is) s t more h = (more.stands (spelled p i) h.0, one_stands p is s t more h.1)

module _ (P : Sort) (on : GoesOn P) (round : List (List ℕ → Option Entry)) (v : World) where
  abbrev pub IsAround : Making → Type 0
  IsAround s = Around P round v s.standing s.world

  abbrev pub AroundTo : {A : Type 0} → A × Making → Type 0
  AroundTo r = Around P round v (r.1).standing (r.1).world

  -- with no other names standing
  pub record Same {A : Type 0} (s : Making) (r : A × Making) : Type 0 where
    pub around : Around P round v (r.1).standing (r.1).world
    pub standing : (r.1).standing ≡ s.standing

  pub a_look : {A : Type 0} (m : Judged A) (s : Making) → IsAround s → Gives (λ (r : A × Making). Same s r) (m >>= λ a. Keeps (a, s))
  a_look (Keeps a) s h = keeps (λ r. Same s r) (a, s) (record { around = h; standing = refl })
  a_look (Breaks n at) s h = breaks (λ r. Same s r) n at

  -- types judged
  pub a_types : {A : Type 0} (m : Judged (A × Making)) (s : Making) → IsAround s → Gives (λ (r : A × Making). OnlyTypes s r.1) m → Gives (λ (r : A × Making). Same s r) m
  a_types m s h g = weaken g (λ r only. record {
    around = subst IsAround (sym only.is) (record { own = h.own; world = ap {A = World} {B = World} (λ w. record w { known = (r.1).world.known }) h.world; holds = h.holds });
    standing = ap (λ x. x.standing) only.is;
  })

  -- one more name, which stands
  pub around_declared : (s : Making) (name : List ℕ) (e : Entry) → is_among name s.standing ≡ true → IsNoProcedure e.object → IsAround s → IsAround (with_levels (declare_last name e) s)
  around_declared s name e stands other h = record {
    own = declare name e h.own;
    world = ap {A = World} {B = World} (λ w. record w { levels = declare_last name e w.levels }) h.world ∙ ap {B = World} (λ ls. record v { known = s.world.known; levels = ls }) (declared_last name e round h.own);
    holds = on.declares name e s.standing h.own stands other h.holds;
  }

  around_offered : (b : Bool) (name : List ℕ) (e : Entry) (s : Making) → IsAround s → Same {A = Unit {0}} s (tt, offer_if b name e s)
  around_offered true name e s h = record { around = h; standing = refl }
  around_offered false name e s h = record { around = h; standing = refl }

  module _ (p : Source) where
    pub record Stood (is : List ℕ) (s : Making) (r : Unit {0} × Making) : Type 0 where
      pub around : Around P round v (r.1).standing (r.1).world
      pub more : More s.standing (r.1).standing
      pub stand : AllStand p is (r.1).standing

    pub a_stand : (is : List ℕ) (s : Making) → IsAround s → Gives (Stood is s) (stand p is s)
    a_stand [] s h = keeps (Stood [] s) (tt, s) (record { around = h; more = record { stands = λ q i. i }; stand = tt })
    a_stand (i ∷ is) s h = and_then (a_look (rule 36 (place p i) (not (is_among (spelled p i) s.standing))) s h) (λ r k.
        let u = record r.1 { standing = spelled p i ∷ r.1.standing } in
        weaken (a_stand is u (record { own = k.around.own; world = k.around.world; holds = on.stands (spelled p i) r.1.standing k.around.own k.around.holds })) (λ q l. record {
          around = l.around;
          more = record { stands = λ n j. l.more.stands n (or_true (bytes_eq n (spelled p i)) (is_among n r.1.standing) (ap (is_among n) k.standing ∙ j)) };
          stand = (l.more.stands (spelled p i) (same_name (spelled p i) r.1.standing), l.stand);
        }))

    pub a_declared : (x : Identdef) (o : Object) (s : Making) → is_among (spelled p x.name) s.standing ≡ true → IsNoProcedure o → IsAround s → Gives (λ (r : Unit {0} × Making). Same s r) (declared p x o s)
    a_declared x o s stands other h =
        let e : Entry = record { object = o; exported = is_some x.star } in
        let u = with_levels (declare_last (spelled p x.name) e) s in
        let k = around_offered (is_none s.world.procedure) (spelled p x.name) e u (around_declared s (spelled p x.name) e stands other h) in
        keeps (λ (r : Unit {0} × Making). Same s r) (tt, offer_if (is_none s.world.procedure) (spelled p x.name) e u) (record { around = k.around; standing = k.standing })

    -- ---- parameters

    -- the parameter's name is known
    abbrev known_from : ℕ → Bool → Shape → Listed → Making → Making
    known_from i b a l s = record (with_levels (declare_last (spelled p i) (record { object = parameter_variable b a s.values (length l.parameters) s.world; exported = false })) s) { values = if is_value (mode_of b a) then suc s.values else s.values }

    a_add : (b : Bool) (a : Shape) (is : List ℕ) (l : Listed) (s : Making) → AllStand p is s.standing → IsAround s → Gives (λ (r : Listed × Making). AroundTo r) (add_parameters p true b a is l s)
    a_add b a [] l s stand h = keeps (λ (r : Listed × Making). AroundTo r) (l, s) h
    a_add b a (i ∷ is) l s stand h = and_then (a_look (rule 40 (place p i) (nat_le (l.words + words_of b a) 24)) s h) (λ r k.
        a_add b a is (listed b a l) (known_from i b a l r.1) (subst (AllStand p is) (sym k.standing) stand.1)
        (around_declared r.1 (spelled p i) (record { object = parameter_variable b a r.1.values (length l.parameters) r.1.world; exported = false }) (ap (is_among (spelled p i)) k.standing ∙ stand.0) tt k.around))

    a_section : (x : S.Section) (l : Listed) (s : Making) → IsAround s → Gives (λ (r : Listed × Making). AroundTo r) (section p true x l s)
    a_section x l s h = and_then (a_stand (x.first ∷ next_names x.more) s h) (λ r k.
        and_then (a_look (type_at p 31 x.of (r.1).world) r.1 k.around) (λ a j.
        a_add (is_some x.var_word) (opened (is_some x.open_array) a.0) (x.first ∷ next_names x.more) l a.1 (subst (AllStand p (x.first ∷ next_names x.more)) (sym j.standing) k.stand) j.around))

    a_next_sections : (xs : List S.NextSection) (l : Listed) (s : Making) → IsAround s → Gives (λ (r : Listed × Making). AroundTo r) (next_sections p true xs l s)
    a_next_sections [] l s h = keeps (λ (r : Listed × Making). AroundTo r) (l, s) h
    a_next_sections (x ∷ xs) l s h = and_then (a_section x.section l s h) (λ r k. a_next_sections xs r.0 r.1 k)

    a_sections : (x : Option S.Sections) (s : Making) → IsAround s → Gives (λ (r : Listed × Making). AroundTo r) (sections p true x s)
    a_sections None s h = keeps (λ (r : Listed × Making). AroundTo r) (no_parameters, s) h
    a_sections (Some x) s h = and_then (a_section x.first no_parameters s h) (λ r k. a_next_sections x.more r.0 r.1 k)

    pub a_formals : (x : Option S.Formals) (s : Making) → IsAround s → Gives (λ (r : (Listed × Shape) × Making). AroundTo r) (formal_part p true x s)
    a_formals None s h = keeps (λ (r : (Listed × Shape) × Making). AroundTo r) ((no_parameters, _), s) h
    a_formals (Some x) s h = and_then (a_sections x.sections s h) (λ l k.
        and_then (a_look (result_shape p x.result (l.1).world) l.1 k) (λ r j. keeps (λ (q : (Listed × Shape) × Making). AroundTo q) ((l.0, r.0), r.1) j.around))
