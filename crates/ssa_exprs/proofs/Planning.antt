-- What is done behind the first links of a chain: one step more, and one step less.
use Rattle.std.proofs.Common.{◌≡◌, ℕ, suc, List, [], ◌∷◌, ◌++◌, Some, length, get_or, refl, sym, ap, ◌∙◌, subst, arith, slice_get}
use Rattle.std.proofs.lemmas.Option.{get_or_from_slice_get}
use Rattle.ob_types.specs.declared.program.Program.{Program}
use Rattle.ob_types.specs.declared.tree.Expr.{Expr}
use Rattle.ob_types.specs.declared.tree.Link.{Link, Operate, And, Or, Element, Elements'}
use Rattle.ssa_lowered.specs.Control.{Lowers, Test, half, fork_value, tested}
use Rattle.ssa_lowered.specs.Lowered.{Here}
use Rattle.ssa_exprs.specs.declared.steps.Ways.{Ways}
use Rattle.ssa_exprs.specs.declared.steps.Wanted.{Wanted}
use Rattle.ssa_exprs.specs.declared.steps.Wanted.TheVariants.{Value, Condition}
use Rattle.ssa_exprs.specs.declared.steps.Step.{Step}
use Rattle.ssa_exprs.specs.declared.steps.Step.TheVariants as The
use Rattle.ssa_exprs.specs.Making.{View, asked, bound}
use Rattle.ssa_exprs.specs.Walk.{link_in}
use Rattle.ssa_exprs.specs.Steps.{Fulfils, Taken, AllTaken, Leads}
use Rattle.ssa_exprs.proofs.Forks.{tests_and, tests_or, tests_as, tests_value}
use Rattle.ssa_exprs.proofs.Chains.{tests_at, tests_to}

-- a link whose condition is its value
pub plain_link : (p : Program) (here : Here) (k : Link) (x : Lowers) → ((y : Expr) → k ≡ And y → ⊥) → ((y : Expr) → k ≡ Or y → ⊥) → (link_in p here k x).test ≡ fork_value (link_in p here k x).value
plain_link p here (Operate op y) x f g = refl
plain_link p here (And y) x f g = absurd (f y refl)
plain_link p here (Or y) x f g = absurd (g y refl)
plain_link p here (Element y) x f g = refl
plain_link p here (Elements' _ y _ z) x f g = refl

pub same_link : (ks : List Link) (i : ℕ) (j k : Link) → j ≡ get_or ks i j → slice_get ks i ≡ Some k → j ≡ k
same_link ks i j k is at = is ∙ get_or_from_slice_get ks i k j at

pub no_steps : (ss : List Step) → length ss ≡ 0 → ss ≡ []
no_steps [] e = refl
no_steps (s ∷ ss) e = absurd (omega (arith, e))

module _ (p : Program) (here : Here) (ks : List Link) where
  -- the last step is taken first
  pub record Split (ss : List Step) (s : Step) (u w : View) (a r : ℕ) : Type 0 where
    pub middle : View
    pub number : ℕ
    pub first : Taken p here ks s u middle a number
    pub others : AllTaken p here ks ss middle w number r

  taken_split : (ss : List Step) (s : Step) (u w : View) (a r : ℕ) → AllTaken p here ks (ss ++ s ∷ []) u w a r → Split ss s u w a r
  taken_split [] s u w a r x = record {
    middle = w;
    number = r;
    first = subst (λ k. Taken p here ks s k w a r) x.2.0 (subst (λ n. Taken p here ks s x.0 w n r) x.2.1 x.3);
    others = (refl, refl);
  }
  taken_split (z ∷ ss) s u w a r x =
      let y = taken_split ss s u x.0 a x.1 x.2 in
      record { middle = y.middle; number = y.number; first = y.first; others = (x.0, x.1, y.others, x.3) }

  pub taken_push : (ss : List Step) (s : Step) (u m w : View) (a c r : ℕ) → Taken p here ks s u m a c → AllTaken p here ks ss m w c r → AllTaken p here ks (ss ++ s ∷ []) u w a r
  taken_push [] s u m w a c r x y = (u, a, (refl, refl), subst (λ n. Taken p here ks s u w a n) (sym y.1) (subst (λ k. Taken p here ks s u k a c) (sym y.0) x))
  taken_push (z ∷ ss) s u m w a c r x y = (y.0, y.1, taken_push ss s u m y.0 a c y.1 x y.2, y.3)

  pub leads_none : (ss : List Step) (f : Wanted) (v : View) (x : Lowers) → ss ≡ [] → Leads p here ks ss f v x f v x
  leads_none ss f v x e = subst (λ l. Leads p here ks l f v x f v x) (sym e) (record {
    by = λ m w a r h t. subst (λ n. Fulfils f v w x n) (sym t.1) (subst (λ k. Fulfils f v k x a) (sym t.0) h);
  })

  module _ {ss new : List Step} {last : Wanted} {v : View} {y : Lowers} where
    -- one step more, which makes what was wanted of what is wanted now
    leads_push : (s : Step) {f g : Wanted} {u w : View} {x z : Lowers} → new ≡ ss ++ s ∷ []
        → ((m n : View) (a c : ℕ) → Fulfils g w m x a → Taken p here ks s m n a c → Fulfils f u n z c) → Leads p here ks ss f u z last v y → Leads p here ks new g w x last v y
    leads_push s {f} {g} {u} {w} {x} {z} e one l = subst (λ k. Leads p here ks k g w x last v y) (sym e) (record {
      by = λ m n a r h t. let q = taken_split ss s m n a r t in l.by q.middle n q.number r (one m q.middle a q.number h q.first) q.others;
    })

    pub leads_apply : (i : ℕ) {k : Link} {u : View} {x : Lowers} → slice_get ks i ≡ Some k → new ≡ ss ++ The.Apply i ∷ [] → Leads p here ks ss Value u (link_in p here k x) last v y → Leads p here ks new Value u x last v y
    leads_apply i {k} {u} {x} at e l = leads_push (The.Apply i) e (λ m n a c h t. t k at u x h) l

    pub leads_fork : {q : Ways} {u : View} {x : Lowers} → x.test ≡ fork_value x.value → new ≡ ss ++ The.Fork q ∷ [] → Leads p here ks ss (Condition q) u x last v y → Leads p here ks new Value u x last v y
    leads_fork {q} plain e l = leads_push (The.Fork q) e (λ m n a c h t. tests_as plain (tests_to t (tests_value q.yes q.no q.next h))) l

    pub leads_flag : (yes_to no_to freq next : ℕ) {u w : View} {t : Test} → yes_to ≡ u.labels → no_to ≡ suc u.labels → freq ≡ u.freq → next ≡ half freq → w ≡ asked (asked u) → new ≡ ss ++ The.Flag yes_to no_to freq ∷ []
        → Leads p here ks ss Value u (tested t) last v y → Leads p here ks new (Condition (record { yes = yes_to; no = no_to; next = next })) w (tested t) last v y
    leads_flag yes_to no_to freq next {u} {w} {t} ey en ef eh ew e l =
        leads_push (The.Flag yes_to no_to freq) e (λ m n a c h s. s u t ey en ef (tests_at ew refl refl (eh ∙ ap half ef) h)) l

    pub leads_and : (i label freq : ℕ) (q : Ways) {k : Link} (z : Expr) {u w : View} {x : Lowers} → slice_get ks i ≡ Some k → k ≡ And z → label ≡ u.labels → w ≡ asked u → freq ≡ w.freq → new ≡ ss ++ The.Part i label q ∷ []
        → Leads p here ks ss (Condition q) u (link_in p here (And z) x) last v y → Leads p here ks new (Condition (record { yes = label; no = q.no; next = freq })) w x last v y
    leads_and i label freq q z {u} {w} {x} at is el ew ef e l =
        leads_push (The.Part i label q) e
        (λ m n a c h t. tests_and (tests_at ew el refl (ef ∙ ap (λ (k : View). k.freq) ew) h) (tests_at (ap (bound m) el) refl refl refl (t (And z) (at ∙ ap Some is)))) l

    pub leads_or : (i label freq : ℕ) (q : Ways) {k : Link} (z : Expr) {u w : View} {x : Lowers} → slice_get ks i ≡ Some k → k ≡ Or z → label ≡ u.labels → w ≡ asked u → freq ≡ w.freq → new ≡ ss ++ The.Part i label q ∷ []
        → Leads p here ks ss (Condition q) u (link_in p here (Or z) x) last v y → Leads p here ks new (Condition (record { yes = q.yes; no = label; next = freq })) w x last v y
    leads_or i label freq q z {u} {w} {x} at is el ew ef e l =
        leads_push (The.Part i label q) e
        (λ m n a c h t. tests_or (tests_at ew refl el (ef ∙ ap (λ (k : View). k.freq) ew) h) (tests_at (ap (bound m) el) refl refl refl (t (Or z) (at ∙ ap Some is)))) l
