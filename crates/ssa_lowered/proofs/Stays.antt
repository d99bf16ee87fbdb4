-- No expression and no designator changes a variable or the frequency.
use Rattle.std.proofs.Common.{◌≡◌, ℕ, Option, Some, None, refl, ◌∙◌, slice_get}
use Rattle.ob_types.specs.declared.tree.Designator.{Designator}
use Rattle.ob_types.specs.declared.tree.Expr.{Expr}
use Rattle.ob_types.specs.declared.program.Program.{Program}
use Rattle.ssa_lowered.specs.Data.{Layout}
use Rattle.ssa_lowered.specs.Pieces.{Cursor, Low, ◌>>=◌, fetched}
use Rattle.ssa_lowered.specs.Values.{Named}
use Rattle.ssa_lowered.specs.Control.{Test, fork_and, fork_or}
use Rattle.ssa_lowered.specs.Lowered.{Here, expr, named}
use Rattle.ssa_lowered.proofs.Everywhere.{s_expr, f_expr, s_designator}

abbrev pub Stays : (A : Type 0) → Low A → Type 0
Stays A m = (c : Cursor) → ((m c).after.env ≡ c.env) × ((m c).after.freq ≡ c.freq)

pub record Keeps (t : Test) : Type 0 where
  pub by : (c : Cursor) → ((t c).after.env ≡ c.env) × ((t c).after.freq ≡ c.freq)

stays_bind : (A B : Type 0) (m : Low A) (f : A → Low B) → Stays A m → ((a : A) → Stays B (f a)) → Stays B (m >>= f)
stays_bind A B m f p q c = ((q (m c).result (m c).after).0 ∙ (p c).0, (q (m c).result (m c).after).1 ∙ (p c).1)

stays_fetched : (v : Option ℕ) → Stays ℕ (fetched v)
stays_fetched (Some v) c = (refl, refl)
stays_fetched None c = (refl, refl)

keeps_and : (t u : Test) → Keeps t → Keeps u → Keeps (fork_and t u)
keeps_and t u p q = record { by = λ c. ((q.by (t c).after).0 ∙ (p.by c).0, (q.by (t c).after).1 ∙ (p.by c).1) }

keeps_or : (t u : Test) → Keeps t → Keeps u → Keeps (fork_or t u)
keeps_or t u p q = record { by = λ c. ((q.by (t c).after).0 ∙ (p.by c).0, (q.by (t c).after).1 ∙ (p.by c).1) }

pub stays_value : (p : Program) (l : Layout) (here : Here) (x : Expr) → Stays ℕ (expr p l here x).value
stays_value = s_expr Stays Keeps stays_bind (λ A a c. (refl, refl)) (λ code uses c. (refl, refl)) (λ code uses c. (refl, refl)) (λ x c. stays_fetched (slice_get c.env x) c)
    (λ m p. record { by = λ c. (refl, (p c).1) }) (λ t p. record { by = λ c. p.by c }) keeps_and keeps_or (λ t p c. ((p.by c).0, refl))

pub keeps_test : (p : Program) (l : Layout) (here : Here) (x : Expr) → Keeps (expr p l here x).test
keeps_test = f_expr Stays Keeps stays_bind (λ A a c. (refl, refl)) (λ code uses c. (refl, refl)) (λ code uses c. (refl, refl)) (λ x c. stays_fetched (slice_get c.env x) c)
    (λ m p. record { by = λ c. (refl, (p c).1) }) (λ t p. record { by = λ c. p.by c }) keeps_and keeps_or (λ t p c. ((p.by c).0, refl))

pub stays_named : (p : Program) (l : Layout) (here : Here) (d : Designator) → Stays Named (named p l here d)
stays_named = s_designator Stays Keeps stays_bind (λ A a c. (refl, refl)) (λ code uses c. (refl, refl)) (λ code uses c. (refl, refl)) (λ x c. stays_fetched (slice_get c.env x) c)
    (λ m p. record { by = λ c. (refl, (p c).1) }) (λ t p. record { by = λ c. p.by c }) keeps_and keeps_or (λ t p c. ((p.by c).0, refl))
