-- How the parts of a procedure are put together.
use Rattle.std.proofs.Common.{◌≡◌, ℕ, ◌-◌, List, Option, refl, sym, subst, arith}
use Rattle.ob_types.specs.declared.program.Program.{Program}
use Rattle.ssa_lowered.specs.Data.{Layout, layout}
use Rattle.ssa_lowered.specs.Lowered.{Here, enters, answer, whole}
use Rattle.ssa_lowered.specs.Pieces.{Low, ◌>>=◌}
use Rattle.ssa_lowered.specs.Statements.{Deed}
use Rattle.ssa_lowered.specs.Variables.{further, zeroing, stored, opened, some_structured}
use Rattle.ssa_exprs.specs.Making.{View, Gives}
use Rattle.ssa_exprs.proofs.Giving.{follows_bind, once_on, later_none, append_nil}
use Rattle.ssa_exprs.specs.Making.{resolved}
use Rattle.ssa_statements.specs.Steps.{Steps}
use Rattle.ssa_statements.specs.walk.Lists.{deeds_in}
use Rattle.ssa_build.specs.Makes.{Makes}

pub makes_of : {A : Type 0} {v w : View} {m : Low A} {r : A} → Gives v w m r → Makes v w m r
makes_of g = record { follows = g.follows; once = g.once }

pub makes_steps : {v w : View} {m : Deed} → Steps v w m → Makes v w m tt
makes_steps s = record { follows = s.follows; once = s.once }

pub makes_bind : {A B : Type 0} {u v w : View} {m : Low A} {a : A} {b : B} (f : A → Low B) → Makes u v m a → Makes v w (f a) b → Makes u w (m >>= f) b
makes_bind f x y = record { follows = follows_bind (λ _. f) x.follows y.follows; once = once_on x.once y.once }

-- the variables get their first values
pub makes_enter : (p : Program) (l : Layout) (here : Here) (v : View) (env : List ℕ) → Makes v (record v { known = record { env = env; log = v.known.log } }) (enters p l here env) tt
makes_enter p l here v env = record {
  follows = record {
    fits = λ place f. f;
    limit = λ place f op seen. sym (later_none v.over);
    by = λ e place f op seen. record { adds = sym (append_nil (resolved place v.made)); after = refl; result = refl };
  };
  once = record { by = λ t. omega arith };
}

-- a whole procedure
pub makes_whole : {v0 v1 v2 v3 v4 v5 v6 v7 : View} {env : List ℕ} {r : Option ℕ} (p : Program) (here : Here) (words zeroed : ℕ)
    → Gives v0 v1 (further 4 (words - 4)) tt → Gives v1 v2 (zeroing (some_structured p.types here.procedure.locals) here.bytes zeroed) tt
    → Gives v2 v3 (stored p.types (layout p.types) here.bytes here.variables) tt → Gives v3 v4 (opened here.variables) env
    → v5 ≡ record v4 { known = record { env = env; log = v4.known.log } } → Steps v5 v6 (deeds_in p here here.procedure.body) → Gives v6 v7 (answer p (layout p.types) here here.procedure.answer) r
    → Makes v0 v7 (whole p (layout p.types) here words zeroed) r
makes_whole {v4 = v4} {v6 = v6} {env = env} p here words zeroed g1 g2 g3 g4 is s g5 =
    let l = layout p.types in
    let body = deeds_in p here here.procedure.body in
    let end = answer p l here here.procedure.answer in
    let some = some_structured p.types here.procedure.locals in
    let entered = subst (λ z. Makes v4 z (enters p l here env) tt) (sym is) (makes_enter p l here v4 env) in
    makes_bind (λ _. zeroing some here.bytes zeroed >>= λ _. stored p.types l here.bytes here.variables >>= λ _. opened here.variables >>= λ e. enters p l here e >>= λ _. body >>= λ _. end) (makes_of g1)
    (makes_bind (λ _. stored p.types l here.bytes here.variables >>= λ _. opened here.variables >>= λ e. enters p l here e >>= λ _. body >>= λ _. end) (makes_of g2)
    (makes_bind (λ _. opened here.variables >>= λ e. enters p l here e >>= λ _. body >>= λ _. end) (makes_of g3)
    (makes_bind (λ e. enters p l here e >>= λ _. body >>= λ _. end) (makes_of g4)
    (makes_bind (λ _. body >>= λ _. end) entered
    (makes_bind (λ _. end) (makes_steps s) (makes_of g5))))))
