-- What a part of the judgement leaves as it was: it only adds record types, pointer types, procedures and variables.
use Rattle.std.proofs.Common.{◌≡◌, ℕ, ◌<◌, ◌≤◌, length, Bool, true, false, Option, Some, None, refl, ap, ◌∙◌, subst, arith, sym}
use Rattle.std.specs.Prelude.{slice_get}
use Rattle.ob_judge.specs.Judged.{Judged, Keeps, Breaks, ◌>>=◌, ◌>>◌, rule, some}
use Rattle.ob_judge.specs.Shapes.{Shape}
use Rattle.ob_judge.specs.Scopes.{World}
use Rattle.ob_judge.specs.Making.{Making, Part, ◌>>>◌, give, here, become, ask}
use Rattle.judged_modules.specs.Lines.{AllLines}
use Rattle.judged_modules.specs.Agrees.{records_of, bases_of}

-- ---- what a part that keeps its rules went through

pub kept_same : {A : Type 0} (a b : A) → Keeps a ≡ Keeps b → a ≡ b
kept_same a b h = cc

pub broken : {A X : Type 0} (n at : ℕ) (a : A) → Breaks n at ≡ Keeps a → X
broken {A = A} n at a h = absurd (bad h)
  where
    bad : Breaks n at ≡ Keeps a → ⊥
    bad h = cc

pub bound : {A B : Type 0} (m : Judged A) (f : A → Judged B) (b : B) → (m >>= f) ≡ Keeps b → (a : A) × (m ≡ Keeps a) × (f a ≡ Keeps b)
bound (Keeps a) f b h = (a, refl, h)
bound (Breaks n at) f b h = broken n at b h

pub ruled : {B : Type 0} (n at : ℕ) (c : Bool) (m : Judged B) (b : B) → (rule n at c >> m) ≡ Keeps b → (c ≡ true) × (m ≡ Keeps b)
ruled n at true m b h = (refl, h)
ruled n at false m b h = broken n at b h

pub ruled_last : (n at : ℕ) (c : Bool) (u : Unit {0}) → rule n at c ≡ Keeps u → c ≡ true
ruled_last n at true u h = refl
ruled_last n at false u h = broken n at u h

pub there_is : {A : Type 0} (n at : ℕ) (o : Option A) (a : A) → some n at o ≡ Keeps a → o ≡ Some a
there_is n at None a h = broken n at a h
there_is n at (Some x) a h = ap Some (kept_same x a h)

-- of a part of a scope
pub went : {A B : Type 0} (m : Part A) (f : A → Part B) (s t : Making) (b : B) → (m >>> f) s ≡ Keeps (b, t) → (a : A) × (u : Making) × (m s ≡ Keeps (a, u)) × (f a u ≡ Keeps (b, t))
went m f s t b h = let k = bound (m s) (λ r. f r.0 r.1) (b, t) h in ((k.0).0, (k.0).1, k.1, k.2)

pub went_here : {A : Type 0} (j : World → Judged A) (s t : Making) (a : A) → here j s ≡ Keeps (a, t) → (j s.world ≡ Keeps a) × (s ≡ t)
went_here j s t a h = let k = bound (j s.world) (λ x. Keeps (x, s)) (a, t) h in
    let e = kept_same (k.0, s) (a, t) k.2 in (k.1 ∙ ap Keeps (ap (λ r. r.0) e), ap (λ r. r.1) e)

-- ---- growth

pub record Grows (s t : Making) : Type 0 where
  pub records_more : length (records_of s) ≤ length (records_of t)
  pub records : (r : ℕ) → r < length (records_of s) → slice_get (records_of t) r ≡ slice_get (records_of s) r
  pub bases_more : length (bases_of s) ≤ length (bases_of t)
  pub bases : (n : ℕ) → n < length (bases_of s) → slice_get (bases_of t) n ≡ slice_get (bases_of s) n
  pub procedures_more : length s.procedures ≤ length t.procedures
  pub procedures : (f : ℕ) → f < length s.procedures → slice_get t.procedures f ≡ slice_get s.procedures f
  pub variables : (v : ℕ) (x : Shape) → slice_get s.variables v ≡ Some x → (t.values ≡ s.values) × (slice_get t.variables v ≡ Some x)
  pub procedure : t.world.procedure ≡ s.world.procedure
  pub module_number : t.world.module_number ≡ s.world.module_number
  pub lines : AllLines (records_of s) → AllLines (records_of t)

-- where none of it is touched
pub untouched : (s t : Making) → records_of t ≡ records_of s → bases_of t ≡ bases_of s → t.procedures ≡ s.procedures → t.variables ≡ s.variables → t.values ≡ s.values → t.world.procedure ≡ s.world.procedure → t.world.module_number ≡ s.world.module_number → Grows s t
untouched s t a b c d e f g = record {
  records_more = let l = ap length a in omega (arith, l);
  records = λ r l. ap (λ xs. slice_get xs r) a;
  bases_more = let l = ap length b in omega (arith, l);
  bases = λ n l. ap (λ xs. slice_get xs n) b;
  procedures_more = let l = ap length c in omega (arith, l);
  procedures = λ f l. ap (λ xs. slice_get xs f) c;
  variables = λ v x h. (e, ap (λ xs. slice_get xs v) d ∙ h);
  procedure = f;
  module_number = g;
  lines = λ h. subst AllLines (sym a) h;
}

pub self : (s : Making) → Grows s s
self s = untouched s s refl refl refl refl refl refl refl

pub onward : (s t u : Making) → Grows s t → Grows t u → Grows s u
onward s t u g h = record {
  records_more = let a = g.records_more in let b = h.records_more in omega (arith, a, b);
  records = λ r l. let a = g.records_more in h.records r (omega (arith, l, a)) ∙ g.records r l;
  bases_more = let a = g.bases_more in let b = h.bases_more in omega (arith, a, b);
  bases = λ n l. let a = g.bases_more in h.bases n (omega (arith, l, a)) ∙ g.bases n l;
  procedures_more = let a = g.procedures_more in let b = h.procedures_more in omega (arith, a, b);
  procedures = λ f l. let a = g.procedures_more in h.procedures f (omega (arith, l, a)) ∙ g.procedures f l;
  variables = λ v x k. let a = g.variables v x k in let b = h.variables v x a.1 in (b.0 ∙ a.0, b.1);
  procedure = h.procedure ∙ g.procedure;
  module_number = h.module_number ∙ g.module_number;
  lines = λ k. h.lines (g.lines k);
}

pub record Growing {A : Type 0} (m : Part A) : Type 0 where
  pub grows : (s t : Making) (a : A) → m s ≡ Keeps (a, t) → Grows s t

pub g_bind : {A B : Type 0} {m : Part A} {f : A → Part B} → Growing m → ((a : A) → Growing (f a)) → Growing (m >>> f)
g_bind {m = m} {f = f} g h = record {
  grows = λ s t b is. let k = went m f s t b is in onward s k.1 t (g.grows s k.1 k.0 k.2) ((h k.0).grows k.1 t b k.3);
}

pub g_give : {A : Type 0} (a : A) → Growing (give a)
g_give a = record { grows = λ s t b is. subst (Grows s) (ap (λ r. r.1) (kept_same (a, s) (b, t) is)) (self s) }

pub g_here : {A : Type 0} (j : World → Judged A) → Growing (here j)
g_here j = record { grows = λ s t b is. subst (Grows s) (went_here j s t b is).1 (self s) }

pub g_ask : {A : Type 0} (f : Making → A) → Growing (ask f)
g_ask f = record { grows = λ s t b is. subst (Grows s) (ap (λ r. r.1) (kept_same (f s, s) (b, t) is)) (self s) }

pub g_become : (f : Making → Making) → ((s : Making) → Grows s (f s)) → Growing (become f)
g_become f h = record { grows = λ s t b is. subst (Grows s) (ap (λ r. r.1) (kept_same (tt, f s) (b, t) is)) (h s) }
