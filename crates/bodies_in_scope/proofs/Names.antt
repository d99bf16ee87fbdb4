-- Scopes in which a name is declared, and names but for those of later procedures.
use Rattle.std.proofs.Common.{◌≡◌, ℕ, suc, ◌<◌, ◌≤◌, List, [], ◌∷◌, ◌++◌, Bool, true, false, Option, Some, None, refl, ap, sym, ◌∙◌, subst, arith}
use Rattle.std.proofs.lemmas.Bool.Decides.{nat_tests}
use Rattle.std.proofs.lemmas.Slice.Eq.{bytes_eq-Decides}
use Rattle.std.specs.Prelude.{if◌then◌else◌}
use Rattle.std.specs.Str.{bytes_eq}
use Rattle.ob_types.proofs.Tests.{none_some, some_same}
use Rattle.ob_judge.specs.Shapes.{Shape}
use Rattle.ob_judge.specs.Scopes.{Object, AConstant, AProcedure, Entry, declare, no_names}
use Rattle.ob_judge.specs.Making.{declare_last, declare_outer, without_last}
use Rattle.check_types.specs.names.Before.{is_behind, unless_behind, names_before}
use Rattle.bodies_in_scope.specs.Below.{AreBelow, IsNoProcedure, IsOfProcedure}
use mathlib.Core.Path.{fun_ext}

-- ---- the innermost scope, and the one round it

pub declared_last : (name : List ℕ) (e : Entry) (ls : List (List ℕ → Option Entry)) (k : List ℕ → Option Entry) → declare_last name e (ls ++ k ∷ []) ≡ ls ++ declare name e k ∷ []
declared_last name e [] k = refl
declared_last name e (l ∷ []) k = refl
declared_last name e (l ∷ m ∷ ls) k = ap (λ xs. l ∷ xs) (declared_last name e (m ∷ ls) k)

pub declared_outer : (name : List ℕ) (e : Entry) (ls : List (List ℕ → Option Entry)) (k own : List ℕ → Option Entry) → declare_outer name e (ls ++ k ∷ own ∷ []) ≡ ls ++ declare name e k ∷ own ∷ []
declared_outer name e [] k own = refl
declared_outer name e (l ∷ []) k own = refl
declared_outer name e (l ∷ m ∷ []) k own = ap (λ xs. l ∷ xs) (declared_outer name e (m ∷ []) k own)
declared_outer name e (l ∷ m ∷ n ∷ ls) k own = ap (λ xs. l ∷ xs) (declared_outer name e (m ∷ n ∷ ls) k own)

pub last_gone : (ls : List (List ℕ → Option Entry)) (k : List ℕ → Option Entry) → without_last (ls ++ k ∷ []) ≡ ls
last_gone [] k = refl
last_gone (l ∷ []) k = refl
last_gone (l ∷ m ∷ ls) k = ap (λ xs. l ∷ xs) (last_gone (m ∷ ls) k)

-- ---- procedures below a number

pub none_below : (n : ℕ) → AreBelow n no_names
none_below n = record { below = λ q x f s is_local at object. none_some x at }

pub more_below : (n m : ℕ) (k : List ℕ → Option Entry) → n ≤ m → AreBelow n k → AreBelow m k
more_below n m k more h = record { below = λ q x f s is_local at object. let l = h.below q x f s is_local at object in omega (arith, l, more) }

-- what holds of a name that is declared, and of the others
declared_name : (P : Entry → Type 0) (name : List ℕ) (e : Entry) (k : List ℕ → Option Entry) (q : List ℕ) (x : Entry) → declare name e k q ≡ Some x → P e → (k q ≡ Some x → P x) → P x
declared_name P name e k q x at one other = by (bytes_eq name q) at
  where
    by : (b : Bool) → (if b then Some e else k q) ≡ Some x → P x
    by true i = subst P (some_same e x i) one
    by false i = other i

procedure_number : (f g : ℕ) (s t : Shape) (b c : Bool) → AProcedure f s b ≡ AProcedure g t c → f ≡ g
procedure_number f g s t b c h = cc

pub procedure_below : (n f : ℕ) (name : List ℕ) (e : Entry) (k : List ℕ → Option Entry) → n ≤ f → IsOfProcedure f e → AreBelow n k → AreBelow (suc f) (declare name e k)
procedure_below n f name e k past of h = record {
  below = λ q x g s is_local at object. declared_name (λ y. y.object ≡ AProcedure g s is_local → g < suc f) name e k q x at
      (λ i. let same = procedure_number f g of.shape s of.is_local is_local (sym of.object ∙ i) in omega (arith, same))
      (λ at2 i. let l = h.below q x g s is_local at2 i in omega (arith, l, past)) object;
}

no_procedure_is : (o : Object) (f : ℕ) (s : Shape) (b : Bool) → IsNoProcedure o → o ≡ AProcedure f s b → ⊥
no_procedure_is o f s b h is = subst IsNoProcedure is h

pub other_below : (n : ℕ) (name : List ℕ) (e : Entry) (k : List ℕ → Option Entry) → IsNoProcedure e.object → AreBelow n k → AreBelow n (declare name e k)
other_below n name e k other h = record {
  below = λ q x g s is_local at object. declared_name (λ y. y.object ≡ AProcedure g s is_local → g < n) name e k q x at
      (λ i. absurd (no_procedure_is e.object g s is_local other i))
      (λ at2 i. h.below q x g s is_local at2 i) object;
}

-- ---- names but for later procedures

not_behind : (n : ℕ) (o : Object) → ((f : ℕ) (s : Shape) (is_local : Bool) → o ≡ AProcedure f s is_local → f < n) → is_behind n o ≡ false
not_behind n (AProcedure f s is_local) h = let l = h f s is_local refl in grind (arith, nat_tests, l)
not_behind n (AConstant c) h = refl
not_behind n _ h = refl

pub before_same : (n : ℕ) (k : List ℕ → Option Entry) → AreBelow n k → names_before n k ≡ k
before_same n k h = fun_ext (λ q. by q (k q) refl)
  where
    by : (q : List ℕ) (o : Option Entry) → k q ≡ o → unless_behind n o ≡ o
    by q None at = refl
    by q (Some x) at = ap (λ b. if b then None else Some x) (not_behind n x.object (λ f s is_local i. h.below q x f s is_local at i))

pub before_declared : (count f : ℕ) (name : List ℕ) (e : Entry) (k : List ℕ → Option Entry) → count ≤ f → IsOfProcedure f e → k name ≡ None → names_before count (declare name e k) ≡ names_before count k
before_declared count f name e k past of new = fun_ext (λ q. by q (bytes_eq name q) refl)
  where
    behind : is_behind count (AProcedure f of.shape of.is_local) ≡ true
    behind = grind (arith, nat_tests, past)

    by : (q : List ℕ) (b : Bool) → bytes_eq name q ≡ b → unless_behind count (if b then Some e else k q) ≡ unless_behind count (k q)
    by q true at =
        ap (λ b. if b then None else Some e) (ap (is_behind count) of.object ∙ behind)
        ∙ sym (ap (unless_behind count) (ap k (sym ((bytes_eq-Decides name q).0 at)) ∙ new))
    by q false at = refl
