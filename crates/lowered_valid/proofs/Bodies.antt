-- A module's body takes no argument words.
use Rattle.std.proofs.Common.{◌≡◌, inl, inr, ℕ, zero, suc, ◌+◌, ◌<◌, List, [], ◌∷◌, map, length, Bool, true, false, not, ◌&&◌, refl, sym, ap, ◌∙◌, subst, arith}
use Rattle.std.specs.Prelude.{if◌then◌else◌, slice_index_or, nat_lt}
use Rattle.ob_types.specs.Forms.{all}
use Rattle.ob_types.specs.LegalTypes.{is_no_kind}
use Rattle.ob_types.specs.Layout.{kind_of}
use Rattle.ob_types.specs.Meaning.{procedure_of, no_procedure}
use Rattle.ob_types.specs.WellFormed.{bodies_among, is_empty, module_fine, no_answer}
use Rattle.ob_types.specs.declared.types.Formal.{Formal}
use Rattle.ob_types.specs.declared.program.Module.{Module}
use Rattle.ob_types.specs.declared.program.Procedure.{Procedure}
use Rattle.ob_types.specs.declared.program.Program.{Program}
use Rattle.ob_types.proofs.Tests.{no, and_of}
use Rattle.ob_types.proofs.WellFormedParts.{Parts}
use Rattle.lowered_valid.specs.Contents.{IsBare}
use Rattle.ssa_lowered.specs.Data.{Layout}
use Rattle.ssa_lowered.specs.Variables.{words_of}
use Rattle.ssa_lowered.specs.Lowered.{proc_of}
use Rattle.lowered_valid.proofs.Lists.{In}

-- a procedure that is marked is among the bodies
marked_in : (f i : ℕ) (qs : List Procedure) → i < length qs → (slice_index_or qs i no_procedure).is_body ≡ true → In (i + f) (bodies_among f qs)
marked_in f i [] l h = absurd (omega (arith, l))
marked_in f zero (q ∷ qs) l h = by q.is_body h
  where
    by : (b : Bool) → b ≡ true → In (0 + f) (if b then f ∷ bodies_among (suc f) qs else bodies_among (suc f) qs)
    by true h = inl (omega arith)
    by false h = no h
marked_in f (suc i) (q ∷ qs) l h = by q.is_body (subst (λ n. In n (bodies_among (suc f) qs)) (omega arith) (marked_in (suc f) i qs (omega (arith, l)) h))
  where
    by : (b : Bool) → In (suc i + f) (bodies_among (suc f) qs) → In (suc i + f) (if b then f ∷ bodies_among (suc f) qs else bodies_among (suc f) qs)
    by true i = inr i
    by false i = i

module _ (p : Program) (parts : Parts p) where
  bare : (m : Module) → module_fine p m ≡ true → (procedure_of p m.body).formals ≡ []
  bare m h =
      let q = procedure_of p m.body in
      let a = and_of (nat_lt m.body (length p.procedures) && q.is_body) ((is_empty q.formals && is_empty q.locals) && (is_no_kind (kind_of p.types q.result) && no_answer q.answer)) h in
      let b = and_of (is_empty q.formals && is_empty q.locals) (is_no_kind (kind_of p.types q.result) && no_answer q.answer) a.1 in
      none_of q.formals (and_of (is_empty q.formals) (is_empty q.locals) b.0).0
    where
      none_of : (xs : List Formal) → is_empty xs ≡ true → xs ≡ []
      none_of [] h = refl
      none_of (x ∷ xs) h = no h

  bare_among : (ms : List Module) → all (module_fine p) ms ≡ true → (f : ℕ) → In f (map (λ m. m.body) ms) → (procedure_of p f).formals ≡ []
  bare_among [] h f i = absurd i
  bare_among (m ∷ ms) h f (inl e) = ap (λ n. (procedure_of p n).formals) e ∙ bare m (and_of (module_fine p m) (all (module_fine p) ms) h).0
  bare_among (m ∷ ms) h f (inr j) = bare_among ms (and_of (module_fine p m) (all (module_fine p) ms) h).1 f j

  marked : (b : Bool) → not b ≡ false → b ≡ true
  marked true h = refl
  marked false h = no (sym h)

  pub bodies_bare : (l : Layout) (f : ℕ) (q : Procedure) → procedure_of p f ≡ q → f < length p.procedures → IsBare (proc_of p l f q)
  bodies_bare l f q at there h =
      let body : (procedure_of p f).is_body ≡ true = ap (λ (z : Procedure). z.is_body) at ∙ marked q.is_body h in
      let among : In f (map (λ m. m.body) p.modules) = subst (λ ns. In f ns) parts.order (subst (λ n. In n (bodies_among 0 p.procedures)) (omega arith) (marked_in 0 f p.procedures there body)) in
      let formals : q.formals ≡ [] = ap (λ (z : Procedure). z.formals) (sym at) ∙ bare_among p.modules parts.modules f among in
      ap words_of formals
