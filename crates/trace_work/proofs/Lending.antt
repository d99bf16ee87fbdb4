-- Final results of a plan's traces, one more, and the hints that they lend.
use Rattle.std.proofs.Common.{◌≡◌, ℕ, suc, ◌<◌, ◌≤◌, ◌⊎◌, inl, inr, List, [], ◌∷◌, ◌++◌, length, get_or, Option, Some, None, sym, ◌∙◌, subst, arith, length-append}
use Rattle.std.proofs.lemmas.Bool.{cases_lt}
use Rattle.std.proofs.lemmas.List.{get_or_push, get_or_append_left}
use Rattle.std.proofs.lemmas.Option.{slice_get-get_or}
use Rattle.lir_core.specs.declared.places.TraceOut.{TraceOut}
use Rattle.linear_scan.specs.Linear.{Hint}
use Rattle.alloc_choice.specs.declared.choice.Choice.{Choice}
use Rattle.alloc_choice.specs.Choice.{IsFitChoice}
use Rattle.alloc_choice.specs.Results.{no_out, out_at}
use Rattle.trace_work.specs.declared.planning.TracePlan.{TracePlan}
use Rattle.trace_work.specs.Plans.{table_hint, AreFinalsTo, IsFinal, IsHint, IsOrdered, IsPlan}
use Rattle.trace_work.proofs.Ready.{child_hint, root_hint}

module _ (choice : Choice) (p : TracePlan) where
  pub no_finals : (outs : List TraceOut) → length outs ≡ 0 → AreFinalsTo choice p 0 outs
  no_finals outs e = record { count = e; each = λ t lt. absurd (omega (arith, lt)) }

  pub finals_more : (n m : ℕ) (outs outs' : List TraceOut) (out : TraceOut) → AreFinalsTo choice p n outs → IsFinal choice p n out → outs' ≡ outs ++ out ∷ [] → m ≡ suc n → AreFinalsTo choice p m outs'
  finals_more n m outs outs' out finals final e next = subst (AreFinalsTo choice p m) (sym e) (record { count = long; each = λ t lt. at t lt (cases_lt t n) })
    where
      long : length (outs ++ out ∷ []) ≡ m
      long = let l = length-append outs (out ∷ []) in let c = finals.count in omega (arith, l, c, next)

      at : (t : ℕ) → t < m → ◌⊎◌ (t < n) (n ≤ t) → IsFinal choice p t (out_at (outs ++ out ∷ []) t)
      at t lt (inl below) = let c = finals.count in subst (IsFinal choice p t) (sym (get_or_append_left outs (out ∷ []) no_out t (omega (arith, below, c)))) (finals.each t below)
      at t lt (inr over) =
          let c = finals.count in
          let last : n ≡ t = omega (arith, lt, over, next) in
          subst (IsFinal choice p t) (sym (get_or_push outs out no_out t (omega (arith, last, c)))) (subst (λ k. IsFinal choice p k out) last final)

  ---- The hint of a trace behind final results

  module _ (fit : IsFitChoice choice) (ordered : IsOrdered p) (t : ℕ) (within : t < length p.traces) (outs : List TraceOut) where
    -- that of the trace above it
    pub lent_hint : (above : ℕ) (done : TraceOut) (hint : Option Hint) → get_or p.parents t None ≡ Some above → length outs ≡ t → done ≡ get_or outs above done → hint ≡ table_hint choice p done above t
        → IsPlan choice.builder p → AreFinalsTo choice p t outs → IsHint choice p t hint
    lent_hint above done hint known long is given planned finals =
        let lower : above < t = ordered.1 t above known in
        let there : above < length outs = omega (arith, lower, long) in
        let same : Some (out_at outs above) ≡ Some (get_or outs above done) = sym (slice_get-get_or outs above no_out there) ∙ slice_get-get_or outs above done there in
        let one : out_at outs above ≡ get_or outs above done = cc in
        child_hint choice p t above done hint planned fit.enough within known lower (subst (IsFinal choice p above) (one ∙ sym is) (finals.each above lower)) given

    -- none, of a trace without one
    pub no_hint : get_or p.parents t None ≡ None → IsPlan choice.builder p → IsHint choice p t None
    no_hint none planned = root_hint choice p t planned fit.enough within none
