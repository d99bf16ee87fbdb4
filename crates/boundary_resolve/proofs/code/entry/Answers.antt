use Rattle.std.proofs.Common.{ℕ, Option, Some, List, [], ◌∷◌, ◌++◌, ap, sym, ◌∙◌, map, arith, ◌≡◌, ◌+◌}
use Rattle.std.proofs.lemmas.List.{map-append}
use Rattle.run_laws.specs.Layers.{places_from}
use Rattle.boundary_resolve.proofs.Laid.{places_more}
use Rattle.boundary_resolve.proofs.code.entry.Goals as goal

pub loop-number-preserved : goal.loop-number-preserved
loop-number-preserved c =
    let n = c.loop-number.number in
    let z : 0 + n ≡ n = omega arith in
    let more = places_more 0 n ∙ ap (λ m. places_from 0 n ++ m ∷ []) z in
    record {
      regs = c.in_ok-push.ensures.items ∙ ap (λ (x : List (Option ℕ)). x ++ Some n ∷ []) c.loop-number.invariant.regs ∙ sym (ap (map (λ (x : ℕ). Some x)) more ∙ map-append (λ (x : ℕ). Some x) (places_from 0 n) (n ∷ []));
      args = c.in_ok-push-2.ensures.items ∙ ap (λ (x : List ℕ). x ++ n ∷ []) c.loop-number.invariant.args ∙ sym more;
    }
