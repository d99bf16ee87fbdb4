-- A string is there up to the last of the constants' ones.
use Rattle.std.proofs.Common.{◌≡◌, ℕ, ◌-◌, ◌<◌, ◌≤◌, List, [], ◌∷◌, ◌++◌, map, length, length-append, true, false, arith, sym, ap, ◌∙◌, ◌⊎◌, inl, inr}
use Rattle.std.specs.Prelude.{slice_get, is_some, nat_le}
use Rattle.std.proofs.lemmas.Bool.Decides.{nat_tests}
use Rattle.std.proofs.lemmas.List.{length-map}
use Rattle.std.proofs.lemmas.Option.{slice_get-get_or, slice_get_past}
use Rattle.ob_types.proofs.Tests.{less_or_past}
use Rattle.check_operands.specs.Operands.{between_quotes}
use Rattle.check_procedures.proofs.numbers.numbers.is_text.Goals as goal

-- so many strings of symbols, then none, then those of constants
decided : (own more : List (List ℕ)) (count n : ℕ) → length own ≡ count → nat_le (n - count) (length more) ≡ is_some (slice_get (own ++ [] ∷ more) n)
decided own more count n same = by (less_or_past n (length (own ++ [] ∷ more)))
  where
    by : (n < length (own ++ [] ∷ more)) ⊎ (length (own ++ [] ∷ more) ≤ n) → nat_le (n - count) (length more) ≡ is_some (slice_get (own ++ [] ∷ more) n)
    by (inl l) =
        let within : n - count ≤ length more = omega (arith, same, l, length-append own ([] ∷ more)) in
        let e : nat_le (n - count) (length more) ≡ true = grind (arith, nat_tests, within) in
        e ∙ sym (ap is_some (slice_get-get_or (own ++ [] ∷ more) n [] l))
    by (inr l) =
        let past : length more < n - count = omega (arith, same, l, length-append own ([] ∷ more)) in
        let e : nat_le (n - count) (length more) ≡ false = grind (arith, nat_tests, past) in
        e ∙ sym (ap is_some (slice_get_past (own ++ [] ∷ more) n l))

pub returns : goal.returns
returns c =
    let s = c.args.scope.now in
    ap (λ k. nat_le k (length s.strings.now)) c.saturating_sub.ensures
    ∙ decided (map (between_quotes s.source.now.bytes) s.source.now.symbols) s.strings.now c.count-before.result c.args.number
    (length-map s.source.now.symbols (between_quotes s.source.now.bytes) ∙ sym c.count-before.ensures)
