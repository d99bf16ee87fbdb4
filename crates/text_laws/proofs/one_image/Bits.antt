-- What is live in a flow is told by one set of bits.
use Rattle.std.proofs.Common.{◌≡◌, ℕ, Bool, true, false, List, refl, sym}
use Rattle.lir_core.specs.declared.flow.Flow.{Flow}
use Rattle.lir_core.specs.Rows.{has_bit}
use Rattle.global_live.specs.Reading.{HasLive}

one_answer : (a b : Bool) → (a ≡ true → b ≡ true) → (b ≡ true → a ≡ true) → a ≡ b
one_answer true b f g = sym (f refl)
one_answer false true f g = g refl
one_answer false false f g = refl

-- rows that have exactly what is live in a flow have the same bits
pub same_bits : (f : Flow) (rows others : List (List ℕ)) → HasLive f rows → HasLive f others → has_bit rows ≡ has_bit others
same_bits f rows others x y =
    let each : (n v : ℕ) → has_bit rows n v ≡ has_bit others n v = λ n v. one_answer (has_bit rows n v) (has_bit others n v) (λ h. y.whole n v (x.exact n v h)) (λ h. x.whole n v (y.exact n v h)) in
    λ k n v. each n v k
