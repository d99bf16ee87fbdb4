-- Instructions one after the other, each of which goes on behind itself, and the words of them that a machine passes.
use Rattle.std.proofs.Common.{◌≡◌, ℕ, suc, ◌+◌, List, [], ◌∷◌, ◌++◌, length, sym, ap, ◌∙◌, subst, arith, append_assoc}
use Rattle.run_laws.specs.Runs.{Moves}
use Rattle.run_laws.specs.Layers.{places_from}
use Rattle.wrapping_numbers.specs.Numbers.{add64}
use Rattle.a64_instr.specs.declared.instr.Instr.{Instr}
use Rattle.a64_machine.specs.State.{State, address_of}
use Rattle.a64_machine.specs.Effects.{effect}
use Rattle.a64_machine.proofs.Steps.{StandAll, Walks, walks-none, walks-is, walks-writing, next_pc}

-- from s the instructions write w and lead to t
abbrev pub Effects : List Instr → State → List ℕ → State → Type 0
Effects [] s w t = (t ≡ s) × (w ≡ [])
Effects (i ∷ is) s w t = (mid : State) × (now rest : List ℕ) × (effect i s ≡ Moves now mid) × (mid.pc ≡ add64 s.pc 4) × (w ≡ now ++ rest) × Effects is mid rest t

pub effects_append : (is js : List Instr) (s t u : State) (v w : List ℕ) → Effects is s v t → Effects js t w u → Effects (is ++ js) s (v ++ w) u
effects_append [] js s t u v w a b = subst (λ x. Effects js s (x ++ w) u) (sym a.1) (subst (λ x. Effects js x w u) a.0 b)
effects_append (i ∷ is) js s t u v w a b = (a.0, a.1, a.2 ++ w, a.3, a.4, ap (λ x. x ++ w) a.5 ∙ append_assoc a.1 a.2 w, effects_append is js a.0 t u a.2 w a.6 b)

-- a machine passes their words, and stands behind them
pub passes_all : (code : List ℕ) (is : List Instr) (k : ℕ) (s : State) (w : List ℕ) (t : State) → StandAll code k is → s.pc ≡ address_of k → Effects is s w t → Walks code s (places_from k (length is)) w t × (t.pc ≡ address_of (k + length is))
passes_all code [] k s w t stands here e =
    let z : k ≡ k + 0 = omega arith in
    (subst (λ x. Walks code s [] x t) (sym e.1) (walks-is (sym e.0) (walks-none code s)), ap (λ (x : State). x.pc) e.0 ∙ here ∙ ap address_of z)
passes_all code (i ∷ is) k s w t stands here e =
    let small = stands.0 in
    let one : k + 1 ≡ suc k = omega arith in
    let next : e.0.pc ≡ address_of (suc k) = e.4 ∙ ap (λ n. add64 n 4) here ∙ next_pc k (omega (arith, small)) ∙ ap address_of one in
    let rest = passes_all code is (suc k) e.0 e.2 t stands.2 next e.6 in
    let z : suc k + length is ≡ k + suc (length is) = omega arith in
    (subst (λ x. Walks code s (places_from k (length (i ∷ is))) x t) (sym e.5) (walks-writing k stands.1 s here e.3 rest.0), rest.1 ∙ ap address_of z)
