use Rattle.std.proofs.Common.{◌≡◌, ℕ, Bool, List, refl, ◌+◌, length, map, drop, subst, sym, ap, ◌∙◌, arith, rules}
use Rattle.std.proofs.lemmas.List.{length-map}
use Rattle.alloc_audit.specs.declared.verdict.Verdict.TheVariants.{Sound}
use Rattle.alloc_audit.specs.Results.{IsLive, AreLive}
use Rattle.alloc_audit.specs.Verdicts.{verdict_from, grounds_of_flows}
use Rattle.alloc_audit.specs.Parts.{or_else, TellsAll}
use Rattle.alloc_audit.proofs.Verdicts.{flow_audited, none_audited, all_audited, item_of, known_more, not_sound, sound_walked}
use Rattle.alloc_audit.proofs.auditing.audit.Goals as goal

pub loop-at-init : goal.loop-at-init
loop-at-init c = record { rest = λ lives al. refl; known = tt }

pub returns-in-Some-clause-verdict : goal.returns-in-Some-clause-verdict
returns-in-Some-clause-verdict c = λ lives al.
    let k = c.args.regs in
    let i = c.loop-at.at in
    let f = c.index-flows-at.result in
    let ts = c.index-cuts-at.result.items in
    let cuts = map (λ x. x.items) c.args.cuts.now in
    let many = length-map c.args.cuts.now (λ x. x.items) in
    let found = subst (λ xs. (live : ℕ → ℕ → Bool) → IsLive f live → TellsAll k f live c.loop-at.number xs c.args.outs.now c.in_ok-verdict.field-0) c.as_slice-traces.ensures.value c.in_ok-verdict.ensures.told in
    let step = flow_audited k c.args.flows.now lives cuts c.args.outs.now i c.loop-at.number f ts c.in_ok-verdict.field-0 c.loop-at-test.true c.index-flows-at.is (omega (arith, many, c.loop-at-test.true, c.requires.cuts)) (item_of (λ x. x.items) c.args.cuts.now i c.index-cuts-at.result c.index-cuts-at.is) al found in
    let behind = verdict_from (c.loop-at.number + length ts) (grounds_of_flows k (drop (i + 1) c.args.flows.now) (drop (i + 1) lives) (drop (i + 1) cuts)) (drop (c.loop-at.number + length ts) c.args.outs.now) in
    sym (c.loop-at.invariant.rest lives al ∙ step ∙ ap (λ o. or_else o behind) c.in-Some.is)

pub returns-in-Some-clause-sound : goal.returns-in-Some-clause-sound
returns-in-Some-clause-sound c = λ valid sound. absurd (not_sound c.in_ok-verdict.field-0 c.in-Some.verdict c.in-Some.is c.in_ok-verdict.ensures.failure sound)

pub loop-at-preserved : goal.loop-at-preserved
loop-at-preserved c = record {
  rest = λ lives al.
      let k = c.args.regs in
      let i = c.loop-at.at in
      let f = c.index-flows-at.result in
      let ts = c.index-cuts-at.result.items in
      let cuts = map (λ x. x.items) c.args.cuts.now in
      let many = length-map c.args.cuts.now (λ x. x.items) in
      let found = subst (λ xs. (live : ℕ → ℕ → Bool) → IsLive f live → TellsAll k f live c.loop-at.number xs c.args.outs.now c.in_ok-verdict.field-0) c.as_slice-traces.ensures.value c.in_ok-verdict.ensures.told in
      let step = flow_audited k c.args.flows.now lives cuts c.args.outs.now i c.loop-at.number f ts c.in_ok-verdict.field-0 c.loop-at-test.true c.index-flows-at.is (omega (arith, many, c.loop-at-test.true, c.requires.cuts)) (item_of (λ x. x.items) c.args.cuts.now i c.index-cuts-at.result c.index-cuts-at.is) al found in
      let behind = verdict_from (c.loop-at.number + length ts) (grounds_of_flows k (drop (i + 1) c.args.flows.now) (drop (i + 1) lives) (drop (i + 1) cuts)) (drop (c.loop-at.number + length ts) c.args.outs.now) in
      let n : c.in_ok-number.number ≡ c.loop-at.number + length c.as_slice-traces.result.now = search rules in
      let m : c.loop-at.number + length ts ≡ c.in_ok-number.number = ap (λ xs. c.loop-at.number + length xs) (sym c.as_slice-traces.ensures.value) ∙ sym n in
      c.loop-at.invariant.rest lives al ∙ step ∙ ap (λ o. or_else o behind) c.in_default.is
      ∙ ap (λ x. verdict_from x (grounds_of_flows k (drop (i + 1) c.args.flows.now) (drop (i + 1) lives) (drop (i + 1) cuts)) (drop x c.args.outs.now)) m;
  known = known_more c.args.flows.now c.loop-at.at c.index-flows-at.result c.loop-at-test.true c.index-flows-at.is c.loop-at.invariant.known c.in_ok-verdict.ensures.known;
}

pub returns-then-number-outs-clause-verdict : goal.returns-then-number-outs-clause-verdict
returns-then-number-outs-clause-verdict c = λ lives al.
    c.in_ok-behind.ensures ∙ sym (c.loop-at.invariant.rest lives al
    ∙ none_audited c.args.regs c.args.flows.now (drop c.loop-at.at lives) (drop c.loop-at.at (map (λ c'. c'.items) c.args.cuts.now)) c.args.outs.now c.loop-at.at c.loop-at.number (omega (arith, c.loop-at-test.false)) c.if-number-outs.true)

pub returns-then-number-outs-clause-sound : goal.returns-then-number-outs-clause-sound
returns-then-number-outs-clause-sound c = λ valid sound. absurd (let e = c.in_ok-behind.ensures in cc)

pub returns-clause-sound : goal.returns-clause-sound
returns-clause-sound c = λ valid sound.
    let k = c.args.regs in
    let fs = c.args.flows.now in
    let cuts = map (λ x. x.items) c.args.cuts.now in
    let i = c.loop-at.at in
    let is = λ (lives : List (ℕ → ℕ → Bool)) (al : AreLive fs lives). sym (c.loop-at.invariant.rest lives al ∙ all_audited k fs (drop i lives) (drop i cuts) c.args.outs.now i c.loop-at.number c.loop-at-test.false c.if-number-outs.false) in
    sound_walked k fs cuts c.args.outs.now i Sound c.loop-at-test.false c.loop-at.invariant.known is valid sound
