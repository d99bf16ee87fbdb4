use Rattle.std.proofs.Common.{◌≡◌, ℕ, List, Option, ◌∙◌, ap, ap₂, sym}
use Rattle.std.specs.Prelude.{slice_get}
use Rattle.trace_needs.specs.Asked.{need_told}
use Rattle.loc_state.specs.Steps.{started}
use Rattle.walked_results.proofs.Sounds.{result_sound}
use Rattle.linear_scan.specs.Policy.{drop_all}
use Rattle.linear_scan.specs.Linear.{Case, Hint, first_start, along, result_of}
use Rattle.linear_scan.specs.Inputs.{case_of, hint_of, lent, IsInput}
use Rattle.linear_scan.proofs.Traces.{IsMade, made_linear, made_walked, made_rises}
use Rattle.linear_scan.proofs.allocating.allocate.Goals as goal

module _ (c : goal.After-drop-positions-inside-3) where
  x : Case
  x = case_of c.args.t.now

  ns : List ℕ
  ns = c.args.t.now.trace.now.nodes

  hint : Option Hint
  hint = hint_of c.args.t.now.from (lent c.args.hint)

  told : ℕ → ℕ → Option ℕ
  told = need_told c.in_ok-positions.positions

  made : IsInput x ns hint → IsMade x c.args.t.now.number ns hint told c.in-Some.head c.finish.result
  unfolding x ns hint told
  made given =
      let start : c.in_ok-fw.fw ≡ started (first_start x told c.in-Some.head hint) = c.in_ok-fw.ensures.step ∙ ap started c.in_ok-start.ensures.start in
      let walked : c.in_ok-fw-2.fw ≡ along x told (drop_all told) 0 c.as_slice-nodes.result.now c.in_ok-fw.fw = c.in_ok-fw-2.ensures in
      let done : c.finish.result ≡ result_of c.args.t.now.number c.in_ok-fw-2.fw = c.finish.ensures in
      let nodes : c.as_slice-nodes.result.now ≡ ns = c.as_slice-nodes.ensures in
      record {
        first = sym c.in-Some.is ∙ c.number_at.ensures ∙ ap (λ ks. slice_get ks 0) nodes;
        needs = λ v at. c.in_ok-positions.ensures.next_need given.valid v at;
        is = done ∙ ap (result_of c.args.t.now.number) (walked ∙ ap₂ (λ ks f. along x told (drop_all told) 0 ks f) nodes start);
      }

pub returns-clause-linear : goal.returns-clause-linear
unfolding x ns hint told
returns-clause-linear c given = made_linear (x c) c.args.t.now.number (ns c) (hint c) (told c) c.in-Some.head c.finish.result (made c given) given

pub returns-clause-walked : goal.returns-clause-walked
unfolding x ns hint told
returns-clause-walked c given = made_walked (x c) c.args.t.now.number (ns c) (hint c) (told c) c.in-Some.head c.finish.result (made c given) given

pub returns-clause-sound : goal.returns-clause-sound
returns-clause-sound c given = result_sound _ _ _ _ (returns-clause-walked c given)

pub returns-clause-rises : goal.returns-clause-rises
unfolding x ns hint told
returns-clause-rises c given = made_rises (x c) c.args.t.now.number (ns c) (hint c) (told c) c.in-Some.head c.finish.result (made c given) given
