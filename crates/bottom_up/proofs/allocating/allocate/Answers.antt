use Rattle.std.proofs.Common.{◌≡◌, ℕ, List, Option, ◌∙◌, ap, ap₂, sym, subst}
use Rattle.std.proofs.Math.Path.{fun_ext}
use Rattle.trace_needs.specs.Needs.{last_mention}
use Rattle.loc_back.specs.Steps.{started, closed}
use Rattle.linear_scan.specs.Linear.{Case}
use Rattle.linear_scan.specs.Inputs.{case_of}
use Rattle.bottom_up.specs.Bottom.{homed_first, along, walked_back, result_of, mention_in}
use Rattle.lir_core.specs.Sound.{EndsRise}
use Rattle.walked_results.specs.Walked.{IsWalked}
use Rattle.walked_results.proofs.Sounds.{result_sound}
use Rattle.bottom_up.proofs.Traces.{bottom_walked}
use Rattle.bottom_up.proofs.allocating.allocate.Goals as goal

module _ (c : goal.Joined-positions-5) where
  x : Case
  x = case_of c.args.t.now

  ns : List ℕ
  ns = c.args.t.now.trace.now.nodes

  said : ℕ → ℕ → Option ℕ
  said = last_mention c.new-positions.result

  made : c.finish.result ≡ result_of c.args.t.now.number (walked_back x said ns)
  unfolding x ns said
  made =
      let start : c.in_ok-b.b ≡ started (homed_first x ns) x.regs = c.in_ok-b.ensures.step ∙ ap (λ hs. started hs x.regs) (c.as_slice.ensures.value ∙ c.in_ok-homed.ensures) in
      let walk : c.along.new.b ≡ along x said 0 ns (started (homed_first x ns) x.regs) = c.in_ok-along.ensures ∙ ap₂ (λ ks b. along x said 0 ks b) c.as_slice-2.ensures start in
      c.finish.ensures ∙ ap (result_of c.args.t.now.number) (c.in_ok-close.ensures.step ∙ ap (closed x.flow x.rows ns) walk)

  same : said ≡ mention_in x ns
  unfolding x ns said
  same = fun_ext (λ v. fun_ext (λ p. c.new-positions.ensures.last_mention x.rows v p))

pub returns-clause-bottom_up : goal.returns-clause-bottom_up
unfolding x ns said
returns-clause-bottom_up c given = made c ∙ ap (λ m. result_of c.args.t.now.number (walked_back (x c) m (ns c))) (same c)

pub returns-clause-walked : goal.returns-clause-walked
unfolding x ns said
returns-clause-walked c given = subst (IsWalked (x c).regs (x c).flow (record { nodes = ns c })) (sym (made c)) (bottom_walked (x c) (said c) (ns c) given c.args.t.now.number).0

pub returns-clause-sound : goal.returns-clause-sound
returns-clause-sound c given = result_sound _ _ _ _ (returns-clause-walked c given)

pub returns-clause-rises : goal.returns-clause-rises
unfolding x ns said
returns-clause-rises c given = subst EndsRise (sym (made c)) (bottom_walked (x c) (said c) (ns c) given c.args.t.now.number).1
