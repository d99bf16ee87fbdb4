use Rattle.std.proofs.Common.{◌-◌, ◌<◌, length, take, refl, sym, subst, arith}
use Rattle.std.proofs.lemmas.Option.{slice_get_read}
use Rattle.ssa_exprs.specs.Walk.{linked_in}
use Rattle.ssa_exprs.specs.Steps.{Leads}
use Rattle.ssa_exprs.proofs.Chains.{no_links, all_links, last_link}
use Rattle.ssa_exprs.proofs.Planning.{leads_none}
use Rattle.ssa_exprs.proofs.steps.planned.Goals as goal

pub loop-i-init : goal.loop-i-init
loop-i-init c = record {
  few = omega arith;
  led = λ p here x.
      let ks = c.args.links.now in
      subst (λ z. Leads p here ks c.new-steps.result.items c.args.wanted c.args.b.now z c.args.wanted c.args.b.now (linked_in p here ks x)) (sym (all_links p here ks x))
      (leads_none p here ks c.new-steps.result.items c.args.wanted c.args.b.now (linked_in p here ks x) c.new-steps.ensures.items);
}

pub loop-i-preserved : goal.loop-i-preserved
loop-i-preserved c = record {
  few = omega arith;
  led = λ p here x.
      let ks = c.args.links.now in
      let n = c.loop-i.i in
      let k = c.index-links-i.result in
      let lt : n - 1 < length ks = omega (arith, c.loop-i.invariant.few, c.loop-i-test.true) in
      c.in_ok-first.ensures p here ks (linked_in p here (take (n - 1) ks) x) (linked_in p here ks x) c.args.wanted c.args.b.now
      (slice_get_read ks (length ks) (n - 1) k refl lt c.index-links-i.is)
      (subst (λ z. Leads p here ks c.loop-i.steps.items c.loop-i.first c.loop-i.b z c.args.wanted c.args.b.now (linked_in p here ks x)) (last_link p here ks n k x c.loop-i-test.true lt c.index-links-i.is)
      (c.loop-i.invariant.led p here x));
}

pub returns : goal.returns
returns c = λ p here x.
    let ks = c.args.links.now in
    subst (λ z. Leads p here ks c.loop-i.steps.items c.loop-i.first c.loop-i.b z c.args.wanted c.args.b.now (linked_in p here ks x)) (no_links p here ks c.loop-i.i x c.loop-i-test.false)
    (c.loop-i.invariant.led p here x)
