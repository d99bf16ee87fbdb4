use Rattle.std.proofs.Common.{ℕ, List, [], Bor, get_or, map, refl, ◌∙◌, subst, arith}
use Rattle.trc_answers.specs.Reading.{IsRead, IsUnread, IsUnreadAt}
use Rattle.trc_answers.proofs.Texts.{err_as, read_further, unread_further}
use Rattle.trc_answers.proofs.reading.read_texts.Goals as goal

abbrev nowhere : Bor (List ℕ)
nowhere = record { ref_ptr = (0, 0); now = [] }

pub loop-place-preserved : goal.loop-place-preserved
loop-place-preserved g c =
    let same = c.loop-place.invariant.stays in
    let rises = c.loop-place.invariant.rises in
    let more = c.in_ok-text.ensures.rises in
    let names = c.args.names.now in
    let i = c.loop-place.place in
    record {
      end = refl;
      few = c.loop-place.invariant.few;
      stays = c.in_ok-text.ensures.stays ∙ same;
      rises = omega (arith, rises, more);
      read = read_further _ names i nowhere c.loop-place.texts.items c.push.new.self.items c.in_ok-text.text c.loop-place-test.true
          c.loop-place.invariant.read (subst (λ held. IsRead held (get_or names i nowhere).now c.in_ok-text.text) same c.in_ok-text.ensures.text) c.in-Ok.ensures.items;
    }

pub returns-in_err-text-clause-fault : goal.returns-in_err-text-clause-fault
returns-in_err-text-clause-fault g c =
    let names = c.args.names.now in
    let i = c.loop-place.place in
    let before = g.F.Files.faults c.loop-place.files in
    let after = g.F.Files.faults c.read_text.new.files in
    err_as c.from_residual.result c.in_err-text.field-0.0 (λ cause. IsUnread (g.F.Files.held c.args.files.now) (map (λ n. n.now) names) (g.F.Files.faults c.args.files.now) after cause)
    c.from_residual.ensures.1
    (unread_further (g.F.Files.held c.args.files.now) names i nowhere c.loop-place.texts.items (g.F.Files.faults c.args.files.now) before after c.in_err-text.field-0.0
    c.loop-place-test.true c.loop-place.invariant.few c.loop-place.invariant.read c.loop-place.invariant.rises
    (subst (λ held. IsUnreadAt held i (get_or names i nowhere).now before after c.in_err-text.field-0.0) c.loop-place.invariant.stays c.in_err-text.ensures.fault))
