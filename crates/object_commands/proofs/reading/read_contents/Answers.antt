use Rattle.std.proofs.Common.{ℕ, List, [], Bor, get_or, map, refl, ◌∙◌, subst, arith}
use Rattle.trc_answers.proofs.Texts.{err_as}
use Rattle.object_commands.specs.Reading.{AreUnread, IsContentHeld, IsUnreadAt}
use Rattle.object_commands.proofs.Files.{read_further, unread_further}
use Rattle.object_commands.proofs.reading.read_contents.Goals as goal

abbrev nowhere : Bor (List ℕ)
nowhere = record { ref_ptr = (0, 0); now = [] }

pub loop-place-preserved : goal.loop-place-preserved
loop-place-preserved g c =
    let same = c.loop-place.invariant.stays in
    let rises = c.loop-place.invariant.rises in
    let more = c.in_ok-content.ensures.rises in
    let names = c.args.names.now in
    let i = c.loop-place.place in
    record {
      end = refl;
      few = c.loop-place.invariant.few;
      stays = c.in_ok-content.ensures.stays ∙ same;
      rises = omega (arith, rises, more);
      read = read_further _ names i nowhere c.loop-place-test.true c.loop-place.read c.in_ok-read.read c.in_ok-content.content
          c.loop-place.invariant.read (subst (λ held. IsContentHeld held (get_or names i nowhere).now c.in_ok-content.content) same c.in_ok-content.ensures.content) c.in_ok-read.ensures.is;
    }

pub returns-in_err-content-clause-fault : goal.returns-in_err-content-clause-fault
returns-in_err-content-clause-fault g c =
    let names = c.args.names.now in
    let i = c.loop-place.place in
    let before = g.F.Files.faults c.loop-place.files in
    let after = g.F.Files.faults c.read_content.new.files in
    err_as c.from_residual.result c.in_err-content.field-0.0 (λ cause. AreUnread (g.F.Files.held c.args.files.now) (map (λ n. n.now) names) (g.F.Files.faults c.args.files.now) after cause)
    c.from_residual.ensures.1
    (unread_further (g.F.Files.held c.args.files.now) names i nowhere c.loop-place-test.true c.loop-place.read (g.F.Files.faults c.args.files.now) before after c.in_err-content.field-0.0
    c.loop-place.invariant.read c.loop-place.invariant.rises
    (subst (λ held. IsUnreadAt held i (get_or names i nowhere).now before after c.in_err-content.field-0.0) c.loop-place.invariant.stays c.in_err-content.ensures.fault))
