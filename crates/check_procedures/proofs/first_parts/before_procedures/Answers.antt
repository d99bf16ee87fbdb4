use Rattle.check_types.proofs.steps.Answering.{exit}
use Rattle.ob_syntax.specs.Plain.{plain_option, plain_consts, plain_types, plain_vars}
use Rattle.check_making.proofs.parameters.Answering.{refused, no_memory}
use Rattle.check_procedures.specs.Parts.{first_parts}
use Rattle.check_procedures.proofs.Giving.{given_so}
use Rattle.check_procedures.proofs.Uprights.{first_parts_upright}
use Rattle.check_procedures.proofs.Steadiness.{first_parts_steady, built_so}
use Rattle.check_procedures.proofs.first_parts.before_procedures.Goals as goal
use Rattle.check_making.proofs.headings.Heads.{by_given as came}

pub returns-in_err-first_parts-clause-judged : goal.returns-in_err-first_parts-clause-judged
returns-in_err-first_parts-clause-judged c = λ m h. exit _ c.from_residual.ensures.1 (refused (c.in_err-first_parts.ensures.judged m h.makes))

pub returns-in_err-count_signatures-clause-judged : goal.returns-in_err-count_signatures-clause-judged
returns-in_err-count_signatures-clause-judged c = λ m h. exit _ c.from_residual-in_err-count_signatures.ensures.1 (no_memory _ c.in_err-count_signatures.ensures.memory)

pub returns-clause-judged : goal.returns-clause-judged
returns-clause-judged c = λ m h.
    let p = c.args.round.now.source.now in
    let consts = plain_option plain_consts c.args.consts.now in
    let types = plain_option plain_types c.args.types.now in
    let vars = plain_option plain_vars c.args.vars.now in
    built_so c.args.round.now c.args.state.now m h c.first_parts.new.state (first_parts p consts types vars m) (first_parts_steady p consts types vars m)
    (record { grows = c.in_ok-first_parts.ensures.grows; few = c.in_ok-count_signatures.ensures.few }) _ (c.in_ok-first_parts.ensures.judged m h.makes)

pub returns-clause-legal : goal.returns-clause-legal
returns-clause-legal c = λ k m h up legal. c.in_ok-first_parts.ensures.legal k m h.makes up legal

pub first_parts-requires : goal.first_parts-requires
first_parts-requires c = record { settled = c.requires.settled; making = c.requires.making; makes = c.requires.represents.makes }

pub returns-clause-under_way : goal.returns-clause-under_way
returns-clause-under_way c =
    let old = c.requires in
    let p = c.args.round.now.source.now in
    let consts = plain_option plain_consts c.args.consts.now in
    let types = plain_option plain_types c.args.types.now in
    let vars = plain_option plain_vars c.args.vars.now in
    came (first_parts p consts types vars old.making) (returns-clause-judged c old.making old.represents) (λ a e built. record {
      settled = c.in_ok-first_parts.ensures.settled;
      so_far = old.so_far;
      making = a.1;
      represents = built.represents;
      upright = given_so a e (first_parts_upright p old.so_far consts types vars old.making old.upright);
    })

pub returns-clause-few : goal.returns-clause-few
returns-clause-few c = record { few = c.in_ok-count_signatures.ensures.few }
