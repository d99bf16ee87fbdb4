use Rattle.std.proofs.Common.{◌≡◌, rules}
use Rattle.countdown.specs.Countdown.{words_of}
use Rattle.countdown.proofs.WordsMade.{act_added, words_begun, words_done, made_in_step, made_defined}
use Rattle.countdown.proofs.lower.Goals as goal

made : (c : goal.In_ok-push-4) → c.push-4.new.self.items ≡ words_of c.args.program.now
made c =
    words_done c.args.program.now c.deref-act-items.result.now c.loop-act.act-index c.push-3.new.self.items c.loop-act.words.items c.push-4.new.self.items c.loop-act-test.false c.deref-act-items.ensures.value c.loop-act.invariant
    (words_begun c.args.program.now c.new-words.result.items c.push.new.self.items c.push-2.new.self.items c.push-3.new.self.items c.new-words.ensures.items c.in_ok-push.ensures.items c.in_ok-push-2.ensures.items c.in_ok-push-3.ensures.items)
    c.in_ok-push-4.ensures.items

pub loop-act-preserved : goal.loop-act-preserved
loop-act-preserved c = act_added c.deref-act-items.result.now c.loop-act.act-index _ c.loop-act.words.items c.add_act.new.words.items _ c.loop-act-test.true (search rules) c.loop-act.invariant c.in_ok-add_act.ensures

pub returns-clause-words : goal.returns-clause-words
returns-clause-words c = made c

pub returns-clause-in_step : goal.returns-clause-in_step
returns-clause-in_step c = made_in_step c.args.program.now c.push-4.new.self.items (made c)

pub returns-clause-defined : goal.returns-clause-defined
returns-clause-defined c = made_defined c.args.program.now c.push-4.new.self.items (made c)
