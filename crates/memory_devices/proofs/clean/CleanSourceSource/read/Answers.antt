use Rattle.std.proofs.Common.{◌≡◌, ◌+◌, ◌≤◌, length, refl, ap, sym, ◌∙◌, arith}
use Rattle.memory_devices.proofs.Holding.{given_rest}
use Rattle.memory_devices.proofs.clean.CleanSourceSource.read.Goals as goal

pub returns-clause-gives : goal.returns-clause-gives
returns-clause-gives c =
    let whole : c.len.result ≡ length c.self.inside.bytes.items = c.len.ensures ∙ sym c.deref.ensures.len ∙ ap length c.deref.ensures.value in
    let fits : c.self.inside.given + c.min-count.result ≤ length c.self.inside.bytes.items = omega (arith, c.self.invariant, c.min-count.ensures, whole) in
    (_, refl, sym c.self.view_is ∙ given_rest c.self.inside.bytes.items _ _ _ c.self.inside.given c.min-count.result c.deref.ensures.value fits c.copy_from_slice.ensures.after)
