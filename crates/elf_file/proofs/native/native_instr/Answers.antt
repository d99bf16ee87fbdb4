use Rattle.std.proofs.Common.{sym, ◌∙◌}
use Rattle.elf_file.proofs.Others.{native_other}
use Rattle.elf_file.proofs.native.native_instr.Goals as goal

pub returns-in_default : goal.returns-in_default
returns-in_default c = c.on_frame.ensures ∙ sym (native_other c.args.size c.args.place c.args.before c.args.instr c.in_default.not-Svc c.in_default.not-Brk)
